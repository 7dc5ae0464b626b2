-- What a library knows.
use Rattle.std.specs.Prelude.{ℕ, ◌==◌, nat_lt, ◌&&◌, Bool, if◌then◌else◌, List, Option, None, slice_index_or, slice_set, replicate}
use Rattle.lease_words.specs.declared.view.LibrarySession.{LibrarySession}
use Rattle.lease_words.specs.Leases.{held_lease, held_count}
use Rattle.lease_words.specs.Views.{LibraryView, library_at}
use Rattle.library_api.specs.declared.reading.Reading.{Reading}
use Rattle.library_api.specs.declared.reading.Message.{Message}
use Rattle.library_api.specs.declared.waited.WaitKind.{WaitKind}
use Rattle.library_api.specs.Waits.{Waits, waits_after, no_waits}
use Rattle.library_api.specs.Ends.{EndsView}

pub record Known : Type 0 where
  -- how many requests it may make, and how many it made, which is the number of the last one
  pub asks : ℕ
  pub asked : ℕ
  -- the number of the request that is unanswered
  pub unanswered : Option ℕ
  -- for each session from 0 on the lease that it was granted, and the position to read next
  pub readings : List Reading
  -- the message whose position wasn't published when it was looked at
  pub kept : Option Message
  pub ends : EndsView
  pub waited : Waits

abbrev pub no_reading : Reading
no_reading = record { lease = 0; next = 0 }

-- how many sessions have a reading
abbrev pub reading_count : ℕ
reading_count = 64

-- a library that has done nothing
abbrev pub new_library : EndsView → ℕ → Known
new_library ends asks = record { asks = asks; asked = 0; unanswered = None; readings = replicate reading_count no_reading; kept = None; ends = ends; waited = no_waits }

abbrev pub reading_at : Known → ℕ → Reading
reading_at k s = slice_index_or k.readings s no_reading

abbrev pub with_reading : Known → ℕ → Reading → Known
with_reading k s r = record k { readings = slice_set k.readings s r }

abbrev pub without_reading : Known → ℕ → Known
without_reading k s = with_reading k s no_reading

-- what its seat knows of a session
abbrev pub session_at : Known → ℕ → LibrarySession
session_at k s = library_at k.ends.seat s

abbrev pub with_seat : Known → LibraryView → Known
with_seat k seat = record k { ends = record k.ends { seat = seat } }

-- The lease of a session that the library holds, or 0: the one that it was granted, while its seat holds it.
abbrev pub lease_in : ℕ → ℕ → ℕ
lease_in granted seated = if granted == seated then granted else 0

abbrev pub held : Known → ℕ → ℕ
held k s = lease_in (reading_at k s).lease (held_lease (session_at k s).leases)

-- how many sends the lease made that the seat holds
abbrev pub sends_made : Known → ℕ → ℕ
sends_made k s = held_count (session_at k s).leases

-- the library holds this lease of the session
abbrev pub holds : Known → ℕ → ℕ → Bool
holds k s lease = nat_lt 0 lease && (held k s == lease)

-- a call waited for this
abbrev pub after_waiting : WaitKind → Known → Known
after_waiting kind k = record k { waited = waits_after kind k.waited }
