-- What is kept of a session for the lines behind its entries, and for the calls of libraries.
use Rattle.std.specs.Prelude.{ℕ, ◌+◌, ◌-◌, ◌==◌, ◌&&◌, nat_lt, Bool, false, if◌then◌else◌, List, [], ◌∷◌, ◌++◌, length, drop, replicate, slice_get, slice_set, slice_index_or, slice_index, take, codes, Option, Some, None, is_none}
use Rattle.std.specs.List.{list_all}
use Rattle.std.specs.Str.{bytes_eq}
use Rattle.fix_fields.specs.Fit.{is_session_type, unfit_at}
use Rattle.lease_core.specs.declared.entry.Entry.{Entry}
use Rattle.lease_core.specs.declared.entry.Entry.TheVariants as entries
use Rattle.lease_core.specs.declared.entry.Holding.{Holding}
use Rattle.journal_audit.specs.declared.session.Deed.{Deed}
use Rattle.journal_audit.specs.declared.session.Deed.TheVariants as deed
use Rattle.journal_audit.specs.declared.session.Mark.{Mark}
use Rattle.journal_audit.specs.declared.session.Mark.TheVariants as mark
use Rattle.journal_audit.specs.declared.session.Reader.{Reader}
use Rattle.journal_audit.specs.declared.session.TheConstants.{LIBRARY_PLACES}

-- The bodies of the `in` lines, the entries that have an `out` or a `series` line, the bodies of those lines as far as they came (a
-- `series` line has none), what was read by each lease, and the sends and releases that no call has told yet, at place l those of library l.
pub record SessionSeen : Type 0 where
  pub inbound : List (List ℕ)
  pub marks : List Mark
  pub bodies : List (List ℕ)
  pub readers : List Reader
  pub owed : List (List Deed)

-- before the first entry
abbrev pub no_session : SessionSeen
no_session = record { inbound = []; marks = []; bodies = []; readers = []; owed = replicate LIBRARY_PLACES [] }

-- the sends and releases of a library
abbrev pub owed_by : List (List Deed) → ℕ → List Deed
owed_by owed library = slice_index_or owed library []

-- with one more of a library
abbrev pub owed_with : ℕ → Deed → List (List Deed) → List (List Deed)
owed_with library d owed = slice_set owed library (owed_by owed library ++ d ∷ [])

-- without the first of a library
abbrev pub owed_without : ℕ → List (List Deed) → List (List Deed)
owed_without library owed = slice_set owed library (drop 1 (owed_by owed library))

abbrev pub with_mark : Mark → SessionSeen → SessionSeen
with_mark m seen = record seen { marks = seen.marks ++ m ∷ [] }

abbrev pub with_deed : ℕ → Deed → SessionSeen → SessionSeen
with_deed library d seen = record seen { owed = owed_with library d seen.owed }

-- one entry more
unfoldable pub session_after : SessionSeen → Entry → SessionSeen
session_after seen (entries.Admin number) = with_mark (mark.Admin number) seen
session_after seen (entries.Send lease library ordinal number) = with_mark (mark.Send number) (with_deed library (deed.Sent lease ordinal (length seen.marks)) seen)
session_after seen (entries.Reset series) = with_mark (mark.Series series) seen
session_after seen (entries.Release lease library count heir) = with_deed library (deed.GaveBack lease count heir) seen
session_after seen _ = seen

-- who reads by a lease: its library, from the position at which the replay begins, up to the end of the holding
abbrev pub reader_of : Holding → Reader
reader_of h = record { library = h.library; next = h.from; end = h.end }

-- One holding more. Lease k is at place k, counted from 1.
unfoldable pub with_holding : Holding → SessionSeen → SessionSeen
with_holding h seen = if h.library == 0 then seen else record seen { readers = seen.readers ++ reader_of h ∷ [] }

-- The body of a session message: its first field is MsgType (35), of one of the seven types. 1 is the code of SOH.
unfoldable pub is_session_body : List ℕ → Bool
is_session_body body = bytes_eq (take 3 body) (codes "35=") && is_session_type (take 1 (drop 3 body)) && (slice_index body 4 == 1)

-- a body that a library may send
unfoldable pub is_fit_body : List ℕ → Bool
is_fit_body body = is_none (unfit_at body)

-- the `out` line of this entry
abbrev pub fits_mark : Option Mark → ℕ → List ℕ → Bool
fits_mark None number body = false
fits_mark (Some (mark.Admin n)) number body = (number == n) && is_session_body body
fits_mark (Some (mark.Send n)) number body = (number == n) && is_fit_body body
fits_mark (Some (mark.Series n)) number body = false

-- the `series` line of this entry
abbrev pub fits_series : Option Mark → ℕ → Bool
fits_series None series = false
fits_series (Some (mark.Admin n)) series = false
fits_series (Some (mark.Send n)) series = false
fits_series (Some (mark.Series n)) series = series == n

-- the entry whose line comes next
abbrev pub next_mark : SessionSeen → Option Mark
next_mark seen = slice_get seen.marks (length seen.bodies)

-- the list has these bytes at the place
abbrev is_bytes : List ℕ → Option (List ℕ) → Bool
is_bytes bytes None = false
is_bytes bytes (Some found) = bytes_eq found bytes

abbrev pub has_bytes : List (List ℕ) → ℕ → List ℕ → Bool
has_bytes list place bytes = is_bytes bytes (slice_get list place)

-- the library's lease has this position next, and it is below the holding's end
abbrev pub is_next_for : Option Reader → ℕ → ℕ → Bool
is_next_for None library pos = false
is_next_for (Some r) library pos = (r.library == library) && (r.next == pos) && nat_lt pos r.end

-- a message of a lease of this library, the next one, as the session has it
unfoldable pub is_read : SessionSeen → ℕ → ℕ → ℕ → List ℕ → Bool
is_read seen library lease pos body = nat_lt 0 lease && is_next_for (slice_get seen.readers (lease - 1)) library pos && has_bytes seen.inbound pos body

abbrev pub no_reader : Reader
no_reader = record { library = 0; next = 0; end = 0 }

-- behind a message at this position
unfoldable pub session_after_read : ℕ → ℕ → SessionSeen → SessionSeen
session_after_read lease pos seen = record seen { readers = slice_set seen.readers (lease - 1) (record (slice_index_or seen.readers (lease - 1) no_reader) { next = pos + 1 }) }

-- a send with these numbers, whose `out` line has this body
abbrev pub fits_sent : List (List ℕ) → Option Deed → ℕ → ℕ → List ℕ → Bool
fits_sent bodies None lease ordinal body = false
fits_sent bodies (Some (deed.Sent l o place)) lease ordinal body = (l == lease) && (o == ordinal) && has_bytes bodies place body
fits_sent bodies (Some (deed.GaveBack l c h)) lease ordinal body = false

-- the library's next send or release is this send
unfoldable pub is_sent : SessionSeen → ℕ → ℕ → ℕ → List ℕ → Bool
is_sent seen library lease ordinal body = fits_sent seen.bodies (slice_get (owed_by seen.owed library) 0) lease ordinal body

abbrev pub fits_release : Option Deed → ℕ → ℕ → ℕ → Bool
fits_release None lease count heir = false
fits_release (Some (deed.Sent l o place)) lease count heir = false
fits_release (Some (deed.GaveBack l c h)) lease count heir = (l == lease) && (c == count) && (h == heir)

-- the library's next send or release is this release
unfoldable pub is_given_back : SessionSeen → ℕ → ℕ → ℕ → ℕ → Bool
is_given_back seen library lease count heir = fits_release (slice_get (owed_by seen.owed library) 0) lease count heir

-- behind a call that told it
unfoldable pub session_after_deed : ℕ → SessionSeen → SessionSeen
session_after_deed library seen = record seen { owed = owed_without library seen.owed }

abbrev pub is_told : List Deed → Bool
is_told deeds = length deeds == 0

-- each send and release was told
unfoldable pub all_told : SessionSeen → Bool
all_told seen = list_all is_told seen.owed
