-- What a report with the verdict Yes shows of reads, sends and releases, told over its sessions and its libraries' calls.
use Rattle.std.specs.Prelude.{◌≡◌, ◌⊎◌, ℕ, ◌+◌, ◌≤◌, ◌==◌, Bool, true, false, if◌then◌else◌, List, [], ◌∷◌, length, take, drop, zip, filter, flat_map, slice_get, slice_index_or, Some}
use Rattle.std.specs.List.{Contains}
use Rattle.lease_core.specs.Deeds.{deeds_of, deeds_of_library}
use Rattle.lease_core.specs.declared.entry.Entry.{Entry}
use Rattle.lease_core.specs.declared.entry.Entry.TheVariants as entries
use Rattle.lease_core.specs.declared.entry.Holding.{Holding}
use Rattle.lease_core.specs.declared.lease.Deed.{Deed}
use Rattle.lease_core.specs.declared.lease.Deed.TheVariants as deed
use Rattle.journal_audit.specs.Called.{Called, Reading, called_in, readings, deeds_called, bodies_called}
use Rattle.journal_audit.specs.Cut.{cut_of}
use Rattle.journal_audit.specs.Journals.{Journal, no_journal, journals_in}
use Rattle.journal_audit.specs.Verdicts.{IsVerdict}
use Rattle.journal_audit.specs.declared.auditing.Verdict.TheVariants.{Yes}

-- the sessions of a report in the order of their numbers, and the calls of its libraries in the order in which they stand there
pub record Shown : Type 0 where
  pub sessions : List Journal
  pub calls : List Called

abbrev pub shown_in : List ℕ → Shown
shown_in text = let lines = (cut_of text).lines in record { sessions = journals_in lines; calls = called_in 0 lines }

-- so it is of each report with the verdict Yes
abbrev pub OfEachRight : (Shown → Type 0) → Type 0
OfEachRight P = (text : List ℕ) → IsVerdict text Yes → P (shown_in text)

-- Reads.

-- messages as a library reads them, from this position on
abbrev pub read_from : ℕ → ℕ → List (List ℕ) → List Reading
read_from library pos [] = []
read_from library pos (body ∷ bodies) = record { library = library; pos = pos; body = body } ∷ read_from library (pos + 1) bodies

-- These were read by a lease of the session. The lease was granted to one library and is one of the holdings. That library read them, one behind another
-- from the position on that the grant names, none at or beyond the holding's end, and each with the body that the inbound log has there.
pub record IsPrefix (session : Journal) (lease : ℕ) (read : List Reading) : Type 0 where
  pub holding : Holding
  pub held : Contains session.holdings holding
  pub lease_is : holding.lease ≡ lease
  pub nr : ℕ
  pub granted : Contains session.entries (entries.Granted holding.library nr lease holding.from holding.start)
  pub within : holding.from + length read ≤ holding.end
  pub are : read ≡ read_from holding.library holding.from (take (length read) (drop holding.from session.inbound))

-- the session is one of the report
pub record IsPrefixIn (shown : Shown) (s lease : ℕ) (read : List Reading) : Type 0 where
  pub session : Journal
  pub at : slice_get shown.sessions s ≡ Some session
  pub is_prefix : IsPrefix session lease read

-- By each lease of each session either nothing was read, or a beginning of what the lease is given.
abbrev pub ReadsArePrefixes : Shown → Type 0
ReadsArePrefixes shown = (s lease : ℕ) → (readings s lease shown.calls ≡ []) ⊎ IsPrefixIn shown s lease (readings s lease shown.calls)

-- Sends and releases.

-- a session of the report, or an empty one where there is none
abbrev pub session_at : Shown → ℕ → Journal
session_at shown s = slice_index_or shown.sessions s no_journal

-- a send or a release, and not the engine's taking back
abbrev pub is_own : Deed → Bool
is_own (deed.Sent lease library ordinal) = true
is_own (deed.GaveBack lease library count heir) = true
is_own (deed.TookBack lease library count) = false

-- what a library sent and gave back, by a journal
abbrev pub own_deeds : ℕ → List Entry → List Deed
own_deeds library es = filter is_own (deeds_of_library library (deeds_of es))

-- The calls of a library that say that it sent or gave back, and the journal's sends and releases of it, are the same, each once and in one order: by
-- lease, with the send's ordinal, or the count of sends and the heir.
abbrev pub DeedsAreOwn : Shown → Type 0
DeedsAreOwn shown = (library s : ℕ) → deeds_called library s shown.calls ≡ own_deeds library (session_at shown s).entries

-- an entry for which something stands in the outbound log
abbrev pub is_logged : Entry → Bool
is_logged (entries.Admin number) = true
is_logged (entries.Send lease library ordinal number) = true
is_logged (entries.Reset series) = true
is_logged _ = false

abbrev pub body_sent : ℕ → Entry → List ℕ → List (List ℕ)
body_sent library (entries.Send lease whose ordinal number) body = if whose == library then body ∷ [] else []
body_sent library _ body = []

-- what a library sent, by a journal and the outbound log, which has something for each of those entries, in order
abbrev pub bodies_sent : ℕ → Journal → List (List ℕ)
bodies_sent library session = flat_map (λ logged. body_sent library logged.0 logged.1) (zip (filter is_logged session.entries) session.outbound)

-- What a library's calls say that it sent is what the outbound log has for its sends.
abbrev pub BodiesAreOwn : Shown → Type 0
BodiesAreOwn shown = (library s : ℕ) → bodies_called library s shown.calls ≡ bodies_sent library (session_at shown s)
