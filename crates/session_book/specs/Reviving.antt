-- A session as it is read back from the records of a journal, one after another.
use Rattle.std.specs.Prelude.{◌≡◌, ℕ, ◌≤◌, ◌<◌, Bool, not, nat_eq, List, [], ◌∷◌, ◌++◌, codes, length, map, take, Option}
use Rattle.std.specs.Cmp.Lexicographic.{pointwise}
use Rattle.lease_core.specs.Lines.{entries_after_hold}
use Rattle.lease_core.specs.State.{state_of}
use Rattle.lease_core.specs.declared.entry.Entry.{Entry}
use Rattle.lease_core.specs.declared.entry.Entry.TheVariants.{Admin, Arrive, Reset, Send}
use Rattle.message_log.specs.Series.{with_entry}
use Rattle.message_log.specs.declared.entry.OutEntry.{OutEntry}
use Rattle.message_log.specs.declared.out_log.TheConstants.{LAST_SERIES}
use Rattle.resend_plan.specs.Fit.{HasFitBodies, IsFit}
use Rattle.seq_gaps.specs.Line.{after_fill, fresh_line}
use Rattle.fix_fields.specs.Field.{tagged_text}
use Rattle.session_core.specs.State.{new_state}
use Rattle.session_book.specs.Book.{Book}
use Rattle.session_book.specs.Words.{sent_entry}

-- how often the session can be granted, its journal, and its two logs, of which the outbound one falls into series
pub record ReadBack : Type 0 where
  pub leases : ℕ
  pub entries : List Entry
  pub inbound : List (List ℕ)
  pub outbound : List (List OutEntry)

-- The logs have as many entries as the journal tells, in each series. Outbound bodies are within their limits.
pub record IsReadBack (read : ReadBack) : Type 0 where
  pub inbound : length read.inbound ≡ (state_of read.entries).inbound
  pub outbound : map (λ entries. length entries) read.outbound ≡ (state_of read.entries).series
  pub begun : 1 ≤ length read.outbound
  pub fit : HasFitBodies read.outbound

-- nothing was read yet
abbrev pub nothing_read : ℕ → ReadBack
nothing_read leases = record { leases = leases; entries = []; inbound = []; outbound = [] ∷ [] }

-- the type field of a Reject
abbrev pub reject_type : List ℕ
reject_type = tagged_text (codes "35") (codes "3")

-- each body of a session message is that of a session entry but a Reject's
abbrev pub is_session_text : List ℕ → Bool
is_session_text body = not (pointwise nat_eq reject_type (take 5 body))

-- a session message in the outbound log
abbrev pub message_entry : ℕ → List ℕ → OutEntry
message_entry at body = record { at = at; admin = is_session_text body; body = body }

-- the body of an accepted message goes to the inbound log
abbrev pub inbound_with : Entry → List ℕ → List (List ℕ) → List (List ℕ)
inbound_with (Arrive pos) body log = log ++ body ∷ []
inbound_with _ body log = log

-- what was numbered goes to the outbound log with its moment, and a reset begins the next series
abbrev pub outbound_with : Entry → ℕ → List ℕ → List (List OutEntry) → List (List OutEntry)
outbound_with (Admin number) at body log = with_entry log (message_entry at body)
outbound_with (Send lease library ordinal number) at body log = with_entry log (sent_entry at body)
outbound_with (Reset series) at body log = log ++ [] ∷ []
outbound_with _ at body log = log

-- a record was read
abbrev pub after_read : Entry → ℕ → List ℕ → ReadBack → ReadBack
after_read e at body read = record read {
  entries = read.entries ++ e ∷ [];
  inbound = inbound_with e body read.inbound;
  outbound = outbound_with e at body read.outbound;
}

-- the body of what was numbered can be written
abbrev pub CanBeSent : Entry → List ℕ → Type 0
CanBeSent (Admin number) body = IsFit body
CanBeSent (Send lease library ordinal number) body = IsFit body
CanBeSent _ body = Unit {0}

-- a reset finds another series
abbrev pub LeavesSeries : Entry → List (List OutEntry) → Type 0
LeavesSeries (Reset series) log = length log < LAST_SERIES
LeavesSeries _ log = Unit {0}

-- The session goes on: bound to no connection as far as its machine knows, it expects this number, and where the entries end in a release with an
-- heir, the hold follows.
abbrev pub after_resume : List ℕ → List ℕ → Option ℕ → ℕ → ℕ → ReadBack → Book
after_resume us them dials expected until read = record {
  machine = new_state us them dials (after_fill fresh_line expected);
  leases = read.leases;
  entries = entries_after_hold until read.entries;
  inbound = read.inbound;
  outbound = read.outbound;
}
