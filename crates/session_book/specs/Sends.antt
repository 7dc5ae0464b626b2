-- What the outbound log has for the sends of a library.
use Rattle.std.specs.Prelude.{◌≡◌, ℕ, ◌==◌, if◌then◌else◌, IsSome, List, [], ◌∷◌, ◌++◌, flat_map, map}
use Rattle.std.specs.List.{All}
use Rattle.lease_core.specs.State.{last_lease, series_of, state_of}
use Rattle.lease_core.specs.State.{State as Totals}
use Rattle.lease_core.specs.declared.entry.Entry.{Entry}
use Rattle.lease_core.specs.declared.entry.Entry.TheVariants.{Send}
use Rattle.message_log.specs.Series.{entry_at}
use Rattle.message_log.specs.declared.entry.OutEntry.{OutEntry}
use Rattle.resend_plan.specs.Wire.{entry_of}
use Rattle.session_book.specs.Book.{Book}
use Rattle.session_book.specs.Spells.{Placed, placed_from}
use Rattle.session_book.specs.Words.{sent_entry}

-- the entry of the log with the number of a send of this library
abbrev pub sent_by : ℕ → List (List OutEntry) → Totals → Entry → List OutEntry
sent_by library log s (Send lease owner ordinal number) = if owner == library then entry_of log (series_of s) number ∷ [] else []
sent_by library log s _ = []

abbrev pub sent_at : ℕ → List (List OutEntry) → Placed → List OutEntry
sent_at library log p = sent_by library log p.before p.entry

-- the log has an entry with the number of the send
abbrev pub IsLoggedSend : List (List OutEntry) → Totals → Entry → Type 0
IsLoggedSend log s (Send lease owner ordinal number) = IsSome (entry_at log (series_of s) number)
IsLoggedSend log s _ = Unit {0}

abbrev pub HasSend : List (List OutEntry) → Placed → Type 0
HasSend log p = IsLoggedSend log p.before p.entry

-- These are the entries that the outbound log has for the library's sends behind the entries before, in the order of the journal.
pub record AreSendsOf (library : ℕ) (before : List Entry) (sends : List OutEntry) (book : Book) : Type 0 where
  pub added : List Entry
  pub entries_are : book.entries ≡ before ++ added
  pub logged : All (HasSend book.outbound) (placed_from (state_of before) added)
  pub sends_are : flat_map (sent_at library book.outbound) (placed_from (state_of before) added) ≡ sends

-- the bodies that were taken, as they are logged, where the last lease of the session is this library's
abbrev pub new_sends : ℕ → Book → ℕ → List (List ℕ) → List OutEntry
new_sends library book at bodies = if (last_lease (state_of book.entries).leases).library == library then map (sent_entry at) bodies else []
