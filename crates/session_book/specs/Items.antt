-- What a journal tells of what is to be written on a connection.
use Rattle.std.specs.Prelude.{◌≡◌, ℕ, ◌≤◌, ◌==◌, Bool, false, if◌then◌else◌, List, [], ◌∷◌, ◌++◌, length, take, Option, None, Some}
use Rattle.std.specs.List.{All}
use Rattle.connection_core.specs.Outgoing.{with_items}
use Rattle.lease_core.specs.State.{State as Totals, sent_in_series, series_of, state_after, state_of}
use Rattle.lease_core.specs.declared.entry.Entry.{Entry}
use Rattle.lease_core.specs.declared.entry.Entry.TheVariants.{Admin, Plan, Send}
use Rattle.message_log.specs.Growth.{GoesOn}
use Rattle.message_log.specs.Series.{series_at}
use Rattle.message_log.specs.declared.entry.OutEntry.{OutEntry}
use Rattle.resend_plan.specs.Plan.{plan_of}
use Rattle.resend_plan.specs.Wire.{NamesEntry}
use Rattle.resend_plan.specs.declared.item.WireItem.{WireItem}
use Rattle.resend_plan.specs.declared.item.WireItem.TheVariants.{New}
use Rattle.session_book.specs.Book.{Desk}

abbrev pub is_connection : Option ℕ → ℕ → Bool
is_connection None c = false
is_connection (Some bound) c = bound == c

-- the items of an entry: its number, or of a plan the items over the entries of its series up to there
abbrev pub items_of_entry : List (List OutEntry) → Totals → Entry → List WireItem
items_of_entry log s (Admin number) = New (series_of s) number ∷ []
items_of_entry log s (Send lease library ordinal number) = New (series_of s) number ∷ []
items_of_entry log s (Plan begin last at) = plan_of (take (sent_in_series s) (series_at log (series_of s))) (series_of s) begin last at
items_of_entry log s _ = []

-- an entry is for the connection to which the session is bound as it is made
abbrev pub items_for : ℕ → List (List OutEntry) → Totals → Entry → List WireItem
items_for c log s e = if is_connection s.bound c then items_of_entry log s e else []

-- the items of connection c that entries tell, which follow those that came to this state
abbrev pub items_from : ℕ → List (List OutEntry) → Totals → List Entry → List WireItem
items_from c log s [] = []
items_from c log s (e ∷ es) = items_for c log s e ++ items_from c log (state_after s e) es

-- the items of connection c that these entries tell, which follow those before
abbrev pub items_behind_entries : ℕ → List (List OutEntry) → List Entry → List Entry → List WireItem
items_behind_entries c log before entries = items_from c log (state_of before) entries

-- the log has what was sent before each of the entries
abbrev pub HasWhatWasSent : List (List OutEntry) → Totals → List Entry → Type 0
HasWhatWasSent log s [] = Unit {0}
HasWhatWasSent log s (e ∷ es) = (sent_in_series s ≤ length (series_at log (series_of s))) × HasWhatWasSent log (state_after s e) es

-- What came to wait on connection c is what the entries tell that came to the journal, in order. Each item names an entry of the log, so that it can be
-- written.
pub record QueuesWhatIsTold (c : ℕ) (old new : Desk) : Type 0 where
  pub added : List Entry
  pub entries_are : new.book.entries ≡ old.book.entries ++ added
  pub goes_on : GoesOn old.book.outbound new.book.outbound
  pub sent : HasWhatWasSent new.book.outbound (state_of old.book.entries) added
  pub named : All (NamesEntry new.book.outbound) (items_behind_entries c new.book.outbound old.book.entries added)
  pub queued : new.outgoing ≡ with_items (items_behind_entries c new.book.outbound old.book.entries added) old.outgoing
