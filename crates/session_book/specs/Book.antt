-- One session as the engine keeps it.
use Rattle.std.specs.Prelude.{◌≡◌, ℕ, ◌+◌, List, [], ◌∷◌, length}
use Rattle.connection_core.specs.Outgoing.{Outgoing}
use Rattle.lease_core.specs.declared.entry.Entry.{Entry}
use Rattle.lease_core.specs.declared.event.Event.{Event}
use Rattle.lease_core.specs.Steps.{entries_after}
use Rattle.message_log.specs.Series.{series_at}
use Rattle.message_log.specs.declared.entry.OutEntry.{OutEntry}
use Rattle.resend_plan.specs.declared.item.WireItem.{WireItem}
use Rattle.session_core.specs.State.{State}

-- the session machine, how often the session can be granted, its journal, and its two logs, of which the outbound one
-- falls into series
pub record Book : Type 0 where
  pub machine : State
  pub leases : ℕ
  pub entries : List Entry
  pub inbound : List (List ℕ)
  pub outbound : List (List OutEntry)

-- a session with what waits on the connection to which it is bound
pub record Desk : Type 0 where
  pub book : Book
  pub outgoing : Outgoing

abbrev pub with_outbox : Book → Outgoing → Desk
with_outbox book outgoing = record { book = book; outgoing = outgoing }

-- the number of the present series, and of its next entry
abbrev pub present_series : Book → ℕ
present_series book = length book.outbound

abbrev pub next_number : Book → ℕ
next_number book = length (series_at book.outbound (present_series book)) + 1

-- the journal has the entry of an event more
abbrev pub with_event : Event → Book → Book
with_event event book = record book { entries = entries_after book.leases book.entries event }

abbrev pub with_machine : State → Book → Book
with_machine machine book = record book { machine = machine }

-- each item that is queued sets the moment of the last sending
abbrev pub after_sending : ℕ → List WireItem → State → State
after_sending at [] machine = machine
after_sending at (item ∷ items) machine = record machine { sent = at }

abbrev pub with_sending : ℕ → List WireItem → Book → Book
with_sending at items book = with_machine (after_sending at items book.machine) book

-- the same session: its names, and whether it dials
pub record IsSameSession (old new : Book) : Type 0 where
  pub names : new.machine.names ≡ old.machine.names
  pub dials : new.machine.dials ≡ old.machine.dials
