-- What waits on connections is of a session's log, so that it can be written.
use Rattle.std.specs.Prelude.{◌≡◌, List, ◌++◌}
use Rattle.connection_core.specs.Items.{AreItemsOf}
use Rattle.connection_core.specs.Outgoing.{Outgoing}
use Rattle.resend_plan.specs.declared.item.Names2.{Names2}
use Rattle.resend_plan.specs.declared.item.WireItem.{WireItem}
use Rattle.session_core.specs.declared.names.Names.{Names}
use Rattle.session_book.specs.Book.{Book, Desk}

-- a session's names, as what is written has them
abbrev pub written_names : Names → Names2
written_names names = record { us = names.us; them = names.them }

-- what waits on a connection are items of the session's log
pub record CanBeWritten (book : Book) (out : Outgoing) : Type 0 where
  pub items : List WireItem
  pub are : AreItemsOf (written_names book.machine.names) book.outbound items out

-- What could be written still can: here, on the session's connection, with further items behind those that were queued, and there, on any other one,
-- as it was.
pub record StaysWritable (old new : Desk) : Type 0 where
  pub names : new.book.machine.names ≡ old.book.machine.names
  pub further : List WireItem
  pub here : (names : Names2) (items : List WireItem) → AreItemsOf names old.book.outbound items old.outgoing → AreItemsOf names new.book.outbound (items ++ further) new.outgoing
  pub there : (names : Names2) (items : List WireItem) (out : Outgoing) → AreItemsOf names old.book.outbound items out → AreItemsOf names new.book.outbound items out
