-- A session's log and names, with a connection on which items of it wait.
use Rattle.std.specs.Prelude.{List}
use Rattle.message_log.specs.declared.entry.OutEntry.{OutEntry}
use Rattle.resend_plan.specs.declared.item.Names2.{Names2}
use Rattle.resend_plan.specs.declared.item.WireItem.{WireItem}
use Rattle.resend_plan.specs.Fit.{AreShort, HasFitBodies}
use Rattle.connection_core.specs.Connection.{ConnectionState}
use Rattle.connection_core.specs.Items.{AreItemsOf}

-- the names and the bodies are within the limits, and some items of the log were queued
pub record IsDesk (log : List (List OutEntry)) (names : Names2) (state : ConnectionState) : Type 0 where
  pub short : AreShort names
  pub fit : HasFitBodies log
  pub items : List WireItem
  pub queued : AreItemsOf names log items state.out.outgoing
