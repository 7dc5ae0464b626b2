use Rattle.std.proofs.Common.{◌≡◌, ◌≤◌, length, All}
use Rattle.resend_plan.specs.Wire.{NamesEntry}
use Rattle.connection_core.specs.Outgoing.{HasMore, with_texts}
use Rattle.connection_core.proofs.outbox.Outbox.prepare.Given as goal

-- what is to be made comes to the same
abbrev pub invariant-loop-self : goal.invariant-loop-self
invariant-loop-self l = record {
  same : with_texts l.names l.log.series l.limit l.self.outgoing.unmade l.self.outgoing ≡ with_texts l.names l.log.series l.limit l.initial.self.outgoing.unmade l.initial.self.outgoing;
  more : HasMore l.names l.log.series l.initial.self.outgoing l.self.outgoing;
  named : All (NamesEntry l.log.series) l.self.outgoing.unmade;
  spare : l.initial.self.spare ≤ l.self.spare;
}

abbrev pub decreases-loop-self : goal.decreases-loop-self
decreases-loop-self l = length l.self.outgoing.unmade
