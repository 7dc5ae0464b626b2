use Rattle.std.proofs.Common.{◌≡◌, length}
use Rattle.connection_core.specs.Outgoing.{ends_behind}
use Rattle.connection_core.proofs.outbox.drop_ends.Given as goal

-- what is left comes to the same
abbrev pub invariant-loop-end : goal.invariant-loop-end
invariant-loop-end l = ends_behind l.written l.ends.items ≡ ends_behind l.written l.initial.ends.items

abbrev pub decreases-loop-end : goal.decreases-loop-end
decreases-loop-end l = length l.ends.items
