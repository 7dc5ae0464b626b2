use Rattle.std.proofs.Common.{◌≡◌}
use Rattle.std.specs.Prelude.{replicate}
use Rattle.session_desk.specs.Steps.{nothing_noted}
use Rattle.engine_loop.proofs.starting.unkept.Given as goal

-- those of the sessions so far
abbrev pub invariant-loop-s : goal.invariant-loop-s
invariant-loop-s l = l.unkept.items ≡ replicate l._s nothing_noted
