use Rattle.std.proofs.Common.{ℕ, ◌<◌, ◌≤◌}
use Rattle.std.specs.Prelude.{◌↔◌}
use Rattle.engine_loop.specs.Due.{IsSessionQuiet}
use Rattle.gate_io.specs.declared.clocks.TheConstants.{LAST_MOMENT}
use Rattle.engine_loop.proofs.engine.Engine.sessions_due.Given as goal

-- nothing is due of the sessions so far exactly before the least moment so far
abbrev pub invariant-loop-s : goal.invariant-loop-s
invariant-loop-s l = (moment : ℕ) → moment ≤ LAST_MOMENT → (((s : ℕ) → s < l.s → IsSessionQuiet l.self s moment) ↔ (moment < l.least))
