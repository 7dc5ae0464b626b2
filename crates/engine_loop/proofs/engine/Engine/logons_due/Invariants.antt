use Rattle.std.proofs.Common.{ℕ, ◌<◌, ◌≤◌}
use Rattle.std.specs.Prelude.{◌↔◌, slice_index_or}
use Rattle.connection_core.specs.Connection.{IsLate}
use Rattle.gate_io.specs.declared.clocks.TheConstants.{LAST_MOMENT}
use Rattle.switchboard.specs.Board.{connection_at}
use Rattle.wire_desk.specs.Places.{open_places}
use Rattle.engine_loop.proofs.engine.Engine.logons_due.Given as goal

-- none of the connections so far is late exactly before the least moment so far
abbrev pub invariant-loop-i : goal.invariant-loop-i
invariant-loop-i l = (moment : ℕ) → moment ≤ LAST_MOMENT → (((i : ℕ) → i < l.i → IsLate (connection_at l.self.sessions.desk.board (slice_index_or (open_places l.self.lines) i 0)) moment → ⊥) ↔ (moment < l.least))
