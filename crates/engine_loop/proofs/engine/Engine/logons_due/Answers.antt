use Rattle.std.proofs.Common.{◌≡◌, ℕ, ◌+◌, ◌<◌, arith, length, subst, sym}
use Rattle.std.specs.Prelude.{◌↔◌, slice_index_or}
use Rattle.connection_core.specs.Connection.{IsLate}
use Rattle.switchboard.specs.Board.{connection_at}
use Rattle.wire_desk.specs.Places.{open_places}
use Rattle.engine_loop.proofs.Least.{quiet_of_all, quiet_with_one}
use Rattle.engine_loop.proofs.engine.Engine.logons_due.Goals as goal

pub loop-i-preserved : goal.loop-i-preserved
loop-i-preserved c = λ moment until.
    let e = c.args.self.now in
    let here = subst (λ k. (IsLate (connection_at e.sessions.desk.board k) moment → ⊥) ↔ (moment < c.logon_due.result)) c.open_place.ensures (c.logon_due.ensures moment until) in
    subst (λ least. ((i : ℕ) → i < c.loop-i.i + 1 → IsLate (connection_at e.sessions.desk.board (slice_index_or (open_places e.lines) i 0)) moment → ⊥) ↔ (moment < least)) (sym c.min-least.ensures)
    (quiet_with_one (λ i. IsLate (connection_at e.sessions.desk.board (slice_index_or (open_places e.lines) i 0)) moment → ⊥) c.loop-i.i moment c.loop-i.least c.logon_due.result (c.loop-i.invariant moment until) here)

pub returns : goal.returns
returns c = λ moment until.
    let e = c.args.self.now in
    let all : c.loop-i.i ≡ length (open_places e.lines) = (let least = c.loop-i-test.false in let most = c.loop-i.auto.i-end in let count = c.open_count-i-end.ensures in omega arith) in
    quiet_of_all (λ i. IsLate (connection_at e.sessions.desk.board (slice_index_or (open_places e.lines) i 0)) moment → ⊥) c.loop-i.i (length (open_places e.lines)) moment c.loop-i.least all (c.loop-i.invariant moment until)
