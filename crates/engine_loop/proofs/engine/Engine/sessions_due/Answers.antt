use Rattle.std.proofs.Common.{◌≡◌, ℕ, ◌+◌, ◌<◌, arith, length, subst, sym}
use Rattle.std.specs.Prelude.{◌↔◌}
use Rattle.engine_loop.specs.Due.{IsSessionQuiet}
use Rattle.engine_loop.proofs.Least.{quiet_of_all, quiet_with_one}
use Rattle.engine_loop.proofs.engine.Engine.sessions_due.Goals as goal

pub loop-s-preserved : goal.loop-s-preserved
loop-s-preserved c = λ moment until.
    let e = c.args.self.now in
    subst (λ least. ((s : ℕ) → s < c.loop-s.s + 1 → IsSessionQuiet e s moment) ↔ (moment < least)) (sym c.min-least.ensures)
    (quiet_with_one (λ s. IsSessionQuiet e s moment) c.loop-s.s moment c.loop-s.least c.session_due.result (c.loop-s.invariant moment until) (c.session_due.ensures moment until))

pub returns : goal.returns
returns c = λ moment until.
    let e = c.args.self.now in
    let all : c.loop-s.s ≡ length e.sessions.desk.board.sessions = (let least = c.loop-s-test.false in let most = c.loop-s.auto.s-end in let count = c.sessions-s-end.ensures.sessions in omega arith) in
    quiet_of_all (λ s. IsSessionQuiet e s moment) c.loop-s.s (length e.sessions.desk.board.sessions) moment c.loop-s.least all (c.loop-s.invariant moment until)
