use Rattle.std.proofs.Common.{add-one, arith, inl, inr, subst, ◌∙◌}
use Rattle.std.proofs.lemmas.Bool.{cases_lt}
use Rattle.engine_end.specs.Finishing.{GathersSome, HasAllOf}
use Rattle.engine_end.proofs.Recorded.{on_err}
use Rattle.engine_end.proofs.gathering.gather_all.Goals as goal

pub returns-in_err-gather-clause-stops : goal.returns-in_err-gather-clause-stops
returns-in_err-gather-clause-stops c =
    let some : GathersSome c.args.at c.args.until c.args.desk.now c.gather.new.desk = record {
      count = c.loop-s.s;
      few = (let count = c.sessions-s-end.ensures.sessions in let small = c.loop-s-test.true in omega arith);
      between = c.loop-s.desk;
      gathers = c.loop-s.invariant.turn;
      rests = c.in_err-gather.ensures.rests;
    } in
    on_err c.from_residual.result some

pub loop-s-preserved : goal.loop-s-preserved
loop-s-preserved c =
    let was = c.loop-s.invariant in
    let now = c.in_ok-gather.ensures in
    record {
      turn = rw add-one (c.loop-s.desk, was.turn, now.gathers);
      settled = λ s small. elim (cases_lt s c.loop-s.s) [
        | inl less ↦ now.others s (λ same. omega arith) (was.settled s less)
        | inr least ↦ subst (HasAllOf c.gather.new.desk) (omega arith) now.settled
      ];
      steady = now.steady;
      goes_on = c.boards_go_on.ensures.further c.args.desk.now.board c.loop-s.desk.board c.gather.new.desk.board was.goes_on now.goes_on;
      connections = now.connections ∙ was.connections;
      table = now.table ∙ was.table;
    }
