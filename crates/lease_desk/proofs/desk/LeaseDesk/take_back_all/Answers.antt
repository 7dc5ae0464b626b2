use Rattle.std.proofs.Common.{add-one, ap, below_more, sym, ◌∙◌, arith}
use Rattle.lease_core.specs.State.{owner_of, state_of}
use Rattle.switchboard.specs.Book.{Book}
use Rattle.lease_desk.specs.Desk.{TakesBackSome}
use Rattle.lease_desk.proofs.GoingOn.{goes_on_further, on_err}
use Rattle.lease_desk.proofs.desk.LeaseDesk.take_back_all.Goals as goal

pub loop-s-preserved : goal.loop-s-preserved
loop-s-preserved c =
    let was = c.loop-s.invariant in
    let now = c.in_ok-take_back_from.ensures in
    record {
      turn = rw add-one (c.loop-s.self, was.turn, now.taken_back);
      gone = below_more _ _
          (λ j h same. was.gone j h (sym (ap (λ (b : Book). owner_of (state_of b.entries)) (now.others j (omega arith))) ∙ same))
          now.gone;
      in_step = now.in_step;
      table = now.table ∙ was.table;
      goes_on = λ j. goes_on_further _ _ _ j (was.goes_on j) (now.goes_on j);
      none_comes = now.none_comes ∙ was.none_comes;
      sessions = now.sessions ∙ was.sessions;
    }

pub returns-in_err-take_back_from-clause-stops : goal.returns-in_err-take_back_from-clause-stops
returns-in_err-take_back_from-clause-stops c =
    let some : TakesBackSome c.args.library c.args.at c.args.until c.args.self.now c.take_back_from.new.self = record {
      count = c.loop-s.s;
      few = (let count = c.sessions-s-end.ensures.sessions in let small = c.loop-s-test.true in omega arith);
      between = c.loop-s.self;
      taken_back = c.loop-s.invariant.turn;
      stops = c.in_err-take_back_from.ensures.nothing;
    } in
    on_err c.from_residual.result some
