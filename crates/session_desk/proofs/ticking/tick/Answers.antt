use Rattle.std.proofs.Common.{inl, inr, ℕ, List, Option, None, get_or, ap, subst, ◌∙◌}
use Rattle.switchboard.specs.Happenings.{Reaches}
use Rattle.session_desk.specs.Steps.{ending}
use Rattle.session_desk.proofs.Stopping.{on_err}
use Rattle.session_desk.proofs.ticking.tick.Goals as goal

pub returns-clause-ticks : goal.returns-clause-ticks
returns-clause-ticks c =
    let place = ap (λ (places : List (Option ℕ)). get_or places c.args.s None) c.take_tick.ensures.places in
    record {
      gathered = c.gather.new.desk;
      lapsed = c.lapse.new.desk.board;
      gathers = c.in_ok-gather.ensures.gathers;
      lapses = c.in_ok-lapse.ensures.lapses;
      end_is = c.in_ok-cause.ensures.end;
      follows = (
        c.take_tick.new.desk.board,
        (
          c.in_ok-cause.ensures.happens,
          subst (λ p. Reaches (ending c.args.s p c.in_ok-cause.cause) c.take_tick.new.desk.board c.end_if_bound.new.desk.board) place c.in_ok-end_if_bound.ensures.follows,
        ),
      );
      seat = c.end_if_bound.ensures.seat ∙ c.take_tick.ensures.seat ∙ c.lapse.ensures.seat;
    }

pub returns-in_err-lapse-clause-stops : goal.returns-in_err-lapse-clause-stops
returns-in_err-lapse-clause-stops c = on_err c.from_residual-in_err-lapse.result (inr (c.gather.new.desk, (c.in_ok-gather.ensures.gathers, inl c.in_err-lapse.ensures.nothing)))

pub returns-in_err-cause-clause-stops : goal.returns-in_err-cause-clause-stops
returns-in_err-cause-clause-stops c =
    on_err c.from_residual-in_err-cause.result
    (inr (c.gather.new.desk, (c.in_ok-gather.ensures.gathers, inr (c.lapse.new.desk.board, (c.in_ok-lapse.ensures.lapses, c.in_err-cause.ensures.stops)))))

pub returns-in_err-end_if_bound-clause-stops : goal.returns-in_err-end_if_bound-clause-stops
returns-in_err-end_if_bound-clause-stops c =
    let lapsed = c.lapse.new.desk.board in
    let stops = c.stops_are_told.ensures.ticks c.args.s c.args.at lapsed c.take_tick.new.desk.board c.end_if_bound.new.desk.board c.in_ok-cause.ensures.happens c.in_err-end_if_bound.ensures.nothing in
    on_err c.from_residual-in_err-end_if_bound.result (inr (c.gather.new.desk, (c.in_ok-gather.ensures.gathers, inr (lapsed, (c.in_ok-lapse.ensures.lapses, stops)))))
