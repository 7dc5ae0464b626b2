use Rattle.std.proofs.Common.{◌∙◌}
use Rattle.session_speed.proofs.market.markets_stay_open.Goals as goal

pub returns : goal.returns
returns c = record {
  stays = λ happening old new apart is was.
      let goes = c.boards_go_on.ensures.happening happening old new is in
      record {
        before = was.before;
        ready = c.boards_stay_ready.ensures.happening was.before happening old new is was.ready;
        one = goes.sessions ∙ was.one;
        line = c.boards_go_on.ensures.count happening old new apart is ∙ was.line;
        accepts = (goes.same 0).dials ∙ was.accepts;
      };
}
