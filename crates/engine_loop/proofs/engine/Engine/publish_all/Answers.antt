use Rattle.std.proofs.Common.{add-one, ◌∙◌}
use Rattle.engine_loop.proofs.engine.Engine.publish_all.Goals as goal

pub loop-s-preserved : goal.loop-s-preserved
loop-s-preserved c =
    let was = c.loop-s.invariant in
    let now = c.publish_session.ensures in
    record {
      turn = rw add-one (c.loop-s.self, was.turn, now.publishes);
      work = now.work;
      online = λ door links at_first. now.online door links (was.online door links at_first);
      board = now.board ∙ was.board;
      room = c.publish_session.ensures.room;
      failed = now.failed ∙ was.failed;
    }
