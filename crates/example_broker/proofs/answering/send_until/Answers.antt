use Rattle.std.proofs.Common.{List, ℕ, suc, subst, ◌∙◌}
use Rattle.example_broker.specs.Answers.{FindsLaneFull}
use Rattle.example_broker.proofs.answering.send_until.Goals as goal

pub sending-preserved : goal.sending-preserved
sending-preserved g c =
    let was = c.sending.invariant in
    let tries = c.in-Full.ensures.tries in
    record {
      count = suc was.count;
      waits = (c.sending.library, was.waits, subst (λ (text : List ℕ). FindsLaneFull c.args.s text c.sending.library c.try_send.new.library) was.same tries.0);
      same = tries.1 ∙ was.same;
      belongings_stay = c.try_send.ensures.belongings ∙ was.belongings_stay;
    }
