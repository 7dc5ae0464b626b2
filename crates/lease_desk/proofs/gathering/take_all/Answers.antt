use Rattle.std.proofs.Common.{arith, subst, sym}
use Rattle.std.proofs.lemmas.List.{length_push}
use Rattle.std.proofs.lemmas.List.Elements.{All-push}
use Rattle.std.proofs.lemmas.Grind.{common_steps}
use Rattle.std.specs.List.{All}
use Rattle.switchboard.specs.Fit.{IsFit}
use Rattle.lease_desk.specs.Desk.{TakesItems}
use Rattle.lease_desk.proofs.Takes.{item_fit, next_take}
use Rattle.lease_desk.proofs.gathering.take_all.Goals as goal

pub loop-item-preserved : goal.loop-item-preserved
loop-item-preserved c =
    let item = c.in-Some.item in
    let told = c.in-Some.ensures in
    let pushed = c.push_back_reserved.ensures.items in
    record {
      takes = subst (TakesItems c.args.s c.args.seat.now c.take.new.seat) (sym pushed) (next_take c.args.s c.args.seat.now c.loop-item.seat c.take.new.seat c.loop-item.bodies.items item c.loop-item.invariant.takes told.item told.session);
      fit = subst (All IsFit) (sym pushed) (All-push IsFit c.loop-item.bodies.items item.body c.loop-item.invariant.fit (item_fit c.fit_bodies_are_bodies.ensures item.body item.fit item.short));
      count = (let more = length_push c.loop-item.bodies.items item.body in let left = told.pending in let was = c.loop-item.invariant.count in rw pushed (omega arith));
      settled = λ was. told.told (c.loop-item.invariant.settled was);
      others_taken = λ was. told.others;
      table = grind (arith, common_steps);
      capacity = grind (arith, common_steps);
    }
