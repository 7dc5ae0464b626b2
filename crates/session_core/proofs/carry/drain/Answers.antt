use Rattle.std.proofs.Common.{◌≡◌, ◌-◌, sym, ◌∙◌, refl, arith}
use Rattle.seq_gaps.specs.declared.offered.TheConstants.{HELD_LIMIT}
use Rattle.session_core.proofs.Drains.{both, drained-zero, drain-stops, drain-goes_on}
use Rattle.session_core.proofs.carry.drain.Goals as goal

pub returns-in-None : goal.returns-in-None
returns-in-None c =
    drain-stops (HELD_LIMIT - c.loop-i.i) c.loop-i.line _ c.loop-i.acts.items _ (sym c.in-None.ensures.item) c.in-None.ensures.line (c.loop-i.invariant.same _ refl)

pub loop-i-preserved : goal.loop-i-preserved
loop-i-preserved c = record {
  same = λ k left. drain-goes_on (HELD_LIMIT - c.loop-i.i) k c.loop-i.line c.take_ready.new.self _ c.loop-i.acts.items _ c.in-Some.task _ (omega arith) (sym c.in-Some.ensures.item) c.in-Some.ensures.line c.carry.ensures.progress (c.loop-i.invariant.same _ refl);
  room = omega (arith, c.in-Some.ensures.held, c.carry.ensures.held);
}

pub returns : goal.returns
returns c =
    let none_left : HELD_LIMIT - c.loop-i.i ≡ 0 = omega arith in
    sym (drained-zero (both c.loop-i.line c.loop-i.acts.items)) ∙ c.loop-i.invariant.same 0 (sym none_left)
