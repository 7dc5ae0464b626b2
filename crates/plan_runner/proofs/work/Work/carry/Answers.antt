use Rattle.std.proofs.Common.{◌≡◌, ℕ, ◌+◌, ◌-◌, ◌<◌, length, ap, sym, subst, ◌∙◌, arith}
use Rattle.plan_runner.specs.Stages.{stage_of}
use Rattle.plan_runner.specs.Turns.{IsUnderWay}
use Rattle.plan_runner.specs.declared.work.Work.{Work}
use Rattle.plan_runner.proofs.Stages.{further, longer}
use Rattle.plan_runner.proofs.work.Work.carry.Goals as goal

pub line-smaller : goal.line-smaller
line-smaller g c =
    let advances = c.in_ok-advance.ensures.advances c.if-not-branch.false in
    let e : length c.advance.new.self.calls.items ≡ length c.line.self.calls.items + 1 = longer _ _ _ (stage_of c.line.library c.line.self) (stage_of c.advance.new.library c.advance.new.self) advances in
    let vec = c.advance.new.self.calls in
    let fewer : 18446744073709551616 - length c.advance.new.self.calls.items < 18446744073709551616 - length c.line.self.calls.items = omega (arith, e, vec.small, vec.ok) in
    fewer

pub line-preserved : goal.line-preserved
line-preserved g c =
    let was = c.line.invariant in
    let now = c.advance.ensures in
    let advances = c.in_ok-advance.ensures.advances c.if-not-branch.false in
    record {
      way = subst (λ (n : ℕ). IsUnderWay (g.G.Gate.open_wide c.args.gate.now) n c.args.line.now (stage_of c.args.library.now c.args.self.now) (stage_of c.advance.new.library c.advance.new.self)) (sym (ap (λ (w : Work). w.turns) now.rest))
          (further _ _ _ _ (stage_of c.line.library c.line.self) _ was.way advances);
      belongings_stay = now.belongings ∙ was.belongings_stay;
      rest = now.rest ∙ ap (λ (w : Work). record w { passes = c.advance.new.self.passes; calls = c.advance.new.self.calls; left = c.advance.new.self.left }) was.rest;
    }
