use Rattle.std.proofs.Common.{◌≡◌, ◌-◌, ◌<◌, length, sym, ◌∙◌, arith}
use Rattle.std.proofs.lemmas.Bool.Decides.{nat_tests}
use Rattle.fix_fields.proofs.Ended.{fit_bodies_are_bodies}
use Rattle.fix_fields.proofs.Unfit.{check_start, check_field, check_fault, check_end}
use Rattle.fix_fields.proofs.WholeBody.{shorter}
use Rattle.fix_fields.proofs.fit.check_body.Goals as goal

pub loop-before-init : goal.loop-before-init
loop-before-init c =
    let some : 0 < length c.args.body.now = grind (arith, nat_tests) in
    let place : length c.args.body.now - length c.args.body.now ≡ 0 = omega arith in
    record {
      answer = rw (place, c.none-before.ensures) (check_start c.args.body.now some);
      within = omega arith;
    }

pub returns-in_default-clause-err : goal.returns-in_default-clause-err
returns-in_default-clause-err c =
    let some : 0 < length c.loop-before.rest.now = grind (arith, nat_tests) in
    check_fault _ _ _ _ _ _ some c.in_default.ensures c.loop-before.invariant.answer

pub loop-before-smaller : goal.loop-before-smaller
loop-before-smaller c = shorter _ _ _ _ (sym c.in-Ok.ensures)

pub loop-before-preserved : goal.loop-before-preserved
loop-before-preserved c =
    let some : 0 < length c.loop-before.rest.now = grind (arith, nat_tests) in
    let less = shorter _ _ _ _ (sym c.in-Ok.ensures) in
    record {
      answer = rw c.first_unfit-unfit.ensures (check_field _ _ _ _ _ _ _ some c.loop-before.invariant.within c.in-Ok.ensures c.loop-before.invariant.answer);
      within = omega (arith, less, c.loop-before.invariant.within);
    }

pub returns-in-Some-clause-err : goal.returns-in-Some-clause-err
returns-in-Some-clause-err c =
    let none : length c.loop-before.rest.now ≡ 0 = grind (arith, nat_tests) in
    check_end _ _ _ _ _ _ none c.loop-before.invariant.answer ∙ c.in-Some.is

pub returns-in-None-clause-ok : goal.returns-in-None-clause-ok
returns-in-None-clause-ok c =
    let none : length c.loop-before.rest.now ≡ 0 = grind (arith, nat_tests) in
    check_end _ _ _ _ _ _ none c.loop-before.invariant.answer ∙ c.in-None.is

pub returns-in-None-clause-body : goal.returns-in-None-clause-body
returns-in-None-clause-body c = fit_bodies_are_bodies c.args.body.now (returns-in-None-clause-ok c)
