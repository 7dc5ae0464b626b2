use Rattle.std.proofs.Common.{◌≡◌, ◌<◌, length, sym, arith}
use Rattle.std.proofs.lemmas.Bool.Decides.{nat_tests}
use Rattle.fix_fields.proofs.WholeBody.{fields_of_start, reading_field, reading_fault, reading_end, fault_is, shorter, IsFields-from}
use Rattle.fix_fields.proofs.Ended.{readable_bodies_end}
use Rattle.fix_fields.proofs.fields.Fields.read.Goals as goal

pub loop-before-init : goal.loop-before-init
loop-before-init c =
    record {
      read = rw (c.in_ok-entries.ensures.items, c.none-before.ensures) (fields_of_start c.args.body.now);
      within = omega arith;
    }

pub returns-in-Err-clause-fault : goal.returns-in-Err-clause-fault
returns-in-Err-clause-fault c =
    let some : 0 < length c.loop-before.rest.now = grind (arith, nat_tests) in
    rw c.at.ensures (fault_is _ c.in-Err.fault c.args.body.now (reading_fault _ _ c.loop-before.before c.loop-before.rest.now _ _ some c.in-Err.ensures c.loop-before.invariant.read))

pub loop-before-smaller : goal.loop-before-smaller
loop-before-smaller c = shorter _ _ _ _ (sym c.in-Ok.ensures)

pub loop-before-preserved : goal.loop-before-preserved
loop-before-preserved c =
    let some : 0 < length c.loop-before.rest.now = grind (arith, nat_tests) in
    let less = shorter _ _ _ _ (sym c.in-Ok.ensures) in
    record {
      read = rw (c.in_ok-push.ensures.items, c.again-before.ensures) (reading_field _ _ _ _ _ _ _ some c.in-Ok.ensures c.loop-before.invariant.read);
      within = omega (arith, less, c.loop-before.invariant.within);
    }

pub returns-clause-ok : goal.returns-clause-ok
returns-clause-ok c =
    let none : length c.loop-before.rest.now ≡ 0 = grind (arith, nat_tests) in
    reading_end _ _ _ _ _ none c.loop-before.invariant.read

pub returns-clause-spelled : goal.returns-clause-spelled
returns-clause-spelled c =
    let none : length c.loop-before.rest.now ≡ 0 = grind (arith, nat_tests) in
    IsFields-from _ _ (reading_end _ _ _ _ _ none c.loop-before.invariant.read)

pub returns-clause-end : goal.returns-clause-end
returns-clause-end c = readable_bodies_end _ _ (returns-clause-ok c)
