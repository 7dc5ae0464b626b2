use Rattle.std.proofs.Common.{◌≡◌, length, false, eqb, Err, rules, sym, arith}
use Rattle.std.proofs.lemmas.Bool.Decides.{nat_tests}
use Rattle.fix_fields.specs.Reading.{field_at}
use Rattle.fix_fields.proofs.Tags.{field_at_fault, field_at_empty, field_at_found}
use Rattle.fix_fields.proofs.reading.next_field.Goals as goal

pub returns-in_err-value : goal.returns-in_err-value
returns-in_err-value c =
    let fault : field_at c.args.before.now c.args.rest.now ≡ Err c.in_err-value.field-0.0 =
    field_at_fault c.args.before.now c.args.rest.now c.in-Some.tail.now c.in-Some.tag c.in_err-value.field-0.0 (sym c.in-Some.ensures) (sym c.in_err-value.ensures) in
    search rules

pub returns-then-is_empty : goal.returns-then-is_empty
returns-then-is_empty c =
    let none : length c.in_ok-value.value.now ≡ 0 = grind (arith, nat_tests) in
    sym (field_at_empty c.args.before.now c.args.rest.now c.in-Some.tail.now c.in_ok-value.value.now c.in_ok-value.after.now c.in-Some.tag (sym c.in-Some.ensures) (sym c.in_ok-value.ensures) none)

pub returns : goal.returns
returns c =
    let some : eqb (length c.in_ok-value.value.now) 0 ≡ false = grind (arith, nat_tests) in
    let found = field_at_found c.args.before.now c.args.rest.now c.in-Some.tail.now c.in_ok-value.value.now c.in_ok-value.after.now c.in-Some.tag (sym c.in-Some.ensures) (sym c.in_ok-value.ensures) some in
    rw c.new.ensures (sym found)
