-- The tags are written as their two digits.
use Rattle.std.proofs.Common.{◌≡◌, codes, decimal, arith, refl}
use Rattle.itoa.proofs.Decimal.{decimal_two}
use Rattle.resend_plan.specs.Wire.{parties}
use Rattle.resend_plan.proofs.names.push_parties.Goals as goal

sender : decimal 49 ≡ codes "49"
sender = decimal_two 49 (omega arith) (omega arith)

target : decimal 56 ≡ codes "56"
target = decimal_two 56 (omega arith) (omega arith)

number : decimal 34 ≡ codes "34"
number = decimal_two 34 (omega arith) (omega arith)

pub returns : goal.returns
unfolding parties
returns c = rw (sender, target, number, c.in_ok-extend_from_slice.ensures.items, c.in_ok-put_tagged-2.ensures.ok, c.in_ok-put_tagged.ensures.ok, c.requires, c.as_slice.ensures, c.as_slice-2.ensures) refl
