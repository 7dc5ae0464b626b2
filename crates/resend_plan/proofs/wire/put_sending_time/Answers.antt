-- The tag is written as its two digits.
use Rattle.std.proofs.Common.{◌≡◌, codes, decimal, arith, sym}
use Rattle.itoa.proofs.Decimal.{decimal_two}
use Rattle.resend_plan.proofs.wire.put_sending_time.Goals as goal

sending_time : decimal 52 ≡ codes "52"
sending_time = decimal_two 52 (omega arith) (omega arith)

pub returns : goal.returns
returns c = rw (sending_time, sym c.at.ensures) c.put_tagged.ensures.ok
