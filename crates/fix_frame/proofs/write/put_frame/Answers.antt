use Rattle.std.proofs.Common.{arith}
use Rattle.fix_frame.proofs.Written.{longest}
use Rattle.fix_frame.proofs.write.put_frame.Goals as goal

pub returns-clause-fits : goal.returns-clause-fits
returns-clause-fits c = λ small n e. omega (arith, c.len_with-length.ensures, c.if-length-le-LONGEST_FRAME.false, (longest c.args.body.now).1 small)
