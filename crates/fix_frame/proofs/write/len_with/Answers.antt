use Rattle.std.proofs.Common.{length, ap, arith}
use Rattle.fix_frame.proofs.Written.{length-frame}
use Rattle.fix_frame.proofs.write.len_with.Goals as goal

pub returns : goal.returns
returns c = omega (arith, length-frame c.args.body.now, ap length c.requires.digits)
