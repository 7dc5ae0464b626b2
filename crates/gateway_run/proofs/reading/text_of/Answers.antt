use Rattle.std.proofs.Common.{refl}
use Rattle.gateway_run.proofs.TooLong.{long_is_faulty}
use Rattle.gateway_run.proofs.reading.text_of.Goals as goal

pub returns-in-Err-TooLong-clause-refused : goal.returns-in-Err-TooLong-clause-refused
returns-in-Err-TooLong-clause-refused g c = long_is_faulty c.args.serving (g.So.Source.left c.args.source.now) (c.in-Err-TooLong.ensures.too_long (rw c.in-Err-TooLong.field-0-is refl))
