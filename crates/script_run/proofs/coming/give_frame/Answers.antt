use Rattle.std.proofs.Common.{arith}
use Rattle.script_run.proofs.coming.give_frame.Goals as goal

pub unreachable-requires : goal.unreachable-requires
unreachable-requires c =
    let told = (c.write_frame.ensures.too_long c.in-Err-TooLong.field-0-0).0 (rw c.in-Err-TooLong.field-0-is at c.in-Err-TooLong.is) in
    omega (arith, told.0, told.1, c.requires.short)
