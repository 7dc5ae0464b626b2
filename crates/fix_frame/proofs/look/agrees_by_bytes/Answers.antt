use Rattle.std.proofs.Common.{◌+◌, drop, sym, ◌∙◌, arith}
use Rattle.fix_frame.specs.Cut.{exactly}
use Rattle.fix_frame.proofs.Places.{agrees-past}
use Rattle.fix_frame.proofs.look.agrees_by_bytes.Goals as goal

pub returns-then-at-k : goal.returns-then-at-k
returns-then-at-k c =
    sym (agrees-past (exactly (drop c.loop-k.k c.args.text.now)) c.args.held.now (c.args.at + c.loop-k.k) (omega arith)) ∙ c.loop-k.invariant
