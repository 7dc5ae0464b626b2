use Rattle.std.proofs.Common.{◌≡◌, length}
use Rattle.script_text.specs.Printed.{bytes_of_text}
use Rattle.script_text.proofs.Texts.{with_front}
use Rattle.script_text.proofs.printed.read_text.Given as goal

-- the bytes so far and those of the rest are the text's
abbrev pub invariant-loop-rest : goal.invariant-loop-rest
invariant-loop-rest l = with_front l.bytes.items (bytes_of_text l.rest) ≡ bytes_of_text l.text

abbrev pub decreases-loop-rest : goal.decreases-loop-rest
decreases-loop-rest l = length l.rest
