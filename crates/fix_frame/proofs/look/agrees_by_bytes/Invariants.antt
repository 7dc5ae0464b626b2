use Rattle.std.proofs.Common.{◌≡◌, ◌+◌, drop}
use Rattle.fix_frame.specs.Cut.{agrees, exactly}
use Rattle.fix_frame.proofs.look.agrees_by_bytes.Given as goal

-- what is left of the text and of the bytes decides
abbrev pub invariant-loop-k : goal.invariant-loop-k
invariant-loop-k l = agrees (exactly (drop l.k l.text)) (drop (l.at + l.k) l.held) ≡ agrees (exactly l.text) (drop l.at l.held)
