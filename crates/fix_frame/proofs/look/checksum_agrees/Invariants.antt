use Rattle.std.proofs.Common.{◌≡◌, ◌+◌, ◌-◌, ◌∷◌, [], ◌++◌, drop, replicate}
use Rattle.std.specs.Char.{is_ascii_digit}
use Rattle.fix_frame.specs.Cut.{agrees, exactly, trailer}
use Rattle.fix_frame.proofs.look.checksum_agrees.Given as goal

-- what is left decides
abbrev pub invariant-loop-k : goal.invariant-loop-k
invariant-loop-k l = agrees (replicate (3 - l.k) is_ascii_digit ++ exactly (1 ∷ [])) (drop (l.at + l.k) l.held) ≡ agrees trailer (drop l.at l.held)
