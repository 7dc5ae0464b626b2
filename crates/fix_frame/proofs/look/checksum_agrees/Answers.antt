use Rattle.std.proofs.Common.{◌≡◌, ◌+◌, ◌-◌, ◌++◌, ◌∷◌, [], ℕ, drop, replicate, sym, ap, ◌∙◌, arith}
use Rattle.std.specs.Char.{is_ascii_digit}
use Rattle.fix_frame.specs.Cut.{agrees, exactly}
use Rattle.fix_frame.proofs.Places.{agrees-past, each_fails, each_passes}
use Rattle.fix_frame.proofs.look.checksum_agrees.Goals as goal

pub returns-then-at-k : goal.returns-then-at-k
returns-then-at-k c =
    sym (agrees-past (replicate (3 - c.loop-k.k) is_ascii_digit ++ exactly (1 ∷ [])) c.args.held.now (c.args.at + c.loop-k.k) (omega arith)) ∙ c.loop-k.invariant

pub returns-then-not-is_ascii_digit : goal.returns-then-not-is_ascii_digit
returns-then-not-is_ascii_digit c =
    sym (each_fails is_ascii_digit (exactly (1 ∷ [])) c.args.held.now c.args.at c.loop-k.k 3 c.at.result c.loop-k-test.true (omega arith) c.at.ensures (sym c.is_ascii_digit.ensures.value ∙ c.if-not-is_ascii_digit.true)) ∙ c.loop-k.invariant

pub loop-k-preserved : goal.loop-k-preserved
loop-k-preserved c =
    sym (each_passes is_ascii_digit (exactly (1 ∷ [])) c.args.held.now c.args.at c.loop-k.k 3 c.at.result c.loop-k-test.true (omega arith) c.at.ensures (sym c.is_ascii_digit.ensures.value ∙ c.if-not-is_ascii_digit.false)) ∙ c.loop-k.invariant

pub returns : goal.returns
returns c =
    let three : c.loop-k.k ≡ 3 = omega arith in
    c.agrees.ensures ∙ (sym (ap (λ (k : ℕ). agrees (replicate (3 - k) is_ascii_digit ++ exactly (1 ∷ [])) (drop (c.args.at + k) c.args.held.now)) three) ∙ c.loop-k.invariant)
