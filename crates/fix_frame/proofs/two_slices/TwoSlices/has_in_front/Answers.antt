use Rattle.std.proofs.Common.{◌≡◌, ◌+◌, ◌-◌, List, ℕ, length, drop, take, sym, subst, ap, ◌∙◌, arith}
use lib.Pointwise.{bytes_decides}
use Rattle.fix_frame.proofs.Agrees.{stands_in_front}
use Rattle.fix_frame.proofs.two_slices.TwoSlices.has_in_front.Goals as goal

pub returns-then-at-text : goal.returns-then-at-text
returns-then-at-text c h =
    let text = c.args.text.now in
    let front = c.self.inside.front.now in
    let same : take (c.args.at + length text - c.args.at) (drop c.args.at front) ≡ text = (bytes_decides (take (c.args.at + length text - c.args.at) (drop c.args.at front)) text).0 (sym c.eq.ensures ∙ h) in
    let size : length text ≡ c.args.at + length text - c.args.at = omega arith in
    let there : take (length text) (drop c.args.at front) ≡ text = ap (λ (n : ℕ). take n (drop c.args.at front)) size ∙ same in
    subst (λ (held : List ℕ). take (length text) (drop c.args.at held) ≡ text) c.self.view_is (stands_in_front text front c.self.inside.back.now c.args.at c.if-at-text.true there)
