use Rattle.std.proofs.Common.{◌≡◌, ◌+◌, ◌-◌, List, ℕ, [], ◌∷◌, length, drop, sym, ap, ◌∙◌, arith}
use Rattle.std.proofs.lemmas.Grind.{pow_more}
use Rattle.fix_frame.specs.Frame.{number_after}
use Rattle.fix_frame.specs.Cut.{digits_at}
use Rattle.fix_frame.proofs.Places.{digits_end, digits_more}
use Rattle.fix_frame.proofs.look.length_field.Goals as goal
use Rattle.fix_frame.proofs.look.length_field.Goals.{Then-not-is_ascii_digit}

none : (c : Then-not-is_ascii_digit) → digits_at (9 - c.loop-k.k) (drop (c.args.at + c.loop-k.k) c.args.held.now) ≡ []
none c =
    digits_end c.args.held.now c.args.at c.loop-k.k 9 c.at-byte.result c.loop-k-test.true (omega arith) c.at-byte.ensures (sym c.is_ascii_digit.ensures.value ∙ c.if-not-is_ascii_digit.true)

pub returns-then-not-is_ascii_digit-clause-count :
    goal.returns-then-not-is_ascii_digit-clause-count
returns-then-not-is_ascii_digit-clause-count c =
    omega (arith, c.loop-k.invariant.count, c.loop-k.invariant.whole, ap length (none c))

pub returns-then-not-is_ascii_digit-clause-value :
    goal.returns-then-not-is_ascii_digit-clause-value
returns-then-not-is_ascii_digit-clause-value c =
    sym (ap (λ (ds : List ℕ). number_after c.loop-k.field.value ds) (none c)) ∙ c.loop-k.invariant.value

pub loop-k-preserved : goal.loop-k-preserved
loop-k-preserved c =
    let b = c.at-byte.result in
    let k = c.loop-k.k in
    let left = digits_at (9 - (k + 1)) (drop (c.args.at + (k + 1)) c.args.held.now) in
    let more : digits_at (9 - k) (drop (c.args.at + k) c.args.held.now) ≡ b ∷ left =
    digits_more c.args.held.now c.args.at k 9 b c.loop-k-test.true (omega arith) c.at-byte.ensures (sym c.is_ascii_digit.ensures.value ∙ c.if-not-is_ascii_digit.false) in
    record {
      count = omega (arith, c.loop-k.invariant.count);
      whole = omega (arith, c.loop-k.invariant.whole, ap length more);
      value = sym (ap (λ (ds : List ℕ). number_after c.loop-k.field.value ds) more) ∙ c.loop-k.invariant.value;
      small = omega (arith, c.loop-k.invariant.small, pow_more 10 k, c.if-not-is_ascii_digit.ensures.cases);
    }
