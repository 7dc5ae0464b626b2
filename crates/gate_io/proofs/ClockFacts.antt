-- What a list of readings shows once one more was taken.
use Rattle.std.proofs.Common.{◌≡◌, ℕ, List, [], ◌∷◌, ◌++◌, max, refl, sym, ap, ◌∙◌, arith, length-append}
use Rattle.gate_io.specs.Clock.{HasFigures, greatest_of, last_of}
use Rattle.gate_io.specs.Counts.{one_more}

last_of-more : (taken : List ℕ) (reading : ℕ) → last_of (taken ++ reading ∷ []) ≡ reading
last_of-more [] reading = refl
last_of-more (first ∷ []) reading = refl
last_of-more (first ∷ second ∷ more) reading = last_of-more (second ∷ more) reading

greatest_of-more : (taken : List ℕ) (reading : ℕ) → greatest_of (taken ++ reading ∷ []) ≡ max (greatest_of taken) reading
greatest_of-more [] reading = omega arith
greatest_of-more (first ∷ more) reading = let e = greatest_of-more more reading in omega (arith, e)

-- the figures behind one more reading
pub HasFigures-more : (latest highest count reading : ℕ) (taken : List ℕ) → HasFigures latest highest count taken → HasFigures reading (max highest reading) (one_more count) (taken ++ reading ∷ [])
HasFigures-more latest highest count reading taken before =
    let len = length-append taken (reading ∷ []) in
    record {
      last = sym (last_of-more taken reading);
      greatest = ap (λ n. max n reading) before.greatest ∙ sym (greatest_of-more taken reading);
      counted = omega (arith, len, before.counted);
    }
