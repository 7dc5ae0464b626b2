-- How a sum that is cut off grows by its next value.
use Rattle.std.proofs.Common.{◌≡◌, ℕ, ◌+◌, ◌<◌, List, [], length, take, get_or, refl, sym, ap, ◌∙◌, arith}
use Rattle.std.specs.Prelude.{min}
use Rattle.std.proofs.lemmas.List.Sums.{sum_by_more}
use Rattle.std.specs.List.{sum_by}
use Rattle.run_report.specs.Summary.{MOST_TOLD, told_sum}

cut_sum : (a b most : ℕ) → min (min a most + b) most ≡ min (a + b) most
cut_sum a b most = omega arith

pub told_sum-more : {X : Type 0} (count : X → ℕ) (xs : List X) (i : ℕ) (x : X) (sum added next : ℕ) → i < length xs → x ≡ get_or xs i x → added ≡ count x → sum ≡ told_sum count (take i xs) → next ≡ min (sum + added) MOST_TOLD → next ≡ told_sum count (take (i + 1) xs)
unfolding told_sum
told_sum-more count xs i x sum added next within here counted so_far step =
    step
    ∙ ap (λ n. min (n + added) MOST_TOLD) so_far
    ∙ ap (λ n. min (min (sum_by count (take i xs)) MOST_TOLD + n) MOST_TOLD) (counted ∙ ap count here)
    ∙ cut_sum (sum_by count (take i xs)) (count (get_or xs i x)) MOST_TOLD
    ∙ ap (λ n. min n MOST_TOLD) (sym (sum_by_more count xs i x within))

pub told_sum_none : {X : Type 0} (count : X → ℕ) → told_sum count [] ≡ 0
unfolding told_sum
told_sum_none count = refl
