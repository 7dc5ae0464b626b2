-- How a list that is made number by number grows by the next number.
use Rattle.std.proofs.Common.{◌≡◌, ℕ, zero, suc, ◌+◌, List, [], ◌∷◌, ◌++◌, map, sym, ap, ◌∙◌, append_assoc, append-nil, arith}
use Rattle.std.specs.List.{flat_map, range_with_len}
use Rattle.std.proofs.lemmas.Grind.{flat_map-append}
use Rattle.std.proofs.lemmas.List.{map-append}
use Rattle.script_text.specs.declared.steps.Step.{Step}
use Rattle.drill_maker.specs.Drill.{for_each}

pub range_more : (a n : ℕ) → range_with_len a (n + 1) ≡ range_with_len a n ++ (a + n) ∷ []
range_more a zero =
    let here : a ≡ a + 0 = omega arith in
    ap (λ k. k ∷ []) here
range_more a (suc n) =
    let longer : suc n + 1 ≡ suc (n + 1) = omega arith in
    let next : a + 1 + n ≡ a + suc n = omega arith in
    ap (range_with_len a) longer
    ∙ ap (λ ks. a ∷ ks) (range_more (a + 1) n)
    ∙ ap (λ k. a ∷ (range_with_len (a + 1) n ++ k ∷ [])) next

each_more : (first count j : ℕ) (made : ℕ → List Step) → first + count ≡ j → for_each first (count + 1) made ≡ for_each first count made ++ made j
each_more first count j made next =
    ap (flat_map made) (range_more first count)
    ∙ flat_map-append made (range_with_len first count) ((first + count) ∷ [])
    ∙ ap (λ steps. for_each first count made ++ steps) (append-nil (made (first + count)))
    ∙ ap (λ k. for_each first count made ++ made k) next

each_from_zero : (count : ℕ) (made : ℕ → List Step) → for_each 0 (count + 1) made ≡ for_each 0 count made ++ made count
each_from_zero count made = each_more 0 count count made (omega arith)

each_from_one : (count : ℕ) (made : ℕ → List Step) → for_each 1 (count + 1) made ≡ for_each 1 count made ++ made (count + 1)
each_from_one count made = each_more 1 count (count + 1) made (omega arith)

pub map_from_zero : {X : Type 0} (f : ℕ → X) (count : ℕ) → map f (range_with_len 0 (count + 1)) ≡ map f (range_with_len 0 count) ++ f count ∷ []
map_from_zero f count =
    let last : 0 + count ≡ count = omega arith in
    ap (map f) (range_more 0 count)
    ∙ map-append f (range_with_len 0 count) ((0 + count) ∷ [])
    ∙ ap (λ k. map f (range_with_len 0 count) ++ f k ∷ []) last

-- behind steps, three parts with the same steps behind each
pub three_parts : (out a b c turn : List Step) → out ++ a ++ turn ++ b ++ turn ++ c ++ turn ≡ out ++ (a ++ turn ++ b ++ turn ++ c ++ turn)
three_parts out a b c turn =
    ap (λ x. x ++ b ++ turn ++ c ++ turn) (append_assoc out a turn)
    ∙ ap (λ x. x ++ turn ++ c ++ turn) (append_assoc out (a ++ turn) b)
    ∙ ap (λ x. x ++ c ++ turn) (append_assoc out (a ++ turn ++ b) turn)
    ∙ ap (λ x. x ++ turn) (append_assoc out (a ++ turn ++ b ++ turn) c)
    ∙ append_assoc out (a ++ turn ++ b ++ turn ++ c) turn

-- a loop over the numbers from 0, and over those from 1
pub next_from_zero : (begun now next : List Step) (count : ℕ) (made : ℕ → List Step) → now ≡ begun ++ for_each 0 count made → next ≡ now ++ made count → next ≡ begun ++ for_each 0 (count + 1) made
next_from_zero begun now next count made so_far step =
    step
    ∙ ap (λ steps. steps ++ made count) so_far
    ∙ append_assoc begun (for_each 0 count made) (made count)
    ∙ ap (λ steps. begun ++ steps) (sym (each_from_zero count made))

pub next_from_one : (begun now next : List Step) (count : ℕ) (made : ℕ → List Step) → now ≡ begun ++ for_each 1 count made → next ≡ now ++ made (count + 1) → next ≡ begun ++ for_each 1 (count + 1) made
next_from_one begun now next count made so_far step =
    step
    ∙ ap (λ steps. steps ++ made (count + 1)) so_far
    ∙ append_assoc begun (for_each 1 count made) (made (count + 1))
    ∙ ap (λ steps. begun ++ steps) (sym (each_from_one count made))
