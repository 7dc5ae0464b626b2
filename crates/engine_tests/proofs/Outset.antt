-- The first three of the libraries' ends.
use Rattle.std.specs.Prelude.{slice_get}
use Rattle.std.specs.Option.{option_to_list}
use Rattle.std.proofs.Common.{◌≡◌, ℕ, List, ◌∷◌, ◌++◌, Option, Some, sym, ap, ◌∙◌}

-- what an iterator had, and what it has behind the next
next_is : {T : Type 0} (before after : List T) (next : Option T) (a : T) → before ≡ option_to_list next ++ after → next ≡ Some a → before ≡ a ∷ after
next_is before after next a items is = items ∙ ap (λ n. option_to_list n ++ after) is

module _ {T : Type 0} (P : ℕ → T → Type 0) (items : List T) (each : (j : ℕ) (e : T) → slice_get items j ≡ Some e → P j e) (a b c : T) (rest : List T) (are : items ≡ a ∷ b ∷ c ∷ rest) where
  pub first : P 0 a
  first = each 0 a (ap (λ (xs : List T). slice_get xs 0) are)

  pub second : P 1 b
  second = each 1 b (ap (λ (xs : List T). slice_get xs 1) are)

  pub third : P 2 c
  third = each 2 c (ap (λ (xs : List T). slice_get xs 2) are)

pub three_are : {T : Type 0} (items before one two three : List T) (next_a next_b next_c : Option T) (a b c : T) → before ≡ items → before ≡ option_to_list next_a ++ one → next_a ≡ Some a
    → one ≡ option_to_list next_b ++ two → next_b ≡ Some b → two ≡ option_to_list next_c ++ three → next_c ≡ Some c → items ≡ a ∷ b ∷ c ∷ three
three_are items before one two three next_a next_b next_c a b c begins items_a is_a items_b is_b items_c is_c =
    sym begins ∙ next_is before one next_a a items_a is_a ∙ ap (λ xs. a ∷ xs) (next_is one two next_b b items_b is_b ∙ ap (λ xs. b ∷ xs) (next_is two three next_c c items_c is_c))
