-- The first two of the libraries' ends.
use Rattle.std.specs.Prelude.{slice_get}
use Rattle.std.specs.Option.{option_to_list}
use Rattle.std.proofs.Common.{◌≡◌, ℕ, List, ◌∷◌, ◌++◌, Option, Some, sym, ap, ◌∙◌}

-- what an iterator had, and what it has behind the next
next_is : {T : Type 0} (before after : List T) (next : Option T) (a : T) → before ≡ option_to_list next ++ after → next ≡ Some a → before ≡ a ∷ after
next_is before after next a items is = items ∙ ap (λ n. option_to_list n ++ after) is

module _ {T : Type 0} (P : ℕ → T → Type 0) (items : List T) (each : (j : ℕ) (e : T) → slice_get items j ≡ Some e → P j e) (a b : T) (rest : List T) (are : items ≡ a ∷ b ∷ rest) where
  pub first : P 0 a
  first = each 0 a (ap (λ (xs : List T). slice_get xs 0) are)

  pub second : P 1 b
  second = each 1 b (ap (λ (xs : List T). slice_get xs 1) are)

pub two_are : {T : Type 0} (items before one two : List T) (next_a next_b : Option T) (a b : T) → before ≡ items → before ≡ option_to_list next_a ++ one → next_a ≡ Some a → one ≡ option_to_list next_b ++ two → next_b ≡ Some b → items ≡ a ∷ b ∷ two
two_are items before one two next_a next_b a b begins items_a is_a items_b is_b = sym begins ∙ next_is before one next_a a items_a is_a ∙ ap (λ xs. a ∷ xs) (next_is one two next_b b items_b is_b)
