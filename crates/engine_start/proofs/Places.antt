-- Lists that go on together, place by place.
use Rattle.std.proofs.Common.{◌≡◌, ℕ, zero, suc, List, [], ◌∷◌, ◌++◌, map, Some, refl, sym, ap, ◌∙◌}
use Rattle.std.proofs.lemmas.List.{map-append}
use Rattle.std.specs.Prelude.{slice_get}

module _ {A B C : Type 0} (f : A → C) (g : B → C) where
  -- one element more on both sides, of which both tell the same
  pub both_pushed : (xs xs' : List A) (ys ys' : List B) (x : A) (y : B) → xs' ≡ xs ++ x ∷ [] → ys' ≡ ys ++ y ∷ [] → f x ≡ g y → map f xs ≡ map g ys → map f xs' ≡ map g ys'
  both_pushed xs xs' ys ys' x y left right same before =
      ap (map f) left ∙ map-append f xs (x ∷ []) ∙ ap (λ zs. zs ++ f x ∷ []) before ∙ ap (λ z. map g ys ++ z ∷ []) same ∙ sym (map-append g ys (y ∷ [])) ∙ sym (ap (map g) right)

  -- what stands at a place on the one side stands there on the other
  pub both_at : (xs : List A) (ys : List B) (j : ℕ) (x : A) → map f xs ≡ map g ys → slice_get xs j ≡ Some x → (y : B) × (slice_get ys j ≡ Some y) × (f x ≡ g y)
  both_at [] ys j x same found = absurd (cc)
  both_at (z ∷ xs) [] j x same found = absurd (cc)
  both_at (z ∷ xs) (y ∷ ys) zero x same found = (y, refl, cc)
  both_at (z ∷ xs) (y ∷ ys) (suc j) x same found = both_at xs ys j x (cc) found

-- the other side is itself
pub pushed : {A C : Type 0} (f : A → C) (xs xs' : List A) (ys : List C) (x : A) (y : C) → xs' ≡ xs ++ x ∷ [] → f x ≡ y → map f xs ≡ ys → map f xs' ≡ ys ++ y ∷ []
pushed f xs xs' ys x y left same before = ap (map f) left ∙ map-append f xs (x ∷ []) ∙ ap (λ zs. zs ++ f x ∷ []) before ∙ ap (λ z. ys ++ z ∷ []) same

pub at_place : {A C : Type 0} (f : A → C) (xs : List A) (ys : List C) (j : ℕ) (x : A) → map f xs ≡ ys → slice_get xs j ≡ Some x → slice_get ys j ≡ Some (f x)
at_place f [] ys j x same found = absurd (cc)
at_place f (z ∷ xs) [] j x same found = absurd (cc)
at_place f (z ∷ xs) (y ∷ ys) zero x same found = cc
at_place f (z ∷ xs) (y ∷ ys) (suc j) x same found = at_place f xs ys j x (cc) found

-- what is told of the ends tells of the rings
pub map_of_maps : {A B C D : Type 0} (f : A → C) (g : B → C) (h : C → D) (k : B → D) → ((y : B) → h (g y) ≡ k y) → (xs : List A) (ys : List B) → map f xs ≡ map g ys → map (λ x. h (f x)) xs ≡ map k ys
map_of_maps f g h k tells [] [] same = refl
map_of_maps f g h k tells [] (y ∷ ys) same = absurd (cc)
map_of_maps f g h k tells (x ∷ xs) [] same = absurd (cc)
map_of_maps f g h k tells (x ∷ xs) (y ∷ ys) same =
    let first : f x ≡ g y = cc in
    let rest : map f xs ≡ map g ys = cc in
    ap (λ z. z ∷ map (λ x. h (f x)) xs) (ap h first ∙ tells y) ∙ ap (λ zs. k y ∷ zs) (map_of_maps f g h k tells xs ys rest)
