-- What holds of each element of a list at its place.
use Rattle.std.proofs.Common.{◌≡◌, ◌≢◌, ◌<◌, ℕ, ◌+◌, zero, suc, List, [], ◌∷◌, ◌++◌, get_or, length, length-append, map, set, arith, Option, None, Some, refl, ap, subst, sym, ◌∙◌}
use Rattle.std.specs.Prelude.{slice_get}

-- it does
abbrev pub Each : {T : Type 0} → (ℕ → T → Type 0) → List T → Type 0
Each {T} P xs = (j : ℕ) (x : T) → slice_get xs j ≡ Some x → P j x

some_is : {T : Type 0} (x y : T) → Some x ≡ Some y → x ≡ y
some_is {T} x y same = ap or_else same where
  or_else : Option T → T
  or_else (Some z) = z
  or_else None = x

none_is : {T P : Type 0} (x : T) → None ≡ Some x → P
none_is {T} x same = absurd (subst IsNone same tt) where
  IsNone : Option T → Type 0
  IsNone None = Unit {0}
  IsNone (Some y) = ⊥

-- one element more, at the end
pub push_each : {T : Type 0} (P : ℕ → T → Type 0) (xs : List T) (x : T) → Each P xs → P (length xs) x → Each P (xs ++ x ∷ [])
push_each P [] x each last zero y is = subst (λ z. P 0 z) (some_is x y is) last
push_each P [] x each last (suc j) y is = none_is y is
push_each P (z ∷ xs) x each last zero y is = each zero y is
push_each P (z ∷ xs) x each last (suc j) y is = push_each (λ i. P (suc i)) xs x (λ i. each (suc i)) last j y is

-- the element behind the first ones
pub at_seam : {T : Type 0} (xs : List T) (y : T) (zs : List T) → slice_get (xs ++ y ∷ zs) (length xs) ≡ Some y
at_seam [] y zs = refl
at_seam (x ∷ xs) y zs = at_seam xs y zs

-- of a list that is told in parts, the one behind the first part
pub one_behind : {T : Type 0} (first : List T) (one : T) (rest more all : List T) (place : ℕ) → place ≡ length first → first ++ rest ≡ all → rest ≡ one ∷ more → slice_get all place ≡ Some one
one_behind first one rest more all place at whole parts =
    subst (λ xs. slice_get xs place ≡ Some one) whole (subst (λ xs. slice_get (first ++ xs) place ≡ Some one) (sym parts) (subst (λ n. slice_get (first ++ one ∷ more) n ≡ Some one) (sym at) (at_seam first one more)))

-- one element more in both
pub two_more : {A B : Type 0} (xs : List A) (ys : List B) (x : A) (y : B) → length xs ≡ length ys → length (xs ++ x ∷ []) ≡ length (ys ++ y ∷ [])
two_more xs ys x y same = length-append xs (x ∷ []) ∙ ap (λ n. n + 1) same ∙ sym (length-append ys (y ∷ []))

-- another element at a place, and of the others what holds of them
pub set_others : {T : Type 0} (P : ℕ → T → Type 0) (xs : List T) (k : ℕ) (x : T) → ((j : ℕ) (y : T) → j ≢ k → slice_get xs j ≡ Some y → P j y) → P k x → Each P (set xs k x)
set_others P [] zero x others one j y is = none_is y is
set_others P [] (suc k) x others one j y is = none_is y is
set_others P (z ∷ xs) zero x others one zero y is = subst (λ w. P 0 w) (some_is x y is) one
set_others P (z ∷ xs) zero x others one (suc j) y is = others (suc j) y (λ same. absurd (omega (arith, same))) is
set_others P (z ∷ xs) (suc k) x others one zero y is = others zero y (λ same. absurd (omega (arith, same))) is
set_others P (z ∷ xs) (suc k) x others one (suc j) y is = set_others (λ i. P (suc i)) xs k x (λ i w other at. others (suc i) w (λ same. other (omega (arith, same))) at) one j y is
