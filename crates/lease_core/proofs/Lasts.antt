-- The last of a list, and a list with its last one changed.
use Rattle.std.proofs.Common.{◌≡◌, ℕ, suc, ◌+◌, ◌-◌, ◌<◌, List, [], ◌∷◌, ◌++◌, length, get_or, map, take, sum, refl, ap, ◌∙◌, arith}
use Rattle.std.proofs.Math.ListN.{set}
use Rattle.std.proofs.lemmas.List.{take_more}
use Rattle.std.proofs.lemmas.List.Sums.{sum_by-cons}
use Rattle.lease_core.specs.State.{with_last, last_or, one_more}

module _ {X : Type 0} where
  pub last_or_push : (d : X) (xs : List X) (x : X) → last_or d (xs ++ x ∷ []) ≡ x
  last_or_push d [] x = refl
  last_or_push d (y ∷ ys) x = last_or_push y ys x

  -- a list is gone over, and its last one kept
  pub last_or_more : (d e : X) (xs : List X) (i : ℕ) → i < length xs → last_or d (take (i + 1) xs) ≡ get_or xs i e
  last_or_more d e xs i h = ap (last_or d) (take_more xs i e h) ∙ last_or_push d (take i xs) (get_or xs i e)

  pub with_last_push : (f : X → X) (xs : List X) (x : X) → with_last f (xs ++ x ∷ []) ≡ xs ++ f x ∷ []
  with_last_push f [] x = refl
  with_last_push f (y ∷ []) x = refl
  with_last_push f (y ∷ z ∷ zs) x = ap (λ ws. y ∷ ws) (with_last_push f (z ∷ zs) x)

  -- of a list that has one
  pub last_or-any : (d e : X) (xs : List X) → 0 < length xs → last_or d xs ≡ last_or e xs
  last_or-any d e [] h = absurd (omega arith)
  last_or-any d e (x ∷ xs) h = refl

  pub length-with_last : (f : X → X) (xs : List X) → length (with_last f xs) ≡ length xs
  length-with_last f [] = refl
  length-with_last f (x ∷ []) = refl
  length-with_last f (x ∷ y ∷ ys) = ap (λ n. suc n) (length-with_last f (y ∷ ys))

  pub last_or-with_last : (f : X → X) (d : X) (xs : List X) → 0 < length xs → last_or d (with_last f xs) ≡ f (last_or d xs)
  last_or-with_last f d [] h = absurd (omega arith)
  last_or-with_last f d (x ∷ []) h = refl
  last_or-with_last f d (x ∷ y ∷ ys) h = last_or-with_last f x (y ∷ ys) (omega arith)

  -- changes that agree on the last one
  pub with_last-alike : (f g : X → X) (d : X) (xs : List X) → (0 < length xs → f (last_or d xs) ≡ g (last_or d xs)) → with_last f xs ≡ with_last g xs
  with_last-alike f g d [] h = refl
  with_last-alike f g d (x ∷ []) h = ap (λ z. z ∷ []) (h (omega arith))
  with_last-alike f g d (x ∷ y ∷ ys) h = ap (λ zs. x ∷ zs) (with_last-alike f g x (y ∷ ys) (λ _. h (omega arith)))

  pub with_last-twice : (f g : X → X) (xs : List X) → with_last f (with_last g xs) ≡ with_last (λ x. f (g x)) xs
  with_last-twice f g [] = refl
  with_last-twice f g (x ∷ []) = refl
  with_last-twice f g (x ∷ y ∷ []) = refl
  with_last-twice f g (x ∷ y ∷ z ∷ zs) = ap (λ ws. x ∷ ws) (with_last-twice f g (y ∷ z ∷ zs))

  pub with_last-same : (xs : List X) → with_last (λ x. x) xs ≡ xs
  with_last-same [] = refl
  with_last-same (x ∷ []) = refl
  with_last-same (x ∷ y ∷ ys) = ap (λ zs. x ∷ zs) (with_last-same (y ∷ ys))

  -- the last place written
  pub set-last : (f : X → X) (d z : X) (xs : List X) (i : ℕ) → 0 < length xs → i ≡ length xs - 1 → z ≡ f (last_or d xs) → set xs i z ≡ with_last f xs
  set-last f d z [] i h e s = absurd (omega arith)
  set-last f d z (x ∷ []) i h e s = let none : i ≡ 0 = omega arith in rw (none, s) refl
  set-last f d z (x ∷ y ∷ ys) i h e s = let more : i ≡ suc (i - 1) = omega arith in rw (more) (ap (λ zs. x ∷ zs) (set-last f x z (y ∷ ys) (i - 1) (omega arith) (omega arith) s))

  pub get_or-last : (d : X) (xs : List X) (i : ℕ) → 0 < length xs → i ≡ length xs - 1 → get_or xs i d ≡ last_or d xs
  get_or-last d [] i h e = absurd (omega arith)
  get_or-last d (x ∷ []) i h e = let none : i ≡ 0 = omega arith in rw none refl
  get_or-last d (x ∷ y ∷ ys) i h e = let more : i ≡ suc (i - 1) = omega arith in rw (more) (get_or-last d (y ∷ ys) (i - 1) (omega arith) (omega arith))

pub map-with_last : {X Y : Type 0} (h : X → Y) (f : X → X) (g : Y → Y) (d : X) (xs : List X) → (0 < length xs → h (f (last_or d xs)) ≡ g (h (last_or d xs))) → map h (with_last f xs) ≡ with_last g (map h xs)
map-with_last h f g d [] e = refl
map-with_last h f g d (x ∷ []) e = ap (λ z. z ∷ []) (e (omega arith))
map-with_last h f g d (x ∷ y ∷ ys) e = ap (λ zs. h x ∷ zs) (map-with_last h f g x (y ∷ ys) (λ _. e (omega arith)))

pub last_or-map : {X Y : Type 0} (h : X → Y) (d : X) (xs : List X) → last_or (h d) (map h xs) ≡ h (last_or d xs)
last_or-map h d [] = refl
last_or-map h d (x ∷ xs) = last_or-map h x xs

pub sum-cons : (n : ℕ) (ns : List ℕ) → sum (n ∷ ns) ≡ n + sum ns
sum-cons n ns = sum_by-cons (λ x. x) n ns

pub sum-one_more : (ns : List ℕ) → 0 < length ns → sum (with_last one_more ns) ≡ sum ns + 1
sum-one_more [] h = absurd (omega arith)
sum-one_more (n ∷ []) h = omega arith
sum-one_more (n ∷ m ∷ ms) h = omega (arith, sum-one_more (m ∷ ms) (omega arith), sum-cons n (m ∷ ms), sum-cons n (with_last one_more (m ∷ ms)))
