-- Places in lists that were mapped, filtered and joined.
use Rattle.std.proofs.Common.{◌≡◌, ◌≢◌, ◌⊎◌, inl, inr, ℕ, zero, suc, ◌+◌, ◌-◌, ◌<◌, ◌≤◌, Bool, true, false, List, [], ◌∷◌, ◌++◌, get_or, length, map, Some, refl, sym, ap, subst, ◌∙◌, arith}
use Rattle.std.proofs.lemmas.List.Elements.{All-head, All-tail}
use Rattle.std.proofs.lemmas.Option.{none-some, same_Some}
use Rattle.std.specs.List.{All, AllPairs, filter, slice_get}
use Rattle.std.specs.Prelude.{cond}

-- a place of a mapped list
pub record IsMapped {A B : Type 0} (f : A → B) (xs : List A) (d : A) (i : ℕ) (y : B) : Type 0 where
  pub within : i < length xs
  pub is : y ≡ f (get_or xs i d)

pub mapped_found : {A B : Type 0} (f : A → B) (xs : List A) (d : A) (i : ℕ) (y : B) → slice_get (map f xs) i ≡ Some y → IsMapped f xs d i y
mapped_found f [] d i y found = absurd (none-some y found)
mapped_found f (x ∷ xs) d zero y found = record { within = omega arith; is = sym (same_Some (f x) y found) }
mapped_found f (x ∷ xs) d (suc i) y found =
    let rest = mapped_found f xs d i y found in
    let within = rest.within in
    record { within = omega arith; is = rest.is }

pub mapped_there : {A B : Type 0} (f : A → B) (xs : List A) (d : A) (i : ℕ) → i < length xs → slice_get (map f xs) i ≡ Some (f (get_or xs i d))
mapped_there f [] d i within = absurd (omega arith)
mapped_there f (x ∷ xs) d zero within = refl
mapped_there f (x ∷ xs) d (suc i) within = mapped_there f xs d i (omega arith)

-- from what the item at a place was mapped
pub record IsMappedFrom {A B : Type 0} (f : A → B) (xs : List A) (i : ℕ) (y : B) : Type 0 where
  pub from : A
  pub at : slice_get xs i ≡ Some from
  pub is : y ≡ f from

pub mapped_from : {A B : Type 0} (f : A → B) (xs : List A) (i : ℕ) (y : B) → slice_get (map f xs) i ≡ Some y → IsMappedFrom f xs i y
mapped_from f [] i y found = absurd (none-some y found)
mapped_from f (x ∷ xs) zero y found = record { from = x; at = refl; is = sym (same_Some (f x) y found) }
mapped_from f (x ∷ xs) (suc i) y found = (let rest = mapped_from f xs i y found in record { from = rest.from; at = rest.at; is = rest.is })

-- what holds of all holds of the one at a place, and there is one at each
pub all_at : {A : Type 0} (P : A → Type 0) (xs : List A) (i : ℕ) (x : A) → All P xs → slice_get xs i ≡ Some x → P x
all_at P [] i x all found = absurd (none-some x found)
all_at P (y ∷ ys) zero x all found = subst P (same_Some y x found) (All-head P y ys all)
all_at P (y ∷ ys) (suc i) x all found = all_at P ys i x (All-tail P y ys all) found

pub there_is : {A : Type 0} (xs : List A) (i : ℕ) → i < length xs → (x : A) × (slice_get xs i ≡ Some x)
there_is [] i within = absurd (omega arith)
there_is (x ∷ xs) zero within = (x, refl)
there_is (x ∷ xs) (suc i) within = there_is xs i (omega arith)

-- past the end there is what stands for none
pub past_end : {A : Type 0} (xs : List A) (i : ℕ) (d : A) → length xs ≤ i → get_or xs i d ≡ d
past_end [] i d past = refl
past_end (x ∷ xs) zero d past = absurd (omega arith)
past_end (x ∷ xs) (suc i) d past = past_end xs i d (omega arith)

-- one of those that were mapped
pub record IsOfMapped {A B : Type 0} (f : A → B) (P : A → Type 0) (y : B) : Type 0 where
  pub from : A
  pub has : P from
  pub is : y ≡ f from

pub mapped_all : {A B : Type 0} (f : A → B) (P : A → Type 0) (xs : List A) (i : ℕ) (y : B) → All P xs → slice_get (map f xs) i ≡ Some y → IsOfMapped f P y
mapped_all f P [] i y all found = absurd (none-some y found)
mapped_all f P (x ∷ xs) zero y all found = record { from = x; has = All-head P x xs all; is = sym (same_Some (f x) y found) }
mapped_all f P (x ∷ xs) (suc i) y all found = mapped_all f P xs i y (All-tail P x xs all) found

-- a place of two lists that were joined
pub joined_found : {A : Type 0} (xs ys : List A) (i : ℕ) (y : A) → slice_get (xs ++ ys) i ≡ Some y → ((i < length xs) × (slice_get xs i ≡ Some y)) ⊎ ((length xs ≤ i) × (slice_get ys (i - length xs) ≡ Some y))
joined_found [] ys i y found = inr (omega arith, subst (λ n. slice_get ys n ≡ Some y) (omega arith) found)
joined_found (x ∷ xs) ys zero y found = inl (omega arith, found)
joined_found (x ∷ xs) ys (suc i) y found = elim (joined_found xs ys i y found) [
  | inl first ↦ inl (omega (arith, first.0), first.1)
  | inr second ↦ inr (omega (arith, second.0), subst (λ n. slice_get ys n ≡ Some y) (omega arith) second.1)
]

pub joined_first : {A : Type 0} (xs ys : List A) (i : ℕ) → i < length xs → slice_get (xs ++ ys) i ≡ slice_get xs i
joined_first [] ys i within = absurd (omega arith)
joined_first (x ∷ xs) ys zero within = refl
joined_first (x ∷ xs) ys (suc i) within = joined_first xs ys i (omega arith)

pub joined_second : {A : Type 0} (xs ys : List A) (i : ℕ) → slice_get (xs ++ ys) (length xs + i) ≡ slice_get ys i
joined_second [] ys i = ap (slice_get ys) (omega arith)
joined_second (x ∷ xs) ys i = (let e : suc (length xs) + i ≡ suc (length xs + i) = omega arith in ap (slice_get (x ∷ (xs ++ ys))) e) ∙ joined_second xs ys i

-- a place of a filtered list
pub record IsKeptAt {A : Type 0} (test : A → Bool) (xs : List A) (d : A) (i : ℕ) : Type 0 where
  pub place : ℕ
  pub within : place < length xs
  pub same : get_or (filter test xs) i d ≡ get_or xs place d
  pub passes : test (get_or xs place d) ≡ true

kept_past : {A : Type 0} (test : A → Bool) (x : A) (xs : List A) (d : A) (i : ℕ) → IsKeptAt test xs d i → get_or (filter test (x ∷ xs)) (suc i) d ≡ get_or (filter test xs) i d → IsKeptAt test (x ∷ xs) d (suc i)
kept_past test x xs d i rest same = record { place = suc rest.place; within = (let within = rest.within in omega arith); same = same ∙ rest.same; passes = rest.passes }

kept_by : {A : Type 0} (test : A → Bool) (x : A) (xs : List A) (d : A) (b : Bool) → test x ≡ b → ((i : ℕ) → i < length (filter test xs) → IsKeptAt test xs d i)
    → (i : ℕ) → i < length (cond b (x ∷ filter test xs) (filter test xs)) → IsKeptAt test (x ∷ xs) d i
kept_by test x xs d true is rest zero small = record { place = 0; within = omega arith; same = ap (λ b. get_or (cond b (x ∷ filter test xs) (filter test xs)) 0 d) is; passes = is }
kept_by test x xs d true is rest (suc i) small = kept_past test x xs d i (rest i (omega arith)) (ap (λ b. get_or (cond b (x ∷ filter test xs) (filter test xs)) (suc i) d) is)
kept_by test x xs d false is rest i small =
    let one = rest i small in
    record {
      place = suc one.place;
      within = (let within = one.within in omega arith);
      same = ap (λ b. get_or (cond b (x ∷ filter test xs) (filter test xs)) i d) is ∙ one.same;
      passes = one.passes;
    }

pub kept_found : {A : Type 0} (test : A → Bool) (xs : List A) (d : A) (i : ℕ) → i < length (filter test xs) → IsKeptAt test xs d i
kept_found test [] d i within = absurd (omega arith)
kept_found test (x ∷ xs) d i within = kept_by test x xs d (test x) refl (kept_found test xs d) i within

-- where a place that passes is kept
pub record KeepsPlace {A : Type 0} (test : A → Bool) (xs : List A) (d : A) (k : ℕ) : Type 0 where
  pub place : ℕ
  pub within : place < length (filter test xs)
  pub same : get_or (filter test xs) place d ≡ get_or xs k d

there_by : {A : Type 0} (test : A → Bool) (x : A) (xs : List A) (d : A) (k : ℕ) (b : Bool) → test x ≡ b → KeepsPlace test xs d k → KeepsPlace test (x ∷ xs) d (suc k)
there_by test x xs d k true is rest =
    let small = rest.within in
    record {
      place = suc rest.place;
      within = subst (λ b. suc rest.place < length (cond b (x ∷ filter test xs) (filter test xs))) (sym is) (omega arith);
      same = ap (λ b. get_or (cond b (x ∷ filter test xs) (filter test xs)) (suc rest.place) d) is ∙ rest.same;
    }
there_by test x xs d k false is rest = record {
  place = rest.place;
  within = subst (λ b. rest.place < length (cond b (x ∷ filter test xs) (filter test xs))) (sym is) rest.within;
  same = ap (λ b. get_or (cond b (x ∷ filter test xs) (filter test xs)) rest.place d) is ∙ rest.same;
}

pub kept_there : {A : Type 0} (test : A → Bool) (xs : List A) (d : A) (k : ℕ) → k < length xs → test (get_or xs k d) ≡ true → KeepsPlace test xs d k
kept_there test [] d k within passes = absurd (omega arith)
kept_there test (x ∷ xs) d zero within passes = record {
  place = 0;
  within = subst (λ b. 0 < length (cond b (x ∷ filter test xs) (filter test xs))) (sym passes) (omega arith);
  same = ap (λ b. get_or (cond b (x ∷ filter test xs) (filter test xs)) 0 d) passes;
}
kept_there test (x ∷ xs) d (suc k) within passes = there_by test x xs d k (test x) refl (kept_there test xs d k (omega arith) passes)

-- an item in the middle
pub middle_is : {A : Type 0} (past later : List A) (x d : A) → get_or (past ++ (x ∷ later)) (length past) d ≡ x
middle_is [] later x d = refl
middle_is (y ∷ past) later x d = middle_is past later x d

pub middle_within : {A : Type 0} (past later : List A) (x : A) → length past < length (past ++ (x ∷ later))
middle_within [] later x = omega arith
middle_within (y ∷ past) later x = (let rest = middle_within past later x in omega arith)

-- where no two have one key, those with one key are one place
pub one_place : {A : Type 0} (key : A → ℕ) (xs : List A) (d : A) (i j : ℕ) → AllPairs (λ one later. key one ≢ key later) xs → i < length xs → j < length xs → key (get_or xs i d) ≡ key (get_or xs j d) → i ≡ j
one_place key xs d i j apart within_i within_j same = by_order (order i j) where
  order : (i j : ℕ) → (i ≡ j) ⊎ ((i < j) ⊎ (j < i))
  order zero zero = inl refl
  order zero (suc j) = inr (inl (omega arith))
  order (suc i) zero = inr (inr (omega arith))
  order (suc i) (suc j) = elim (order i j) [ inl e ↦ inl (ap suc e) | inr either ↦ elim either [ inl less ↦ inr (inl (omega arith)) | inr more ↦ inr (inr (omega arith)) ] ]

  by_order : (i ≡ j) ⊎ ((i < j) ⊎ (j < i)) → i ≡ j
  by_order (inl e) = e
  by_order (inr (inl less)) = absurd (apart i j d less within_j same)
  by_order (inr (inr more)) = absurd (apart j i d more within_i (sym same))
