-- Pairs of a moment and a session in order, and the least session among those up to a moment.
use Rattle.std.proofs.Common.{◌≡◌, ℕ, ◌<◌, ◌≤◌, Bool, true, false, cond, List, [], ◌∷◌, map, filter, min, fold, Option, IfSome, IfNone, refl, sym, ap, ◌∙◌, subst, inl, inr, arith, ◌⊎◌}
use Rattle.std.specs.List.{list_any, reduce}
use Rattle.std.specs.declared.ops.Bound.TheVariants.{Included, Unbounded}
use Rattle.std.specs.BTreeMap.{is_at}
use Rattle.std.specs.BTreeMap.Range.{range_contains}
use Rattle.std.proofs.lemmas.Bool.{or_cases, or_left, or_right, false≢true, cases_lt}
use Rattle.std.proofs.lemmas.Bool.Decides.{nat_tests}
use Rattle.library_clock.specs.Times.{pair_cmp}

-- whether a pair stands in the list
abbrev has : ℕ × ℕ → List (ℕ × ℕ) → Bool
has q pairs = list_any (is_at (pair_cmp q)) pairs

-- the pairs up to a moment, of sessions that a u16 names
abbrev pub is_up_to : ℕ → ℕ × ℕ → Bool
is_up_to moment q = range_contains pair_cmp Unbounded (Included (moment, 65535)) q

abbrev pub sessions : List (ℕ × ℕ) → List ℕ
sessions pairs = map (λ p. p.1) pairs

-- pairs that tie are one
same_pair : (q k : ℕ × ℕ) → is_at (pair_cmp q) k ≡ true → q ≡ k
same_pair q k h =
    let first : q.0 ≡ k.0 = grind (arith, nat_tests) in
    let second : q.1 ≡ k.1 = grind (arith, nat_tests) in
    λ i. (first i, second i)

itself : (q : ℕ × ℕ) → is_at (pair_cmp q) q ≡ true
itself q = grind (arith, nat_tests)

within : (moment : ℕ) (q : ℕ × ℕ) → q.0 ≤ moment → q.1 ≤ 65535 → is_up_to moment q ≡ true
within moment q l m = grind (arith, nat_tests)

up_to : (moment : ℕ) (q : ℕ × ℕ) → is_up_to moment q ≡ true → q.0 ≤ moment
up_to moment q h = grind (arith, nat_tests)

-- a filter keeps what passes, and nothing else
has-filter : (test : ℕ × ℕ → Bool) (q : ℕ × ℕ) (pairs : List (ℕ × ℕ)) → has q pairs ≡ true → test q ≡ true → has q (filter test pairs) ≡ true
has-filter test q [] h t = h
has-filter test q (k ∷ pairs) h t =
    elim (or_cases _ _ h) [
      | inl first ↦ rw (sym (ap test (same_pair q k first)) ∙ t) (or_left _ _ first)
      | inr later ↦ elim (test k) as (λ b. has q (cond b (k ∷ filter test pairs) (filter test pairs)) ≡ true) [
        | true ↦ or_right _ _ (has-filter test q pairs later t)
        | false ↦ has-filter test q pairs later t
      ]
    ]

has_from_filter : (test : ℕ × ℕ → Bool) (q : ℕ × ℕ) (pairs : List (ℕ × ℕ)) → has q (filter test pairs) ≡ true → (has q pairs ≡ true) × (test q ≡ true)
has_from_filter test q [] h = absurd (false≢true h)
has_from_filter test q (k ∷ pairs) h =
    elim (test k) as (λ b. test k ≡ b → has q (cond b (k ∷ filter test pairs) (filter test pairs)) ≡ true → (has q (k ∷ pairs) ≡ true) × (test q ≡ true)) [
      | true ↦ λ is h. elim (or_cases _ _ h) [
        | inl first ↦ (or_left _ _ first, ap test (same_pair q k first) ∙ is)
        | inr later ↦ let rest = has_from_filter test q pairs later in (or_right _ _ rest.0, rest.1)
      ]
      | false ↦ λ is h. let rest = has_from_filter test q pairs h in (or_right _ _ rest.0, rest.1)
    ] refl h

-- the least of some numbers is at most each of them, and is one of them
fold_first : (x : ℕ) (pairs : List (ℕ × ℕ)) → fold min x (sessions pairs) ≤ x
fold_first x [] = omega arith
fold_first x (k ∷ pairs) = let rest = fold_first (min x k.1) pairs in omega arith

fold_least : (x : ℕ) (pairs : List (ℕ × ℕ)) (q : ℕ × ℕ) → has q pairs ≡ true → fold min x (sessions pairs) ≤ q.1
fold_least x [] q h = absurd (false≢true h)
fold_least x (k ∷ pairs) q h =
    elim (or_cases _ _ h) [
      | inl first ↦ let same = ap (λ (p : ℕ × ℕ). p.1) (same_pair q k first) in let rest = fold_first (min x k.1) pairs in omega arith
      | inr later ↦ fold_least (min x k.1) pairs q later
    ]

fold_among : (x : ℕ) (pairs : List (ℕ × ℕ)) → (fold min x (sessions pairs) ≡ x) ⊎ ((at : ℕ) × (has (at, fold min x (sessions pairs)) pairs ≡ true))
fold_among x [] = inl refl
fold_among x (k ∷ pairs) =
    elim (fold_among (min x k.1) pairs) [
      | inl same ↦ elim (cases_lt k.1 x) [
        | inl less ↦ inr (k.0, or_left _ _ (subst (λ s. is_at (pair_cmp (k.0, s)) k ≡ true) (let e : k.1 ≡ fold min (min x k.1) (sessions pairs) = omega arith in e) (itself k)))
        | inr more ↦ inl (omega arith)
      ]
      | inr other ↦ inr (other.0, or_right _ _ other.1)
    ]

-- what the least session of the pairs up to a moment tells of all pairs
pub record LeastUpTo (pairs : List (ℕ × ℕ)) (moment : ℕ) (result : Option ℕ) : Type 0 where
  pub none : IfNone result ((q : ℕ × ℕ) → has q pairs ≡ true → moment < q.0)
  pub due : IfSome result (λ s. (at : ℕ) × (at ≤ moment) × (has (at, s) pairs ≡ true))
  pub least : IfSome result (λ s. (q : ℕ × ℕ) → has q pairs ≡ true → q.0 ≤ moment → s ≤ q.1)

least_of : (pairs kept : List (ℕ × ℕ)) (moment : ℕ) → kept ≡ filter (is_up_to moment) pairs → ((q : ℕ × ℕ) → has q pairs ≡ true → q.1 ≤ 65535) → LeastUpTo pairs moment (reduce min (sessions kept))
least_of pairs [] moment e small = record {
  none = λ q h. elim (cases_lt moment q.0) [
    | inl later ↦ later
    | inr now ↦ absurd (false≢true (subst (λ ps. has q ps ≡ true) (sym e) (has-filter (is_up_to moment) q pairs h (within moment q now (small q h)))))
  ];
  due = tt;
  least = tt;
}
least_of pairs (k ∷ kept) moment e small =
    let s = fold min k.1 (sessions kept) in
    let standing : (q : ℕ × ℕ) → has q (k ∷ kept) ≡ true → (has q pairs ≡ true) × (q.0 ≤ moment) = λ q h. let from = has_from_filter (is_up_to moment) q pairs (subst (λ ps. has q ps ≡ true) e h) in (from.0, up_to moment q from.1) in
    record {
      none = tt;
      due = elim (fold_among k.1 kept) [
        | inl same ↦
            let at_first = standing k (or_left _ _ (itself k)) in
            (k.0, at_first.1, subst (λ t. has (k.0, t) pairs ≡ true) (sym same) at_first.0)
        | inr other ↦
            let found = standing (other.0, s) (or_right _ _ other.1) in
            (other.0, found.1, found.0)
      ];
      least = λ q h l.
          let kept_too = subst (λ ps. has q ps ≡ true) (sym e) (has-filter (is_up_to moment) q pairs h (within moment q l (small q h))) in
          elim (or_cases _ _ kept_too) [
            | inl first ↦ let same = ap (λ (p : ℕ × ℕ). p.1) (same_pair q k first) in omega (arith, fold_first k.1 kept)
            | inr later ↦ fold_least k.1 kept q later
          ];
    }

pub least_told : (pairs : List (ℕ × ℕ)) (moment : ℕ) (result : Option ℕ) → result ≡ reduce min (sessions (filter (is_up_to moment) pairs)) → ((q : ℕ × ℕ) → has q pairs ≡ true → q.1 ≤ 65535) → LeastUpTo pairs moment result
least_told pairs moment result e small = subst (LeastUpTo pairs moment) (sym e) (least_of pairs (filter (is_up_to moment) pairs) moment refl small)
