-- What the ordered pairs tell of the list of deadlines.
use Rattle.std.proofs.Common.{◌≡◌, ℕ, ◌<◌, ◌≤◌, true, false, List, length, get_or, Option, Some, None, refl, sym, ap, ◌∙◌, inl, inr, arith}
use Rattle.std.specs.BTreeSet.{BTreeSet, contains}
use Rattle.std.proofs.lemmas.Bool.{eqb-true, eq-eqb, and_parts, and_from, cases_lt, le-leb, lt-leb, false≢true}
use Rattle.std.proofs.lemmas.List.{get_or_past}
use Rattle.library_clock.specs.Times.{Mirrors, is_due, is_pair_of, pair_cmp}

module _ (at : List (Option ℕ)) (set : BTreeSet (ℕ × ℕ)) (mirrors : Mirrors at set) (moment : ℕ) where
  -- a session's deadline stands among the pairs
  stands : (s m : ℕ) → get_or at s None ≡ Some m → contains pair_cmp set (m, s) ≡ true
  stands s m is = mirrors.same (m, s) ∙ ap (λ d. is_pair_of d s (m, s)) is ∙ and_from _ _ (eq-eqb m m refl) (eq-eqb s s refl)

  -- a pair is a session's deadline
  of_pair : (m s : ℕ) → contains pair_cmp set (m, s) ≡ true → get_or at s None ≡ Some m
  of_pair m s h =
      elim (get_or at s None) as (λ d. is_pair_of d s (m, s) ≡ true → d ≡ Some m) [
        | None ↦ λ e. absurd (false≢true e)
        | Some n ↦ λ e. ap (λ k. Some k) (eqb-true n m (and_parts _ _ e).0)
      ] (sym (mirrors.same (m, s)) ∙ h)

  -- where no pair up to the moment has a session, its deadline hasn't come
  not_due : (s : ℕ) → ((m : ℕ) → contains pair_cmp set (m, s) ≡ true → moment < m) → is_due moment (get_or at s None) ≡ false
  not_due s later =
      elim (get_or at s None) as (λ d. get_or at s None ≡ d → is_due moment d ≡ false) [
        | None ↦ λ is. refl
        | Some m ↦ λ is. lt-leb m moment (later m (stands s m is))
      ] refl

  pub none_due : ((q : ℕ × ℕ) → contains pair_cmp set q ≡ true → moment < q.0) → (s : ℕ) → is_due moment (get_or at s None) ≡ false
  none_due later s = not_due s (λ m h. later (m, s) h)

  -- the least session with a pair up to the moment is the first whose deadline has come
  pub first_due : (s m : ℕ) → m ≤ moment → contains pair_cmp set (m, s) ≡ true → ((q : ℕ × ℕ) → contains pair_cmp set q ≡ true → q.0 ≤ moment → s ≤ q.1) → (s < length at) × (is_due moment (get_or at s None) ≡ true) × ((k : ℕ) → k < s → is_due moment (get_or at k None) ≡ false)
  first_due s m l h least =
      let is = of_pair m s h in (
        elim (cases_lt s (length at)) [
          | inl inside ↦ inside
          | inr past ↦ cc (get_or_past at s None past)
        ],
        ap (is_due moment) is ∙ le-leb m moment l,
        λ k less. not_due k (λ n stands. elim (cases_lt moment n) [ inl later ↦ later | inr now ↦ (let first = least (n, k) stands now in absurd (omega arith)) ]),
      )
