-- A list that falls into series.
use Rattle.std.proofs.Common.{◌≡◌, ◌≢◌, ℕ, zero, suc, ◌+◌, ◌-◌, ◌<◌, ◌≤◌, ◌==◌, List, [], ◌∷◌, ◌++◌, length, get_or, take, drop, refl, sym, ap, ◌∙◌, inl, inr, arith, length-drop, length-take}
use Rattle.std.specs.List.{slice_range, sum_by}
use Rattle.std.proofs.lemmas.Bool.{cases_lt, cases_eq, ne_eqb, cond-false}
use Rattle.std.proofs.lemmas.List.{take_rest, drop_all, take-append-le, drop-append-le, get_or_past, get_or_append_left, get_or_push, length_push}
use Rattle.std.proofs.lemmas.List.Sums.{sum_by-cons}
use Rattle.message_log.specs.Series.{series_at, with_entry, series_from, AreStarts, last_start}

-- the places at which series begin
pub start_within : (from : ℕ) (starts : List ℕ) (count : ℕ) → AreStarts from starts count → from ≤ count
start_within from [] count h = h
start_within from (start ∷ starts) count h = let rest = start_within start starts count h.1 in omega (arith, h.0)

pub AreStarts-push : (from : ℕ) (starts : List ℕ) (count : ℕ) → AreStarts from starts count → AreStarts from (starts ++ count ∷ []) count
AreStarts-push from [] count h = (h, omega arith)
AreStarts-push from (start ∷ starts) count h = (h.0, AreStarts-push start starts count h.1)

pub AreStarts-more : (from : ℕ) (starts : List ℕ) (count more : ℕ) → count ≤ more → AreStarts from starts count → AreStarts from starts more
AreStarts-more from [] count more l h = omega (arith, h)
AreStarts-more from (start ∷ starts) count more l h = (h.0, AreStarts-more start starts count more l h.1)

pub last_start-push : (from : ℕ) (starts : List ℕ) (count : ℕ) → last_start from (starts ++ count ∷ []) ≡ count
last_start-push from [] count = refl
last_start-push from (start ∷ starts) count = last_start-push start starts count

pub last_within : (from : ℕ) (starts : List ℕ) (count : ℕ) → AreStarts from starts count → last_start from starts ≤ count
last_within from [] count h = h
last_within from (start ∷ starts) count h = last_within start starts count h.1

module _ {T : Type 0} where
  pub length-series_from : (from : ℕ) (starts : List ℕ) (items : List T) → length (series_from from starts items) ≡ length starts + 1
  length-series_from from [] items = refl
  length-series_from from (start ∷ starts) items = let rest = length-series_from start starts items in omega (arith, rest)

  with_entry-behind : (first : List T) (start : ℕ) (starts : List ℕ) (items : List T) (entry : T) → with_entry (first ∷ series_from start starts items) entry ≡ first ∷ with_entry (series_from start starts items) entry
  with_entry-behind first start [] items entry = refl
  with_entry-behind first start (next ∷ starts) items entry = refl

  slice_range-push : (from to : ℕ) (items : List T) (entry : T) → from ≤ to → to ≤ length items → slice_range (items ++ entry ∷ []) from to ≡ slice_range items from to
  slice_range-push from to items entry h l =
      ap (λ ts. take (to - from) ts) (drop-append-le from items (entry ∷ []) (omega arith))
      ∙ take-append-le (to - from) (drop from items) (entry ∷ []) (omega (arith, length-drop from items))

  pub series_from-push : (from : ℕ) (starts : List ℕ) (items : List T) (entry : T) → AreStarts from starts (length items) → series_from from starts (items ++ entry ∷ []) ≡ with_entry (series_from from starts items) entry
  series_from-push from [] items entry h = ap (λ ts. ts ∷ []) (drop-append-le from items (entry ∷ []) h)
  series_from-push from (start ∷ starts) items entry h =
      let same = slice_range-push from start items entry h.0 (start_within start starts (length items) h.1) in
      ap (λ ts. ts ∷ series_from start starts (items ++ entry ∷ [])) same
      ∙ ap (λ later. slice_range items from start ∷ later) (series_from-push start starts items entry h.1)
      ∙ sym (with_entry-behind (slice_range items from start) start starts items entry)

  pub series_from-turned : (from : ℕ) (starts : List ℕ) (items : List T) → AreStarts from starts (length items) → series_from from (starts ++ length items ∷ []) items ≡ series_from from starts items ++ [] ∷ []
  series_from-turned from [] items h =
      ap (λ ts. ts ∷ drop (length items) items ∷ []) (take_rest items from)
      ∙ ap (λ ts. drop from items ∷ ts ∷ []) (drop_all (length items) items (omega arith))
  series_from-turned from (start ∷ starts) items h = ap (λ later. slice_range items from start ∷ later) (series_from-turned start starts items h.1)

  -- a series of the list
  pub series_from_at : (from : ℕ) (starts : List ℕ) (items : List T) (k : ℕ) → k ≤ length starts → get_or (series_from from starts items) k [] ≡ slice_range items (get_or (from ∷ starts) k 0) (get_or (starts ++ length items ∷ []) k 0)
  series_from_at from [] items zero h = sym (take_rest items from)
  series_from_at from [] items (suc k) h = absurd (omega arith)
  series_from_at from (start ∷ starts) items zero h = refl
  series_from_at from (start ∷ starts) items (suc k) h = series_from_at start starts items k (omega arith)

  pub series_from_last : (from : ℕ) (starts : List ℕ) (items : List T) → get_or (series_from from starts items) (length starts) [] ≡ drop (last_start from starts) items
  series_from_last from [] items = refl
  series_from_last from (start ∷ starts) items = series_from_last start starts items

  pub sum_by-series_from : (from : ℕ) (starts : List ℕ) (items : List T) → AreStarts from starts (length items) → sum_by (λ ts. length ts) (series_from from starts items) ≡ length items - from
  sum_by-series_from from [] items h = sum_by-cons (λ (ts : List T). length ts) (drop from items) [] ∙ (let e = length-drop from items in omega arith)
  sum_by-series_from from (start ∷ starts) items h =
      let rest = sum_by-series_from start starts items h.1 in
      let inside = start_within start starts (length items) h.1 in
      let size : length (slice_range items from start) ≡ start - from = omega (arith, length-take (start - from) (drop from items), length-drop from items, h.0) in
      sum_by-cons (λ (ts : List T). length ts) (slice_range items from start) (series_from start starts items) ∙ omega (arith, h.0)

-- the bounds of a series
pub bounds_in : (from : ℕ) (starts : List ℕ) (count k : ℕ) → AreStarts from starts count → k ≤ length starts → (get_or (from ∷ starts) k 0 ≤ get_or (starts ++ count ∷ []) k 0) × (get_or (starts ++ count ∷ []) k 0 ≤ count)
bounds_in from [] count zero h l = (h, omega arith)
bounds_in from [] count (suc k) h l = absurd (omega arith)
bounds_in from (start ∷ starts) count zero h l = (h.0, start_within start starts count h.1)
bounds_in from (start ∷ starts) count (suc k) h l = bounds_in start starts count k h.1 (omega arith)

module _ {T : Type 0} where
  pub length-with_entry : (log : List (List T)) (entry : T) → 0 < length log → length (with_entry log entry) ≡ length log
  length-with_entry [] entry h = absurd (omega arith)
  length-with_entry (entries ∷ []) entry h = refl
  length-with_entry (entries ∷ (next ∷ later)) entry h = ap suc (length-with_entry (next ∷ later) entry (omega arith))

  with_entry-other : (log : List (List T)) (entry : T) (k : ℕ) → k + 1 < length log → get_or (with_entry log entry) k [] ≡ get_or log k []
  with_entry-other [] entry k h = absurd (omega arith)
  with_entry-other (entries ∷ []) entry k h = absurd (omega arith)
  with_entry-other (entries ∷ (next ∷ later)) entry zero h = refl
  with_entry-other (entries ∷ (next ∷ later)) entry (suc k) h = with_entry-other (next ∷ later) entry k (omega arith)

  with_entry-last : (log : List (List T)) (entry : T) (k : ℕ) → k + 1 ≡ length log → get_or (with_entry log entry) k [] ≡ get_or log k [] ++ entry ∷ []
  with_entry-last [] entry k h = absurd (omega arith)
  with_entry-last (entries ∷ []) entry zero h = refl
  with_entry-last (entries ∷ []) entry (suc k) h = absurd (omega arith)
  with_entry-last (entries ∷ (next ∷ later)) entry zero h = absurd (omega arith)
  with_entry-last (entries ∷ (next ∷ later)) entry (suc k) h = with_entry-last (next ∷ later) entry k (omega arith)

  pub series_is : (log : List (List T)) (k : ℕ) → 0 < k → series_at log k ≡ get_or log (k - 1) []
  series_is log k h = cond-false (k == 0) [] (get_or log (k - 1) []) (ne_eqb k 0 (λ e. omega arith))

  pub no_series : (log : List (List T)) (k : ℕ) → length log < k → series_at log k ≡ []
  no_series log k h = series_is log k (omega arith) ∙ get_or_past log (k - 1) [] (omega arith)

  pub present_with_entry : (log : List (List T)) (entry : T) → 0 < length log → series_at (with_entry log entry) (length log) ≡ series_at log (length log) ++ entry ∷ []
  present_with_entry log entry h =
      series_is (with_entry log entry) (length log) h
      ∙ with_entry-last log entry (length log - 1) (omega arith)
      ∙ ap (λ ts. ts ++ entry ∷ []) (sym (series_is log (length log) h))

  pub other_with_entry : (log : List (List T)) (entry : T) (k : ℕ) → 0 < length log → k ≢ length log → series_at (with_entry log entry) k ≡ series_at log k
  other_with_entry log entry zero h ne = refl
  other_with_entry log entry (suc k) h ne =
      elim (cases_lt (suc k) (length log)) [
        | inl inside ↦ series_is (with_entry log entry) (suc k) (omega arith) ∙ with_entry-other log entry (suc k - 1) (omega arith) ∙ sym (series_is log (suc k) (omega arith))
        | inr past ↦ no_series (with_entry log entry) (suc k) (omega (arith, length-with_entry log entry h)) ∙ sym (no_series log (suc k) (omega arith))
      ]

  pub other_turned : (log : List (List T)) (k : ℕ) → k ≤ length log → series_at (log ++ [] ∷ []) k ≡ series_at log k
  other_turned log zero h = refl
  other_turned log (suc k) h =
      series_is (log ++ [] ∷ []) (suc k) (omega arith) ∙ get_or_append_left log ([] ∷ []) [] (suc k - 1) (omega arith) ∙ sym (series_is log (suc k) (omega arith))

  pub present_turned : (log : List (List T)) (k : ℕ) → length log < k → series_at (log ++ [] ∷ []) k ≡ []
  present_turned log k h =
      elim (cases_eq k (length log + 1)) [
        | inl same ↦ series_is (log ++ [] ∷ []) k (omega arith) ∙ get_or_push log [] [] (k - 1) (omega arith)
        | inr more ↦ no_series (log ++ [] ∷ []) k (omega (arith, length_push log ([])))
      ]
