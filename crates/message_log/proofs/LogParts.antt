-- The parts of an outbound log as it grows.
use Rattle.std.proofs.Common.{◌≡◌, ℕ, ◌+◌, ◌-◌, ◌^◌, ◌<◌, ◌≤◌, ◌⊎◌, Bool, true, false, cond, List, [], ◌∷◌, ◌++◌, length, get_or, drop, Option, Some, None, unwrap_or, refl, sym, ap, ◌∙◌, subst, inl, inr, arith, length-drop, length-take}
use Rattle.std.specs.List.{slice_get, slice_range}
use Rattle.std.proofs.lemmas.Bool.{cases_lt, cases_eq}
use Rattle.std.proofs.lemmas.List.{length_push}
use Rattle.message_log.specs.declared.entry.OutEntry.{OutEntry}
use Rattle.message_log.specs.declared.stretches.Stretch.{Stretch}
use Rattle.message_log.specs.Series.{series_at, entry_at, entry_in, with_entry, series_from, AreStarts, IsNoSeries}
use Rattle.message_log.specs.Stretches.{IsIndex, closed_after}
use Rattle.message_log.specs.OutLog.{IsOutLog}
use Rattle.message_log.proofs.SeriesLists.{length-series_from, series_from-push, series_from-turned, series_from_at, series_from_last, bounds_in, last_within, last_start-push, AreStarts-push, AreStarts-more, series_is, no_series}
use Rattle.message_log.proofs.Places.{slice_get-take, slice_get-drop}
use Rattle.message_log.proofs.Entries.{entry_in_is, none_in_nothing, none_past_end}
use Rattle.message_log.proofs.IndexKept.{index_app, index_session, index_turned}

module _ (entries : List OutEntry) (starts : List ℕ) (start : ℕ) (closed : List Stretch) (growing : Option ℕ) (parts : IsOutLog entries starts start closed growing) where
  pub size : length (series_from 0 starts entries) ≡ length starts + 1
  size = length-series_from 0 starts entries

  pub start_inside : start ≤ length entries
  start_inside = let is = parts.present in let inside = last_within 0 starts (length entries) parts.in_list in omega arith

  -- the present series
  pub present_is : series_at (series_from 0 starts entries) (length starts + 1) ≡ drop start entries
  present_is =
      let place : length starts + 1 - 1 ≡ length starts = omega arith in
      series_is (series_from 0 starts entries) (length starts + 1) (omega arith)
      ∙ ap (λ k. get_or (series_from 0 starts entries) k []) place
      ∙ series_from_last 0 starts entries
      ∙ ap (λ k. drop k entries) (sym parts.present)

  pub present_size : length (series_at (series_from 0 starts entries) (length (series_from 0 starts entries))) ≡ length entries - start
  present_size =
      ap (λ k. length (series_at (series_from 0 starts entries) k)) size
      ∙ ap (λ (ts : List OutEntry). length ts) present_is
      ∙ length-drop start entries

  pub pushed_series : (entry : OutEntry) → series_from 0 starts (entries ++ entry ∷ []) ≡ with_entry (series_from 0 starts entries) entry
  pushed_series entry = series_from-push 0 starts entries entry parts.in_list

  pushed_in_list : (entry : OutEntry) → AreStarts 0 starts (length (entries ++ entry ∷ []))
  pushed_in_list entry = AreStarts-more 0 starts (length entries) (length (entries ++ entry ∷ [])) (omega (arith, length_push entries entry)) parts.in_list

  some : 0 < length (series_from 0 starts entries)
  some = omega (arith, size)

  -- the present series and its last number, as the code has them
  at_sizes : (P : ℕ → ℕ → Type 0) → P (length (series_from 0 starts entries)) (length (series_at (series_from 0 starts entries) (length (series_from 0 starts entries)))) → (last : ℕ) → last ≡ length entries - start → P (length starts + 1) last
  at_sizes P h last is = subst (λ k. P k last) size (subst (λ n. P (length (series_from 0 starts entries)) n) (present_size ∙ sym is) h)

  pushed_index : (entry : OutEntry) (number : ℕ) → number ≡ length entries - start + 1 → (admin : Bool) → entry.admin ≡ admin → IsIndex (with_entry (series_from 0 starts entries) entry) (cond admin closed (closed_after closed growing (length starts + 1) (number - 1))) (cond admin (Some (unwrap_or growing number)) None)
  pushed_index entry number is true admin =
      let next : number - 1 + 1 ≡ number = omega arith in
      subst (λ n. IsIndex (with_entry (series_from 0 starts entries) entry) closed (Some (unwrap_or growing n))) next (at_sizes (λ k n. IsIndex (with_entry (series_from 0 starts entries) entry) closed (Some (unwrap_or growing (n + 1)))) (index_session (series_from 0 starts entries) entry some closed growing admin parts.index) (number - 1) (omega arith))
  pushed_index entry number is false admin =
      at_sizes (λ k n. IsIndex (with_entry (series_from 0 starts entries) entry) (closed_after closed growing k n) None) (index_app (series_from 0 starts entries) entry some closed growing admin parts.index) (number - 1) (omega arith)

  -- one more entry
  pub pushed : (entry : OutEntry) (number : ℕ) → number ≡ length entries - start + 1 → IsOutLog (entries ++ entry ∷ []) starts start (cond entry.admin closed (closed_after closed growing (length starts + 1) (number - 1))) (cond entry.admin (Some (unwrap_or growing number)) None)
  pushed entry number is = record {
    in_list = pushed_in_list entry;
    present = parts.present;
    few = parts.few;
    index = subst (λ (l : List (List OutEntry)). IsIndex l (cond entry.admin closed (closed_after closed growing (length starts + 1) (number - 1))) (cond entry.admin (Some (unwrap_or growing number)) None)) (sym (pushed_series entry)) (pushed_index entry number is entry.admin refl);
  }

  pub turned_series : series_from 0 (starts ++ length entries ∷ []) entries ≡ series_from 0 starts entries ++ [] ∷ []
  turned_series = series_from-turned 0 starts entries parts.in_list

  -- one more series
  pub turned : length starts + 2 < 2 ^ 32 → IsOutLog entries (starts ++ length entries ∷ []) (length entries) (closed_after closed growing (length starts + 1) (length entries - start)) None
  turned few = record {
    in_list = AreStarts-push 0 starts (length entries) parts.in_list;
    present = sym (last_start-push 0 starts (length entries));
    few = omega (arith, length_push starts (length entries));
    index = subst (λ (l : List (List OutEntry)). IsIndex l (closed_after closed growing (length starts + 1) (length entries - start)) None) (sym turned_series) (at_sizes (λ k n. IsIndex (series_from 0 starts entries ++ [] ∷ []) (closed_after closed growing k n) None) (index_turned (series_from 0 starts entries) closed growing parts.index) (length entries - start) refl);
  }

  -- the bounds of a series, and what lies between them
  module _ (k begin end : ℕ) (from_one : 0 < k) (of_log : k ≤ length starts + 1) (begins : begin ≡ get_or (0 ∷ starts) (k - 1) 0) (ends : end ≡ get_or (starts ++ length entries ∷ []) (k - 1) 0) where
    pub in_bounds : (begin ≤ end) × (end ≤ length entries)
    in_bounds = let both = bounds_in 0 starts (length entries) (k - 1) parts.in_list (omega arith) in (omega (arith, both.0), omega (arith, both.1))

    between : series_at (series_from 0 starts entries) k ≡ slice_range entries begin end
    between =
        series_is (series_from 0 starts entries) k from_one
        ∙ series_from_at 0 starts entries (k - 1) (omega arith)
        ∙ ap (λ a. slice_range entries a (get_or (starts ++ length entries ∷ []) (k - 1) 0)) (sym begins)
        ∙ ap (λ b. slice_range entries begin b) (sym ends)

    pub series_size : length (series_at (series_from 0 starts entries) k) ≡ end - begin
    series_size = let same = ap (λ (ts : List OutEntry). length ts) between in omega (arith, length-take (end - begin) (drop begin entries), length-drop begin entries, in_bounds.0, in_bounds.1)

    pub entry_is : (n : ℕ) → 0 < n → n ≤ end - begin → entry_at (series_from 0 starts entries) k n ≡ slice_get entries (begin + (n - 1))
    entry_is n some within =
        ap (λ (ts : List OutEntry). entry_in ts n) between
        ∙ entry_in_is (slice_range entries begin end) n some
        ∙ slice_get-take (end - begin) (drop begin entries) (n - 1) (omega arith)
        ∙ slice_get-drop begin entries (n - 1)

  -- the series that the bounds are asked for
  pub no_series_here : (k : ℕ) → (k ≡ 0) ⊎ (length starts + 1 < k) → IsNoSeries (series_from 0 starts entries) k
  no_series_here k none = elim none [ inl zero_k ↦ inl zero_k | inr past ↦ inr (omega (arith, size)) ]

  pub is_series : (k : ℕ) → ((k ≡ 0) ⊎ (length starts + 1 < k) → ⊥) → (0 < k) × (k ≤ length starts + 1)
  is_series k there = (
    elim (cases_eq k 0) [ inl none ↦ absurd (there (inl none)) | inr some ↦ omega arith ],
    elim (cases_lt (length starts + 1) k) [ inl past ↦ absurd (there (inr past)) | inr inside ↦ inside ],
  )

  pub not_none : (k : ℕ) → (0 < k) × (k ≤ length starts + 1) → IsNoSeries (series_from 0 starts entries) k → ⊥
  not_none k there none = elim none [ inl is ↦ omega (arith, there.0) | inr past ↦ omega (arith, there.1, size) ]

  pub no_entry_of : (k n : ℕ) → IsNoSeries (series_from 0 starts entries) k → entry_at (series_from 0 starts entries) k n ≡ None
  no_entry_of k n none =
      elim none [
        | inl is ↦ ap (λ j. entry_at (series_from 0 starts entries) j n) is ∙ none_in_nothing n
        | inr past ↦ ap (λ (ts : List OutEntry). entry_in ts n) (no_series (series_from 0 starts entries) k past) ∙ none_in_nothing n
      ]

  pub no_entry_past : (k n : ℕ) → length (series_at (series_from 0 starts entries) k) < n → entry_at (series_from 0 starts entries) k n ≡ None
  no_entry_past k n past = none_past_end (series_at (series_from 0 starts entries) k) n past
