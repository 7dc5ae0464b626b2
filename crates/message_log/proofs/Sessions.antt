-- Session entries of one series, and how many stretches they make.
use Rattle.std.proofs.Common.{◌≡◌, ℕ, zero, suc, ◌+◌, ◌-◌, ◌<◌, ◌≤◌, Bool, true, false, not, ◌&&◌, cond, List, [], ◌∷◌, ◌++◌, length, get_or, Option, refl, sym, ap, ◌∙◌, inl, inr, arith}
use Rattle.std.specs.List.{slice_get}
use Rattle.std.specs.Option.{option_map_or}
use Rattle.std.proofs.lemmas.Bool.{cases_lt, cases_eq, false≢true}
use Rattle.std.proofs.lemmas.Option.{slice_get_past}
use Rattle.std.proofs.lemmas.List.Sums.{sum_by-cons, sum_by_push}
use Rattle.message_log.specs.declared.entry.OutEntry.{OutEntry}
use Rattle.message_log.specs.Series.{series_at, with_entry}
use Rattle.message_log.specs.Stretches.{is_session, stretches_in, stretch_count}
use Rattle.message_log.proofs.Places.{slice_get-append_left, slice_get-append_right}
use Rattle.message_log.proofs.SeriesLists.{series_is}
use Rattle.message_log.proofs.Entries.{entry_in_is}

abbrev pub session : Option OutEntry → Bool
session found = option_map_or (λ entry. entry.admin) found false

pub at_number : (entries : List OutEntry) (n : ℕ) → 0 < n → is_session entries n ≡ session (slice_get entries (n - 1))
at_number entries n h = ap session (entry_in_is entries n h)

module _ (entries : List OutEntry) (entry : OutEntry) where
  pub session-push_old : (n : ℕ) → n ≤ length entries → is_session (entries ++ entry ∷ []) n ≡ is_session entries n
  session-push_old n h =
      elim (cases_eq n 0) [
        | inl none ↦ ap (is_session (entries ++ entry ∷ [])) none ∙ sym (ap (is_session entries) none)
        | inr more ↦
            at_number (entries ++ entry ∷ []) n (omega arith)
            ∙ ap session (slice_get-append_left entries (entry ∷ []) (n - 1) (omega arith))
            ∙ sym (at_number entries n (omega arith))
      ]

  pub session-push_new : is_session (entries ++ entry ∷ []) (length entries + 1) ≡ entry.admin
  session-push_new =
      let last : length entries + 1 - 1 ≡ length entries + 0 = omega arith in
      at_number (entries ++ entry ∷ []) (length entries + 1) (omega arith)
      ∙ ap (λ i. session (slice_get (entries ++ entry ∷ []) i)) last
      ∙ ap session (slice_get-append_right entries (entry ∷ []) 0)

pub session-past : (entries : List OutEntry) (n : ℕ) → length entries < n → is_session entries n ≡ false
session-past entries n h = at_number entries n (omega arith) ∙ ap session (slice_get_past entries (n - 1) (omega arith))

pub session-within : (entries : List OutEntry) (n : ℕ) → is_session entries n ≡ true → (0 < n) × (n ≤ length entries)
session-within entries n h = (
  elim (cases_eq n 0) [
    | inl none ↦ absurd (false≢true (sym (ap (is_session entries) none) ∙ h))
    | inr more ↦ omega arith
  ],
  elim (cases_lt (length entries) n) [
    | inl past ↦ absurd (false≢true (sym (session-past entries n past) ∙ h))
    | inr inside ↦ inside
  ],
)

pub session-behind : (first : OutEntry) (entries : List OutEntry) (n : ℕ) → is_session (first ∷ entries) (suc (suc n)) ≡ is_session entries (suc n)
session-behind first entries n =
    let next : suc (suc n) - 1 ≡ suc (suc n - 1) = omega arith in
    at_number (first ∷ entries) (suc (suc n)) (omega arith)
    ∙ ap (λ i. session (slice_get (first ∷ entries) i)) next
    ∙ sym (at_number entries (suc n) (omega arith))

-- whether the last entry is a session entry
ends_in : Bool → List OutEntry → Bool
ends_in before [] = before
ends_in before (entry ∷ entries) = ends_in entry.admin entries

abbrev pub one_more : Bool → Bool → ℕ
one_more admin before = cond (admin && not before) 1 0

stretches_in-push : (before : Bool) (entries : List OutEntry) (entry : OutEntry) → stretches_in before (entries ++ entry ∷ []) ≡ stretches_in before entries + one_more entry.admin (ends_in before entries)
unfolding ends_in
stretches_in-push before [] entry = omega arith
stretches_in-push before (first ∷ entries) entry = let rest = stretches_in-push first.admin entries entry in omega (arith, rest)

ends_in-session : (first : OutEntry) (entries : List OutEntry) → ends_in first.admin entries ≡ is_session (first ∷ entries) (suc (length entries))
unfolding ends_in
ends_in-session first [] = refl
ends_in-session first (next ∷ entries) = ends_in-session next entries ∙ sym (session-behind first (next ∷ entries) (length entries))

ends_in-is : (entries : List OutEntry) → ends_in false entries ≡ is_session entries (length entries)
unfolding ends_in
ends_in-is [] = refl
ends_in-is (first ∷ entries) = ends_in-session first entries

pub stretches-push : (entries : List OutEntry) (entry : OutEntry) → stretches_in false (entries ++ entry ∷ []) ≡ stretches_in false entries + one_more entry.admin (is_session entries (length entries))
stretches-push entries entry =
    stretches_in-push false entries entry ∙ ap (λ b. stretches_in false entries + one_more entry.admin b) (ends_in-is entries)

count_from : (log : List (List OutEntry)) (entry : OutEntry) (k : ℕ) → k + 1 ≡ length log → stretch_count (with_entry log entry) ≡ stretch_count log + one_more entry.admin (is_session (get_or log k []) (length (get_or log k [])))
count_from [] entry k h = absurd (omega arith)
count_from (entries ∷ []) entry zero h =
    let new = sum_by-cons (stretches_in false) (entries ++ entry ∷ []) [] in
    let old = sum_by-cons (stretches_in false) entries [] in
    let more = stretches-push entries entry in
    omega (arith, new, old, more)
count_from (entries ∷ []) entry (suc k) h = absurd (omega arith)
count_from (entries ∷ (next ∷ later)) entry zero h = absurd (omega arith)
count_from (entries ∷ (next ∷ later)) entry (suc k) h =
    let new = sum_by-cons (stretches_in false) entries (with_entry (next ∷ later) entry) in
    let old = sum_by-cons (stretches_in false) entries (next ∷ later) in
    let rest = count_from (next ∷ later) entry k (omega arith) in
    omega (arith, new, old, rest)

pub stretch_count-with_entry : (log : List (List OutEntry)) (entry : OutEntry) → 0 < length log → stretch_count (with_entry log entry) ≡ stretch_count log + one_more entry.admin (is_session (series_at log (length log)) (length (series_at log (length log))))
stretch_count-with_entry log entry h =
    count_from log entry (length log - 1) (omega arith)
    ∙ ap (λ (ts : List OutEntry). stretch_count log + one_more entry.admin (is_session ts (length ts))) (sym (series_is log (length log) h))

pub stretch_count-turned : (log : List (List OutEntry)) → stretch_count (log ++ [] ∷ []) ≡ stretch_count log
stretch_count-turned log = let more = sum_by_push (stretches_in false) log [] in omega (arith, more)
