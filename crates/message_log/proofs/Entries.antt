-- The entry with a number.
use Rattle.std.proofs.Common.{◌≡◌, ℕ, ◌-◌, ◌<◌, ◌≤◌, ◌↔◌, ◌==◌, List, [], length, Option, None, IsNone, is_some, true, sym, ap, ◌∙◌, inl, inr, arith}
use Rattle.std.specs.List.{slice_get}
use Rattle.std.specs.Option.{option_copied}
use Rattle.std.specs.Borrow.{Bor}
use Rattle.std.proofs.lemmas.Bool.{cases_lt, cases_eq, ne_eqb, cond-false, false≢true}
use Rattle.std.proofs.lemmas.Option.{slice_get_past}
use Rattle.message_log.specs.Series.{entry_in, series_at, entry_at, HasNoNumber}
use Rattle.message_log.proofs.Places.{is_some_within, is_some-option_copied}

module _ {T : Type 0} where
  pub entry_in_is : (entries : List T) (n : ℕ) → 0 < n → entry_in entries n ≡ slice_get entries (n - 1)
  entry_in_is entries n h = cond-false (n == 0) None (slice_get entries (n - 1)) (ne_eqb n 0 (λ e. omega arith))

  pub none_past_end : (entries : List T) (n : ℕ) → length entries < n → entry_in entries n ≡ None
  none_past_end entries n h = entry_in_is entries n (omega arith) ∙ slice_get_past entries (n - 1) (omega arith)

  pub none_at_zero : (entries : List T) (n : ℕ) → n ≡ 0 → entry_in entries n ≡ None
  none_at_zero entries n e = ap (λ k. entry_in entries k) e

  pub none_in_nothing : (n : ℕ) → entry_in {T = T} [] n ≡ None
  none_in_nothing n = elim (cases_eq n 0) [
    | inl e ↦ none_at_zero [] n e
    | inr some ↦ none_past_end [] n (let more : 0 < n = omega arith in more)
  ]

  some_within : (entries : List T) (n : ℕ) → 0 < n → n ≤ length entries → is_some (entry_in entries n) ≡ true
  some_within entries n h l = ap (λ (o : Option T). is_some o) (entry_in_is entries n h) ∙ is_some_within entries (n - 1) (omega arith)

  -- a look-up by number tells whether there is that number
  pub no_number : (found : Option (Bor T)) (log : List (List T)) (k n : ℕ) → option_copied found ≡ entry_at log k n → IsNone found ↔ HasNoNumber log k n
  no_number found log k n is = (
    λ none. elim (cases_eq n 0) [
      | inl zero_n ↦ inl zero_n
      | inr some ↦ elim (cases_lt (length (series_at log k)) n) [
        | inl past ↦ inr past
        | inr inside ↦ absurd (false≢true (sym none ∙ sym (is_some-option_copied found) ∙ ap (λ (o : Option T). is_some o) is ∙ some_within (series_at log k) n (let more : 0 < n = omega arith in more) inside))
      ]
    ],
    λ none. sym (is_some-option_copied found) ∙ ap (λ (o : Option T). is_some o) (is ∙ (elim none [
      | inl zero_n ↦ none_at_zero (series_at log k) n zero_n
      | inr past ↦ none_past_end (series_at log k) n past
    ])),
  )
