-- What stays of a log as it grows.
use Rattle.std.proofs.Common.{◌≡◌, ◌≢◌, ◌⊎◌, ℕ, ◌+◌, ◌-◌, ◌<◌, ◌≤◌, List, [], ◌∷◌, ◌++◌, length, take, Option, Some, None, IsSome, is_some, refl, sym, ap, subst, ◌∙◌, inl, inr, arith, append_assoc}
use Rattle.std.specs.List.{slice_get}
use Rattle.std.proofs.lemmas.Bool.{cases_lt, cases_eq, false≢true}
use Rattle.std.proofs.lemmas.List.{append-nil, take-append-le, take_all, length_push}
use Rattle.message_log.specs.declared.entry.OutEntry.{OutEntry}
use Rattle.message_log.specs.Series.{series_at, entry_in, entry_at, with_entry}
use Rattle.message_log.specs.Growth.{Gain, an_entry, a_series, with_gain, log_after, GoesOn}
use Rattle.message_log.proofs.Places.{slice_get-append_left, slice_get-append_right}
use Rattle.message_log.proofs.SeriesLists.{length-with_entry, no_series, present_with_entry, other_with_entry, other_turned, present_turned}
use Rattle.message_log.proofs.Entries.{entry_in_is, none_at_zero, none_past_end, none_in_nothing}

abbrev Log : Type 0
Log = List (List OutEntry)

-- a list goes on with more behind it
abbrev pub BeginsWith : List OutEntry → List OutEntry → Type 0
BeginsWith entries first = (more : List OutEntry) × (entries ≡ first ++ more)

begins_same : (entries first : List OutEntry) → entries ≡ first → BeginsWith entries first
begins_same entries first is = ([], is ∙ sym (append-nil first))

begins_with_none : (entries first : List OutEntry) → first ≡ [] → BeginsWith entries first
begins_with_none entries first none = (entries, ap (λ ts. ts ++ entries) (sym none))

begins_gained : (log : Log) (gain : Gain) (k : ℕ) → BeginsWith (series_at (with_gain log gain) k) (series_at log k)
begins_gained [] (an_entry entry) k = begins_with_none (series_at (with_entry [] entry) k) (series_at [] k) (no_entries k)
  where
    no_entries : (j : ℕ) → series_at {T = OutEntry} [] j ≡ []
    no_entries j = elim (cases_eq j 0) [
      | inl none ↦ ap (λ i. series_at {T = OutEntry} [] i) none
      | inr some ↦ no_series [] j (let more : 0 < j = omega arith in more)
    ]
begins_gained (first ∷ log) (an_entry entry) k =
    elim (cases_eq k (length (first ∷ log))) [
      | inl present ↦ (
        entry ∷ [],
        ap (λ j. series_at (with_entry (first ∷ log) entry) j) present
            ∙ present_with_entry (first ∷ log) entry (omega arith)
            ∙ ap (λ j. series_at (first ∷ log) j ++ entry ∷ []) (sym present),
      )
      | inr other ↦ begins_same (series_at (with_entry (first ∷ log) entry) k) (series_at (first ∷ log) k) (other_with_entry (first ∷ log) entry k (omega arith) other)
    ]
begins_gained log a_series k =
    elim (cases_lt (length log) k) [
      | inl next ↦ begins_with_none (series_at (log ++ [] ∷ []) k) (series_at log k) (no_series log k next)
      | inr inside ↦ begins_same (series_at (log ++ [] ∷ []) k) (series_at log k) (other_turned log k inside)
    ]

longer_gained : (log : Log) (gain : Gain) → length log ≤ length (with_gain log gain)
longer_gained [] (an_entry entry) = omega arith
longer_gained (first ∷ log) (an_entry entry) = omega (arith, length-with_entry (first ∷ log) entry (omega arith))
longer_gained log a_series = omega (arith, length_push log ([]))

past_gained : (log : Log) (gain : Gain) (k : ℕ) → k < length log → series_at (with_gain log gain) k ≡ series_at log k
past_gained [] (an_entry entry) k h = absurd (omega arith)
past_gained (first ∷ log) (an_entry entry) k h = other_with_entry (first ∷ log) entry k (omega arith) (λ e. omega arith)
past_gained log a_series k h = other_turned log k (omega arith)

begins_after : (gains : List Gain) (log : Log) (k : ℕ) → BeginsWith (series_at (log_after log gains) k) (series_at log k)
begins_after [] log k = begins_same (series_at log k) (series_at log k) refl
begins_after (gain ∷ gains) log k =
    let one = begins_gained log gain k in
    let rest = begins_after gains (with_gain log gain) k in
    (one.0 ++ rest.0, rest.1 ∙ ap (λ ts. ts ++ rest.0) one.1 ∙ append_assoc (series_at log k) one.0 rest.0)

longer_after : (gains : List Gain) (log : Log) → length log ≤ length (log_after log gains)
longer_after [] log = omega arith
longer_after (gain ∷ gains) log = let one = longer_gained log gain in let rest = longer_after gains (with_gain log gain) in omega arith

past_after : (gains : List Gain) (log : Log) (k : ℕ) → k < length log → series_at (log_after log gains) k ≡ series_at log k
past_after [] log k h = refl
past_after (gain ∷ gains) log k h = let one = longer_gained log gain in past_after gains (with_gain log gain) k (omega arith) ∙ past_gained log gain k h

after_both : (first second : List Gain) (log : Log) → log_after log (first ++ second) ≡ log_after (log_after log first) second
after_both [] second log = refl
after_both (gain ∷ first) second log = after_both first second (with_gain log gain)

pub goes_on-itself : (log : Log) → GoesOn log log
goes_on-itself log = record { gains = []; grown = refl }

pub goes_on-entry : (log : Log) (entry : OutEntry) → GoesOn log (with_entry log entry)
goes_on-entry log entry = record { gains = an_entry entry ∷ []; grown = refl }

pub goes_on-series : (log : Log) → GoesOn log (log ++ [] ∷ [])
goes_on-series log = record { gains = a_series ∷ []; grown = refl }

pub goes_on-further : (first second third : Log) → GoesOn first second → GoesOn second third → GoesOn first third
goes_on-further first second third one two = record {
  gains = one.gains ++ two.gains;
  grown = two.grown ∙ ap (λ (log : Log). log_after log two.gains) one.grown ∙ sym (after_both one.gains two.gains first);
}

-- a number that names an entry
module _ (entries : List OutEntry) (n : ℕ) (named : IsSome (entry_in entries n)) where
  some_number : 0 < n
  some_number = elim (cases_eq n 0) [
    | inl none ↦ absurd (false≢true (sym (ap (λ (o : Option OutEntry). is_some o) (none_at_zero entries n none)) ∙ named))
    | inr more ↦ omega arith
  ]

  number_inside : n ≤ length entries
  number_inside = elim (cases_lt (length entries) n) [
    | inl past ↦ absurd (false≢true (sym (ap (λ (o : Option OutEntry). is_some o) (none_past_end entries n past)) ∙ named))
    | inr within ↦ within
  ]

-- the entry that was pushed, and the others
module _ (log : Log) (entry : OutEntry) where
  pub new_entry : 0 < length log → entry_at (with_entry log entry) (length (with_entry log entry)) (length (series_at log (length log)) + 1) ≡ Some entry
  new_entry some =
      let present = series_at log (length log) in
      let last : length present + 1 - 1 ≡ length present + 0 = omega arith in
      ap (λ k. entry_at (with_entry log entry) k (length present + 1)) (length-with_entry log entry some)
      ∙ ap (λ (ts : List OutEntry). entry_in ts (length present + 1)) (present_with_entry log entry some)
      ∙ entry_in_is (present ++ entry ∷ []) (length present + 1) (omega arith)
      ∙ ap (λ i. slice_get (present ++ entry ∷ []) i) last
      ∙ slice_get-append_right present (entry ∷ []) 0

  -- with one more entry at its end, a list has the old ones and that
  in_pushed : (entries : List OutEntry) (n : ℕ) → IsSome (entry_in (entries ++ entry ∷ []) n) → (entry_in (entries ++ entry ∷ []) n ≡ entry_in entries n) ⊎ (entry_in (entries ++ entry ∷ []) n ≡ Some entry)
  in_pushed entries n named =
      let some = some_number (entries ++ entry ∷ []) n named in
      let inside = number_inside (entries ++ entry ∷ []) n named in
      elim (cases_lt (length entries) n) [
        | inl past ↦
            let last : n - 1 ≡ length entries + 0 = omega (arith, length_push entries entry) in
            inr (entry_in_is (entries ++ entry ∷ []) n some ∙ ap (λ i. slice_get (entries ++ entry ∷ []) i) last ∙ slice_get-append_right entries (entry ∷ []) 0)
        | inr old ↦ inl (entry_in_is (entries ++ entry ∷ []) n some ∙ slice_get-append_left entries (entry ∷ []) (n - 1) (omega arith) ∙ sym (entry_in_is entries n some))
      ]

  old_or_pushed : 0 < length log → (k n : ℕ) → IsSome (entry_at (with_entry log entry) k n) → (entry_at (with_entry log entry) k n ≡ entry_at log k n) ⊎ (entry_at (with_entry log entry) k n ≡ Some entry)
  old_or_pushed some k n named =
      elim (cases_eq k (length log)) [
        | inl present ↦
            let is = ap (λ j. series_at (with_entry log entry) j) present ∙ present_with_entry log entry some ∙ ap (λ j. series_at log j ++ entry ∷ []) (sym present) in
            elim (in_pushed (series_at log k) n (subst (λ (ts : List OutEntry). IsSome (entry_in ts n)) is named)) [
              | inl old ↦ inl (ap (λ (ts : List OutEntry). entry_in ts n) is ∙ old)
              | inr new ↦ inr (ap (λ (ts : List OutEntry). entry_in ts n) is ∙ new)
            ]
        | inr other ↦ inl (ap (λ (ts : List OutEntry). entry_in ts n) (other_with_entry log entry k some other))
      ]

no_series_at_first : (k : ℕ) → series_at {T = OutEntry} ([] ∷ []) k ≡ []
no_series_at_first k =
    elim (cases_eq k 0) [
      | inl none ↦ ap (λ i. series_at {T = OutEntry} ([] ∷ []) i) none
      | inr some ↦ elim (cases_eq k 1) [
        | inl one ↦ ap (λ i. series_at {T = OutEntry} ([] ∷ []) i) one
        | inr more ↦ no_series ([] ∷ []) k (let past : 1 < k = omega arith in past)
      ]
    ]

pub none_at_first : (k n : ℕ) → entry_at {T = OutEntry} ([] ∷ []) k n ≡ None
none_at_first k n = ap (λ (ts : List OutEntry). entry_in ts n) (no_series_at_first k) ∙ none_in_nothing n

pub pushed_or_old : (log : Log) (entry : OutEntry) (k n : ℕ) → IsSome (entry_at (with_entry log entry) k n) → (entry_at (with_entry log entry) k n ≡ entry_at log k n) ⊎ (entry_at (with_entry log entry) k n ≡ Some entry)
pushed_or_old [] entry k n named = elim (cases_eq k 1) [
  | inl one ↦ elim (in_pushed ([] ∷ []) entry [] n (subst (λ (ts : List OutEntry). IsSome (entry_in ts n)) (ap (λ i. series_at {T = OutEntry} ((entry ∷ []) ∷ []) i) one) named)) [
    | inl old ↦ inl (ap (λ (ts : List OutEntry). entry_in ts n) (ap (λ i. series_at {T = OutEntry} ((entry ∷ []) ∷ []) i) one) ∙ old ∙ ap (λ (ts : List OutEntry). entry_in ts n) (sym (no_series_of_none k)))
    | inr new ↦ inr (ap (λ (ts : List OutEntry). entry_in ts n) (ap (λ i. series_at {T = OutEntry} ((entry ∷ []) ∷ []) i) one) ∙ new)
  ]
  | inr other ↦ inl (ap (λ (ts : List OutEntry). entry_in ts n) (nothing_else k other ∙ sym (no_series_of_none k)))
]
  where
    no_series_of_none : (j : ℕ) → series_at {T = OutEntry} [] j ≡ []
    no_series_of_none j = elim (cases_eq j 0) [
      | inl none ↦ ap (λ i. series_at {T = OutEntry} [] i) none
      | inr some ↦ no_series [] j (let more : 0 < j = omega arith in more)
    ]

    nothing_else : (j : ℕ) → j ≢ 1 → series_at {T = OutEntry} ((entry ∷ []) ∷ []) j ≡ []
    nothing_else j other = elim (cases_eq j 0) [
      | inl none ↦ ap (λ i. series_at {T = OutEntry} ((entry ∷ []) ∷ []) i) none
      | inr some ↦ no_series ((entry ∷ []) ∷ []) j (let more : 1 < j = omega arith in more)
    ]
pushed_or_old (first ∷ log) entry k n named = old_or_pushed (first ∷ log) entry (omega arith) k n named

pub turned_same : (log : Log) (k n : ℕ) → entry_at (log ++ [] ∷ []) k n ≡ entry_at log k n
turned_same log k n =
    elim (cases_lt (length log) k) [
      | inl next ↦ ap (λ (ts : List OutEntry). entry_in ts n) (present_turned log k next ∙ sym (no_series log k next))
      | inr inside ↦ ap (λ (ts : List OutEntry). entry_in ts n) (other_turned log k inside)
    ]

-- an entry of the list's first part
module _ (entries first : List OutEntry) (n : ℕ) (begins : BeginsWith entries first) (named : IsSome (entry_in first n)) where
  entry_in-first : entry_in entries n ≡ entry_in first n
  entry_in-first =
      ap (λ ts. entry_in ts n) begins.1
      ∙ entry_in_is (first ++ begins.0) n (some_number first n named)
      ∙ slice_get-append_left first begins.0 (n - 1) (let some = some_number first n named in let inside = number_inside first n named in omega arith)
      ∙ sym (entry_in_is first n (some_number first n named))

module _ (earlier later : Log) (k : ℕ) (is : GoesOn earlier later) where
  begins : BeginsWith (series_at later k) (series_at earlier k)
  begins = subst (λ (log : Log). BeginsWith (series_at log k) (series_at earlier k)) (sym is.grown) (begins_after is.gains earlier k)

  pub entry_stays : (n : ℕ) → IsSome (entry_at earlier k n) → entry_at later k n ≡ entry_at earlier k n
  entry_stays n named = entry_in-first (series_at later k) (series_at earlier k) n begins named

  pub named_stays : (n : ℕ) → IsSome (entry_at earlier k n) → IsSome (entry_at later k n)
  named_stays n named = ap (λ (o : Option OutEntry). is_some o) (entry_stays n named) ∙ named

  pub beginning_stays : take (length (series_at earlier k)) (series_at later k) ≡ series_at earlier k
  beginning_stays =
      ap (λ ts. take (length (series_at earlier k)) ts) begins.1
      ∙ take-append-le (length (series_at earlier k)) (series_at earlier k) begins.0 (omega arith)
      ∙ take_all (length (series_at earlier k)) (series_at earlier k) (omega arith)

  pub past_stays : k < length earlier → series_at later k ≡ series_at earlier k
  past_stays h = ap (λ (log : Log). series_at log k) is.grown ∙ past_after is.gains earlier k h

pub longer_stays : (earlier later : Log) → GoesOn earlier later → length earlier ≤ length later
longer_stays earlier later is = subst (λ (log : Log). length earlier ≤ length log) (sym is.grown) (longer_after is.gains earlier)
