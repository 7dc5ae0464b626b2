-- What the items of a plan stand for.
use Rattle.std.proofs.Common.{◌≡◌, ◌↔◌, ℕ, zero, suc, ◌+◌, ◌-◌, ◌<◌, ◌≤◌, ◌==◌, nat_lt, Bool, true, false, cond, List, [], ◌∷◌, ◌++◌, length, drop, Option, Some, IsSome, is_some, refl, sym, ap, subst, ◌∙◌, inl, inr, arith, length-take, length-drop}
use Rattle.std.specs.List.{All, flat_map, range_with_len, slice_get, slice_range}
use Rattle.std.specs.Option.{option_map_or}
use Rattle.std.proofs.lemmas.Bool.{cases_lt, cases_eq, eqb-false, eq-eqb, ne_eqb, lt-ltb, le-ltb, ltb-false, cond-true, cond_both, or_left, or_right, or_from, or_parts}
use Rattle.std.proofs.lemmas.List.FromFn.{length-range_with_len}
use Rattle.std.proofs.lemmas.List.Elements.{All-nil, All-cons, All-weaker}
use Rattle.message_log.specs.declared.entry.OutEntry.{OutEntry}
use Rattle.message_log.specs.Series.{series_at, entry_at, entry_in}
use Rattle.resend_plan.specs.declared.item.WireItem.{WireItem}
use Rattle.resend_plan.specs.declared.item.WireItem.TheVariants.{New, Again, GapFill}
use Rattle.resend_plan.specs.Plan.{leading_sessions, items_from, last_asked, is_empty_range, plan_of, numbers_of, asked_numbers, AsksNothing, IsAnswer}
use Rattle.resend_plan.specs.Wire.{NamesEntry}
use Rattle.resend_plan.proofs.Places.{slice_get-take, slice_get-drop, entry_in_is}
use Rattle.resend_plan.proofs.Walk.{asked_within}

-- The numbers of the items of some entries. Where a session entry of the range stands before them, those of its run have no item of their own.
module _ (series at : ℕ) where
  abbrev run : Bool → ℕ → List OutEntry → List ℕ
  run before n entries = cond before (range_with_len n (leading_sessions entries)) []

  first : (before admin : Bool) (n : ℕ) (entries : List OutEntry)
      → run admin (n + 1) entries ++ flat_map numbers_of (items_from series at admin (n + 1) entries) ≡ range_with_len (n + 1) (length entries)
      → cond before (range_with_len n (cond admin (1 + leading_sessions entries) 0)) []
      ++ flat_map numbers_of (cond admin (cond before [] (GapFill series n (n + 1 + leading_sessions entries) at ∷ [])) (Again series n at ∷ []) ++ items_from series at admin (n + 1) entries)
      ≡ n ∷ range_with_len (n + 1) (length entries)
  first false false n entries rest = ap (λ ns. n ∷ ns) rest
  first true false n entries rest = ap (λ ns. n ∷ ns) rest
  first false true n entries rest =
      let count : n + 1 + leading_sessions entries - n ≡ suc (leading_sessions entries) = omega arith in
      ap (λ c. range_with_len n c ++ flat_map numbers_of (items_from series at true (n + 1) entries)) count ∙ ap (λ ns. n ∷ ns) rest
  first true true n entries rest =
      let count : 1 + leading_sessions entries ≡ suc (leading_sessions entries) = omega arith in
      ap (λ c. range_with_len n c ++ flat_map numbers_of (items_from series at true (n + 1) entries)) count ∙ ap (λ ns. n ∷ ns) rest

  numbers_from : (before : Bool) (n : ℕ) (entries : List OutEntry) → run before n entries ++ flat_map numbers_of (items_from series at before n entries) ≡ range_with_len n (length entries)
  numbers_from false n [] = refl
  numbers_from true n [] = refl
  numbers_from before n (entry ∷ entries) = first before entry.admin n entries (numbers_from entry.admin (n + 1) entries)

-- a range that isn't empty
module _ (count begin last : ℕ) (asked : is_empty_range count begin last ≡ false) where
  some : 0 < begin
  some = let ne = eqb-false begin 0 (or_parts _ _ asked).0 in elim (cases_eq begin 0) [ inl is ↦ absurd (ne is) | inr more ↦ omega arith ]

  forward : begin ≤ last_asked count last
  forward = ltb-false (last_asked count last) begin (or_parts _ _ (or_parts _ _ asked).1).1

  pub size_asked : (entries : List OutEntry) → length entries ≡ count → length (slice_range entries (begin - 1) (last_asked count last)) ≡ last_asked count last + 1 - begin
  size_asked entries size =
      let end = last_asked count last in
      let inside = asked_within count last in
      let from = some in
      let to = forward in
      omega (arith, length-take (end - (begin - 1)) (drop (begin - 1) entries), length-drop (begin - 1) entries)

numbers_at : (b : Bool) (items : List WireItem) (numbers : List ℕ) → (b ≡ false → flat_map numbers_of items ≡ numbers) → flat_map numbers_of (cond b [] items) ≡ cond b [] numbers
numbers_at true items numbers h = refl
numbers_at false items numbers h = h refl

pub plan_numbers : (entries : List OutEntry) (series begin last at : ℕ) → flat_map numbers_of (plan_of entries series begin last at) ≡ asked_numbers (length entries) begin last
plan_numbers entries series begin last at =
    let end = last_asked (length entries) last in
    let range = slice_range entries (begin - 1) end in
    numbers_at (is_empty_range (length entries) begin last) (items_from series at false begin range) (range_with_len begin (end + 1 - begin)) (λ asked.
    numbers_from series at false begin range ∙ ap (λ n. range_with_len begin n) (size_asked (length entries) begin last asked entries refl))

pub nothing_asked : (count begin last : ℕ) → AsksNothing count begin last → is_empty_range count begin last ≡ true
nothing_asked count begin last none = elim none [
  | inl zero_n ↦ or_left (begin == 0) _ (eq-eqb begin 0 zero_n)
  | inr other ↦ or_right (begin == 0) _ (elim other [
    | inl past ↦ or_left (nat_lt count begin) _ (lt-ltb count begin past)
    | inr back ↦ or_right (nat_lt count begin) _ (lt-ltb (last_asked count last) begin back)
  ])
]

something_asked : (count begin last : ℕ) → asked_numbers count begin last ≡ [] → AsksNothing count begin last
something_asked count begin last none =
    elim (cases_eq begin 0) [
      | inl zero_n ↦ inl zero_n
      | inr some ↦ elim (cases_lt count begin) [
        | inl past ↦ inr (inl past)
        | inr inside ↦ elim (cases_lt (last_asked count last) begin) [
          | inl back ↦ inr (inr back)
          | inr to ↦
              let asked = or_from (begin == 0) _ (ne_eqb begin 0 some) (or_from (nat_lt count begin) _ (le-ltb count begin inside) (le-ltb (last_asked count last) begin to)) in
              let numbers = last_asked count last + 1 - begin in
              let same = ap (λ b. cond b [] (range_with_len begin numbers)) (sym asked) ∙ none in
              let size = ap (λ (ns : List ℕ). length ns) same in
              absurd (omega (arith, length-range_with_len begin numbers, size))
        ]
      ]
    ]

pub plan_none : (entries : List OutEntry) (series begin last at : ℕ) → (plan_of entries series begin last at ≡ []) ↔ AsksNothing (length entries) begin last
plan_none entries series begin last at = (
  λ none. something_asked (length entries) begin last (sym (plan_numbers entries series begin last at) ∙ ap (λ items. flat_map numbers_of items) none),
  λ none. cond-true (is_empty_range (length entries) begin last) [] (items_from series at false begin (slice_range entries (begin - 1) (last_asked (length entries) last))) (nothing_asked (length entries) begin last none),
)

abbrev session : Option OutEntry → Bool
session found = option_map_or (λ entry. entry.admin) found false

leading_within : (rest : List OutEntry) → leading_sessions rest ≤ length rest
leading_within [] = omega arith
leading_within (entry ∷ rest) = let more = leading_within rest in cond_both entry.admin (1 + leading_sessions rest) 0 (λ n. n ≤ suc (length rest)) (λ _. omega arith) (λ _. omega arith)

in_run : (rest : List OutEntry) (i : ℕ) → i < leading_sessions rest → session (slice_get rest i) ≡ true
in_run [] i h = absurd (omega arith)
in_run (entry ∷ rest) i h = at_head entry.admin refl (λ j less. in_run rest j less) i h
  where
    at_head : (admin : Bool) → entry.admin ≡ admin → ((j : ℕ) → j < leading_sessions rest → session (slice_get rest j) ≡ true)
        → (j : ℕ) → j < cond admin (1 + leading_sessions rest) 0 → session (slice_get (entry ∷ rest) j) ≡ true
    at_head false is behind j less = absurd (omega arith)
    at_head true is behind zero less = is
    at_head true is behind (suc j) less = behind j (omega arith)

-- each of the rest is the series' entry with its number, where the first has number n
abbrev StandAt : List OutEntry → ℕ → List OutEntry → Type 0
StandAt entries n rest = (i : ℕ) → i < length rest → slice_get rest i ≡ entry_in entries (n + i)

module _ (log : List (List OutEntry)) (series at : ℕ) where
  abbrev Answers : List WireItem → Type 0
  Answers items = All (IsAnswer log series at) items

  behind_first : (n : ℕ) (entry : OutEntry) (rest : List OutEntry) → StandAt (series_at log series) n (entry ∷ rest) → StandAt (series_at log series) (n + 1) rest
  behind_first n entry rest stand = λ i h. let number : n + suc i ≡ n + 1 + i = omega arith in stand (suc i) (omega arith) ∙ ap (λ m. entry_in (series_at log series) m) number

  is_first : (n : ℕ) (entry : OutEntry) (rest : List OutEntry) → StandAt (series_at log series) n (entry ∷ rest) → entry_at log series n ≡ Some entry
  is_first n entry rest stand = let number : n ≡ n + 0 = omega arith in ap (λ m. entry_in (series_at log series) m) number ∙ sym (stand 0 (omega arith))

  first_again : (n : ℕ) (entry : OutEntry) (rest : List OutEntry) → StandAt (series_at log series) n (entry ∷ rest) → entry.admin ≡ false → IsAnswer log series at (Again series n at)
  first_again n entry rest stand is = (
    refl,
    refl,
    ap (λ (o : Option OutEntry). is_some o) (is_first n entry rest stand),
    ap session (is_first n entry rest stand) ∙ is,
  )

  first_filled : (n : ℕ) (entry : OutEntry) (rest : List OutEntry) → StandAt (series_at log series) n (entry ∷ rest) → entry.admin ≡ true → IsAnswer log series at (GapFill series n (n + 1 + leading_sessions rest) at)
  first_filled n entry rest stand is = (
    refl,
    refl,
    omega arith,
    λ m from to.
        let size = ap (λ b. cond b (1 + leading_sessions rest) 0) is in
        let within = leading_within (entry ∷ rest) in
        let number : m ≡ n + (m - n) = omega arith in
        ap (λ k. session (entry_in (series_at log series) k)) number
        ∙ ap session (sym (stand (m - n) (omega arith)))
        ∙ in_run (entry ∷ rest) (m - n) (omega arith),
  )

  answers_first : (before admin : Bool) (n : ℕ) (entry : OutEntry) (rest : List OutEntry) → entry.admin ≡ admin → StandAt (series_at log series) n (entry ∷ rest)
      → Answers (items_from series at admin (n + 1) rest)
      → Answers (cond admin (cond before [] (GapFill series n (n + 1 + leading_sessions rest) at ∷ [])) (Again series n at ∷ []) ++ items_from series at admin (n + 1) rest)
  answers_first false false n entry rest is stand more = All-cons (IsAnswer log series at) (Again series n at) (items_from series at false (n + 1) rest) (first_again n entry rest stand is) more
  answers_first true false n entry rest is stand more = All-cons (IsAnswer log series at) (Again series n at) (items_from series at false (n + 1) rest) (first_again n entry rest stand is) more
  answers_first false true n entry rest is stand more = All-cons (IsAnswer log series at) (GapFill series n (n + 1 + leading_sessions rest) at) (items_from series at true (n + 1) rest) (first_filled n entry rest stand is) more
  answers_first true true n entry rest is stand more = more

  answers_from : (before : Bool) (n : ℕ) (rest : List OutEntry) → StandAt (series_at log series) n rest → Answers (items_from series at before n rest)
  answers_from before n [] stand = All-nil (IsAnswer log series at)
  answers_from before n (entry ∷ rest) stand =
      answers_first before entry.admin n entry rest refl stand (answers_from entry.admin (n + 1) rest (behind_first n entry rest stand))

  -- the entries of a range stand at their numbers
  in_range : (entries : List OutEntry) (begin end : ℕ) → 0 < begin → StandAt entries begin (slice_range entries (begin - 1) end)
  in_range entries begin end some = λ i h.
      let count = end - (begin - 1) in
      let place : begin - 1 + i ≡ begin + i - 1 = omega arith in
      slice_get-take count (drop (begin - 1) entries) i (omega (arith, length-take count (drop (begin - 1) entries)))
      ∙ slice_get-drop (begin - 1) entries i
      ∙ ap (λ j. slice_get entries j) place
      ∙ sym (entry_in_is entries (begin + i) (omega arith))

  pub plan_answers : (begin last : ℕ) → Answers (plan_of (series_at log series) series begin last at)
  plan_answers begin last =
      let entries = series_at log series in
      let end = last_asked (length entries) last in
      cond_both (is_empty_range (length entries) begin last) [] (items_from series at false begin (slice_range entries (begin - 1) end)) Answers
      (λ _. All-nil (IsAnswer log series at))
      (λ asked. answers_from false begin (slice_range entries (begin - 1) end) (in_range entries begin end (some (length entries) begin last asked)))

  answer_names : (item : WireItem) → IsAnswer log series at item → NamesEntry log item
  answer_names (New k n) is = absurd is
  answer_names (Again k n moment) is = subst (λ j. IsSome (entry_at log j n)) (sym is.0) is.2
  answer_names (GapFill k n to moment) is = tt

  pub plan_names : (begin last : ℕ) → All (NamesEntry log) (plan_of (series_at log series) series begin last at)
  plan_names begin last = All-weaker (IsAnswer log series at) (NamesEntry log) answer_names (plan_of (series_at log series) series begin last at) (plan_answers begin last)
