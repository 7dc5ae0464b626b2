-- A plan, from item to item.
use Rattle.std.proofs.Common.{◌≡◌, ℕ, suc, ◌+◌, ◌-◌, ◌<◌, ◌≤◌, ◌||◌, ◌==◌, nat_lt, min, Bool, true, false, cond, List, [], ◌∷◌, ◌++◌, length, get_or, take, drop, refl, sym, ap, ◌∙◌, inl, inr, arith, append_assoc}
use Rattle.std.specs.List.{slice_range}
use Rattle.std.proofs.lemmas.Bool.{cases_lt, eq-eqb, ne_eqb, lt-ltb, le-ltb, ltb-false, cond-true, cond-false, cond_both, or_left, or_right, or_from, or_parts}
use Rattle.message_log.specs.declared.entry.OutEntry.{OutEntry}
use Rattle.message_log.specs.Stretches.{is_session, IsStretchEnd}
use Rattle.resend_plan.specs.declared.item.WireItem.{WireItem}
use Rattle.resend_plan.specs.declared.item.WireItem.TheVariants.{Again, GapFill}
use Rattle.resend_plan.specs.Plan.{leading_sessions, items_from, last_asked, is_empty_range, plan_of}
use Rattle.resend_plan.specs.Wire.{no_entry}
use Rattle.resend_plan.proofs.Places.{session_at}
use Rattle.resend_plan.proofs.Ranges.{admin_is, range_head, range_tail, leading_behind}

pub asked_within : (count last : ℕ) → last_asked count last ≤ count
asked_within count last =
    cond_both (last == 0 || nat_lt count last) count last (λ e. e ≤ count) (λ _. omega arith) (λ no. ltb-false count last (or_parts _ _ no).1)

-- what is planned from a number on
abbrev pub rest_of : ℕ → ℕ → List OutEntry → ℕ → ℕ → List WireItem
rest_of series at entries last n = items_from series at false n (slice_range entries (n - 1) last)

module _ (series at : ℕ) where
  app_first : (n : ℕ) (entry : OutEntry) (entries : List OutEntry) → entry.admin ≡ false → items_from series at false n (entry ∷ entries) ≡ Again series n at ∷ items_from series at false (n + 1) entries
  app_first n entry entries is = rw is refl

  skip_one : (n : ℕ) (entry : OutEntry) (entries : List OutEntry) (admin : Bool) → entry.admin ≡ admin → items_from series at true (n + 1) entries ≡ items_from series at false (n + 1 + leading_sessions entries) (drop (leading_sessions entries) entries) → items_from series at true n (entry ∷ entries) ≡ items_from series at false (n + leading_sessions (entry ∷ entries)) (drop (leading_sessions (entry ∷ entries)) (entry ∷ entries))
  skip_one n entry entries true is later =
      let number : n + 1 + leading_sessions entries ≡ n + (1 + leading_sessions entries) = omega arith in
      let count : suc (leading_sessions entries) ≡ 1 + leading_sessions entries = omega arith in
      ap (λ b. cond b [] (Again series n at ∷ []) ++ items_from series at b (n + 1) entries) is
      ∙ later
      ∙ ap (λ k. items_from series at false k (drop (leading_sessions entries) entries)) number
      ∙ ap (λ c. items_from series at false (n + (1 + leading_sessions entries)) (drop c (entry ∷ entries))) count
      ∙ sym (ap (λ b. items_from series at false (n + cond b (1 + leading_sessions entries) 0) (drop (cond b (1 + leading_sessions entries) 0) (entry ∷ entries))) is)
  skip_one n entry entries false is later =
      let number : n ≡ n + 0 = omega arith in
      ap (λ b. cond b [] (Again series n at ∷ []) ++ items_from series at b (n + 1) entries) is
      ∙ ap (λ k. Again series k at ∷ items_from series at false (k + 1) entries) number
      ∙ sym (app_first (n + 0) entry entries is)
      ∙ sym (ap (λ b. items_from series at false (n + cond b (1 + leading_sessions entries) 0) (drop (cond b (1 + leading_sessions entries) 0) (entry ∷ entries))) is)

  -- session entries behind one of the range have no item of their own
  skipped : (n : ℕ) (entries : List OutEntry) → items_from series at true n entries ≡ items_from series at false (n + leading_sessions entries) (drop (leading_sessions entries) entries)
  skipped n [] = refl
  skipped n (entry ∷ entries) = skip_one n entry entries entry.admin refl (skipped (n + 1) entries)

  session_first : (n : ℕ) (entry : OutEntry) (entries : List OutEntry) → entry.admin ≡ true → items_from series at false n (entry ∷ entries) ≡ GapFill series n (n + 1 + leading_sessions entries) at ∷ items_from series at true (n + 1) entries
  session_first n entry entries is = rw is refl

  module _ (entries : List OutEntry) (last n : ℕ) (some : 0 < n) (h : n ≤ last) (inside : last ≤ length entries) where
    -- an application entry is sent again
    pub again : is_session entries n ≡ false → rest_of series at entries last n ≡ Again series n at ∷ rest_of series at entries last (n + 1)
    again app =
        let next : n ≡ n + 1 - 1 = omega arith in
        ap (λ ts. items_from series at false n ts) (range_head entries n last some h inside)
        ∙ app_first n (get_or entries (n - 1) no_entry) (slice_range entries n last) (admin_is entries n some (omega arith) ∙ app)
        ∙ ap (λ a. Again series n at ∷ items_from series at false (n + 1) (slice_range entries a last)) next

    -- a gap fill stands for a run of session entries
    pub filled : (z : ℕ) → IsStretchEnd entries n z → rest_of series at entries last n ≡ GapFill series n (min z last + 1) at ∷ rest_of series at entries last (min z last + 1)
    filled z is =
        let forward = is.forward in
        let more = slice_range entries n last in
        let run = leading_behind entries n z last some h inside is in
        let to : n + 1 + leading_sessions more ≡ min z last + 1 = omega (arith, run) in
        let place : n + leading_sessions more ≡ min z last + 1 - 1 = omega (arith, run) in
        ap (λ ts. items_from series at false n ts) (range_head entries n last some h inside)
        ∙ session_first n (get_or entries (n - 1) no_entry) more (admin_is entries n some (omega arith) ∙ session_at entries n z is)
        ∙ ap (λ items. GapFill series n (n + 1 + leading_sessions more) at ∷ items) (skipped (n + 1) more)
        ∙ ap (λ k. GapFill series n k at ∷ items_from series at false k (drop (leading_sessions more) more)) to
        ∙ ap (λ ts. GapFill series n (min z last + 1) at ∷ items_from series at false (min z last + 1) ts) (range_tail entries n last (leading_sessions more) (omega (arith, run)) ∙ ap (λ a. slice_range entries a last) place)

  -- nothing is left behind the last number
  pub done : (entries : List OutEntry) (last n : ℕ) → last < n → rest_of series at entries last n ≡ []
  done entries last n h =
      let none : last - (n - 1) ≡ 0 = omega arith in
      ap (λ c. items_from series at false n (take c (drop (n - 1) entries))) none

  -- the plan is what is planned from the first number on
  pub plan_is : (entries : List OutEntry) (begin last : ℕ) → 0 < begin → plan_of entries series begin last at ≡ rest_of series at entries (last_asked (length entries) last) begin
  plan_is entries begin last some =
      let end = last_asked (length entries) last in
      let items = rest_of series at entries end begin in
      elim (cases_lt end begin) [
        | inl past ↦
            cond-true (is_empty_range (length entries) begin last) [] items (or_right (begin == 0) _ (or_right (nat_lt (length entries) begin) (nat_lt end begin) (lt-ltb end begin past)))
            ∙ sym (done entries end begin past)
        | inr inside ↦ cond-false (is_empty_range (length entries) begin last) [] items (or_from _ _ (ne_eqb begin 0 (λ e. omega arith)) (or_from _ _ (le-ltb (length entries) begin (omega (arith, inside, asked_within (length entries) last))) (le-ltb end begin inside)))
      ]

  pub plan_of_zero : (entries : List OutEntry) (begin last : ℕ) → begin ≡ 0 → plan_of entries series begin last at ≡ []
  plan_of_zero entries begin last none = cond-true (is_empty_range (length entries) begin last) [] (rest_of series at entries (last_asked (length entries) last) begin) (or_left (begin == 0) _ (eq-eqb begin 0 none))

-- an item is planned, and the rest is left
pub joined : (items more rest whole : List WireItem) (item : WireItem) → more ≡ items ++ item ∷ [] → items ++ item ∷ rest ≡ whole → more ++ rest ≡ whole
joined items more rest whole item is planned = ap (λ l. l ++ rest) is ∙ append_assoc items (item ∷ []) rest ∙ planned
