-- Session entries of a range of numbers.
use Rattle.std.proofs.Common.{◌≡◌, ℕ, zero, suc, ◌+◌, ◌-◌, ◌<◌, ◌≤◌, min, true, false, cond, List, [], ◌∷◌, length, get_or, take, drop, Option, refl, sym, ap, ◌∙◌, inl, inr, arith, length-take}
use Rattle.std.specs.List.{slice_get, slice_range}
use Rattle.std.specs.Option.{option_map_or}
use Rattle.std.proofs.lemmas.Bool.{cases_lt, false≢true}
use Rattle.std.proofs.lemmas.Option.{slice_get-get_or}
use Rattle.std.proofs.lemmas.List.{drop_more, drop-take, drop-drop}
use Rattle.message_log.specs.declared.entry.OutEntry.{OutEntry}
use Rattle.message_log.specs.Stretches.{is_session, IsStretchEnd}
use Rattle.resend_plan.specs.Plan.{leading_sessions}
use Rattle.resend_plan.specs.Wire.{no_entry}
use Rattle.resend_plan.proofs.Places.{slice_get-take, slice_get-drop, at_number, session-behind, session-past}

-- the entry with a number, and whether it is a session entry
pub admin_is : (entries : List OutEntry) (n : ℕ) → 0 < n → n ≤ length entries → (get_or entries (n - 1) no_entry).admin ≡ is_session entries n
admin_is entries n some inside =
    sym (at_number entries n some ∙ ap (λ (o : Option OutEntry). option_map_or (λ entry. entry.admin) o false) (slice_get-get_or entries (n - 1) no_entry (omega arith)))

-- as many session entries stand at the head of a list as its first numbers are
pub leading_is : (entries : List OutEntry) (r : ℕ) → ((k : ℕ) → k < r → is_session entries (suc k) ≡ true) → is_session entries (suc r) ≡ false → leading_sessions entries ≡ r
leading_is [] zero all next = refl
leading_is [] (suc r) all next = absurd (false≢true (all zero (omega arith)))
leading_is (first ∷ entries) zero all next = ap (λ b. cond b (1 + leading_sessions entries) 0) next
leading_is (first ∷ entries) (suc r) all next =
    let rest = leading_is entries r (λ k h. sym (session-behind first entries k) ∙ all (suc k) (omega arith)) (sym (session-behind first entries r) ∙ next) in
    ap (λ b. cond b (1 + leading_sessions entries) 0) (all zero (omega arith)) ∙ omega (arith, rest)

module _ (entries : List OutEntry) where
  -- a number of the entries from one place to another
  pub session_within : (a b k : ℕ) → a + suc k ≤ b → is_session (slice_range entries a b) (suc k) ≡ is_session entries (a + suc k)
  session_within a b k h =
      let place : a + (suc k - 1) ≡ a + suc k - 1 = omega arith in
      at_number (slice_range entries a b) (suc k) (omega arith)
      ∙ ap (λ (o : Option OutEntry). option_map_or (λ entry. entry.admin) o false) (slice_get-take (b - a) (drop a entries) (suc k - 1) (omega arith) ∙ slice_get-drop a entries (suc k - 1) ∙ ap (λ i. slice_get entries i) place)
      ∙ sym (at_number entries (a + suc k) (omega arith))

  -- the first entry of a range, and the others
  pub range_head : (n last : ℕ) → 0 < n → n ≤ last → last ≤ length entries → slice_range entries (n - 1) last ≡ get_or entries (n - 1) no_entry ∷ slice_range entries n last
  range_head n last some h inside =
      let count : last - (n - 1) ≡ suc (last - n) = omega arith in
      let next : n - 1 + 1 ≡ n = omega arith in
      ap (λ ts. take (last - (n - 1)) ts) (drop_more entries (n - 1) no_entry (omega arith))
      ∙ ap (λ c. take c (get_or entries (n - 1) no_entry ∷ drop (n - 1 + 1) entries)) count
      ∙ ap (λ i. get_or entries (n - 1) no_entry ∷ take (last - n) (drop i entries)) next

  -- a later part of a range
  pub range_tail : (a b j : ℕ) → a + j ≤ b → drop j (slice_range entries a b) ≡ slice_range entries (a + j) b
  range_tail a b j h =
      let count : b - a ≡ j + (b - (a + j)) = omega arith in
      ap (λ c. drop j (take c (drop a entries))) count
      ∙ drop-take j (b - (a + j)) (drop a entries)
      ∙ ap (λ ts. take (b - (a + j)) ts) (drop-drop j a entries)

  -- behind a session entry of a range, so many more follow
  pub leading_behind : (n z last : ℕ) → 0 < n → n ≤ last → last ≤ length entries → IsStretchEnd entries n z → leading_sessions (slice_range entries n last) ≡ min z last - n
  leading_behind n z last some h inside is =
      leading_is (slice_range entries n last) (min z last - n)
      (λ k less. session_within n last k (omega arith) ∙ is.all_session (n + suc k) (omega arith) (omega arith))
      (elim (cases_lt z last) [
        | inl before ↦
            let forward = is.forward in
            let place : n + suc (min z last - n) ≡ z + 1 = omega arith in
            session_within n last (min z last - n) (omega arith) ∙ ap (λ i. is_session entries i) place ∙ is.next_is_none
        | inr at_end ↦ session-past (slice_range entries n last) (suc (min z last - n)) (omega (arith, length-take (last - n) (drop n entries)))
      ])
