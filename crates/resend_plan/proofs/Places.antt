-- What stands at a place of part of a list, and which entry has a number.
use Rattle.std.proofs.Common.{◌≡◌, ℕ, zero, suc, ◌+◌, ◌-◌, ◌<◌, ◌==◌, Bool, true, false, List, [], ◌∷◌, length, take, drop, Option, None, refl, sym, ap, ◌∙◌, arith, zero-add}
use Rattle.std.specs.List.{slice_get}
use Rattle.std.specs.Option.{option_map_or}
use Rattle.std.proofs.lemmas.Bool.{ne_eqb, cond-false}
use Rattle.std.proofs.lemmas.Option.{slice_get_past}
use Rattle.message_log.specs.declared.entry.OutEntry.{OutEntry}
use Rattle.message_log.specs.Series.{entry_in}
use Rattle.message_log.specs.Stretches.{is_session, IsStretchEnd}

module _ {X : Type 0} where
  pub slice_get-take : (n : ℕ) (xs : List X) (i : ℕ) → i < n → slice_get (take n xs) i ≡ slice_get xs i
  slice_get-take zero xs i h = absurd (omega arith)
  slice_get-take (suc n) [] i h = refl
  slice_get-take (suc n) (x ∷ xs) zero h = refl
  slice_get-take (suc n) (x ∷ xs) (suc i) h = slice_get-take n xs i (omega arith)

  pub slice_get-drop : (n : ℕ) (xs : List X) (i : ℕ) → slice_get (drop n xs) i ≡ slice_get xs (n + i)
  slice_get-drop zero xs i = ap (λ k. slice_get xs k) (sym (zero-add i))
  slice_get-drop (suc n) [] i = refl
  slice_get-drop (suc n) (x ∷ xs) i =
      let next : suc n + i ≡ suc (n + i) = omega arith in
      slice_get-drop n xs i ∙ ap (λ k. slice_get (x ∷ xs) k) (sym next)

pub entry_in_is : (entries : List OutEntry) (n : ℕ) → 0 < n → entry_in entries n ≡ slice_get entries (n - 1)
entry_in_is entries n h = cond-false (n == 0) None (slice_get entries (n - 1)) (ne_eqb n 0 (λ e. omega arith))

abbrev session : Option OutEntry → Bool
session found = option_map_or (λ entry. entry.admin) found false

pub at_number : (entries : List OutEntry) (n : ℕ) → 0 < n → is_session entries n ≡ session (slice_get entries (n - 1))
at_number entries n h = ap session (entry_in_is entries n h)

pub session-past : (entries : List OutEntry) (n : ℕ) → length entries < n → is_session entries n ≡ false
session-past entries n h = at_number entries n (omega arith) ∙ ap session (slice_get_past entries (n - 1) (omega arith))

pub session-behind : (first : OutEntry) (entries : List OutEntry) (n : ℕ) → is_session (first ∷ entries) (suc (suc n)) ≡ is_session entries (suc n)
session-behind first entries n =
    let next : suc (suc n) - 1 ≡ suc (suc n - 1) = omega arith in
    at_number (first ∷ entries) (suc (suc n)) (omega arith)
    ∙ ap (λ i. session (slice_get (first ∷ entries) i)) next
    ∙ sym (at_number entries (suc n) (omega arith))

-- the first of a stretch is a session entry
pub session_at : (entries : List OutEntry) (n z : ℕ) → IsStretchEnd entries n z → is_session entries n ≡ true
session_at entries n z is = is.all_session n (omega arith) is.forward
