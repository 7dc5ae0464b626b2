-- What holds of the messages that pumps push.
use Rattle.std.proofs.Common.{◌≡◌, ℕ, zero, suc, ◌+◌, ◌-◌, ◌<◌, ◌≤◌, List, [], ◌∷◌, ◌++◌, length, refl, sym, ap, ◌∙◌, subst, arith, append_assoc, add-suc, add_assoc}
use native.Mathlib.Decide.{ℕ_discrete}
use Rattle.std.specs.Prelude.{slice_get, Some}
use Rattle.std.proofs.lemmas.List.{get_or_append_left}
use Rattle.std.proofs.lemmas.Grind.{common_steps}
use Rattle.lease_core.specs.declared.messages.Notice.{Notice}
use Rattle.catchup_pump.specs.declared.cursor.Cursor.{Cursor}
use Rattle.catchup_pump.specs.Pump.{message_at, messages_from, cursor_after}

got_before : {X : Type 0} (xs : List X) (x : X) (i : ℕ) → i < length xs → slice_get (xs ++ x ∷ []) i ≡ slice_get xs i
got_before [] x i below = absurd (omega arith)
got_before (y ∷ xs) x zero below = refl
got_before (y ∷ xs) x (suc i) below = got_before xs x i (omega arith)

got_last : {X : Type 0} (xs : List X) (x : X) → slice_get (xs ++ x ∷ []) (length xs) ≡ Some x
got_last [] x = refl
got_last (y ∷ xs) x = got_last xs x

pub joined : (c : Cursor) (log : List (List ℕ)) (m n : ℕ) → messages_from c log (m + n) ≡ messages_from c log m ++ messages_from (cursor_after c m) log n
joined c log m zero = grind (arith, common_steps)
joined c log m (suc n) = rw (add-suc, joined c log m n, append_assoc, ← add_assoc c.at m n)

pub grown : (c : Cursor) (log more : List (List ℕ)) (n : ℕ) → c.at + n ≤ length log → messages_from c (log ++ more) n ≡ messages_from c log n
grown c log more zero within = refl
grown c log more (suc n) within =
    let before : messages_from c (log ++ more) n ≡ messages_from c log n = grown c log more n (omega arith) in
    let below : c.at + n < length log = omega arith in
    rw (before, get_or_append_left log more [] (c.at + n) below)

pub counted : (c : Cursor) (log : List (List ℕ)) (n : ℕ) → length (messages_from c log n) ≡ n
counted c log zero = refl
counted c log (suc n) = let before : length (messages_from c log n) ≡ n = counted c log n in grind (arith, common_steps, before)

pub each : (c : Cursor) (log : List (List ℕ)) (n i : ℕ) → i < n → slice_get (messages_from c log n) i ≡ Some (message_at c log i)
each c log zero i below = absurd (omega arith)
each c log (suc n) i below = let count : length (messages_from c log n) ≡ n = counted c log n in
    elim (ℕ_discrete i n) [
      | yes same ↦ subst (λ (k : ℕ). slice_get (messages_from c log n ++ message_at c log n ∷ []) k ≡ Some (message_at c log k)) (sym same)
          (subst (λ (k : ℕ). slice_get (messages_from c log n ++ message_at c log n ∷ []) k ≡ Some (message_at c log n)) count (got_last (messages_from c log n) (message_at c log n)))
      | no other ↦ let less : i < n = omega arith in
          got_before (messages_from c log n) (message_at c log n) i (omega arith) ∙ each c log n i less
    ]

-- a message more was pushed
pub one_more : (c : Cursor) (log : List (List ℕ)) (pos : ℕ) → c.at ≤ pos
    → messages_from c log (pos + 1 - c.at) ≡ messages_from c log (pos - c.at) ++ message_at (record c { at = pos }) log 0 ∷ []
one_more c log pos from =
    let longer : pos + 1 - c.at ≡ suc (pos - c.at) = omega arith in
    let here : c.at + (pos - c.at) ≡ pos + 0 = omega arith in
    rw (longer, here)

-- and the cursor and what was pushed are those of one position further on
pub gone_on : (start c c' : Cursor) (log : List (List ℕ)) (pos : ℕ) (before p p' : List Notice) → start.at ≤ pos
    → c ≡ record start { at = pos } → c' ≡ cursor_after c 1 → p ≡ before ++ messages_from start log (pos - start.at) → p' ≡ p ++ message_at c log 0 ∷ []
    → (c' ≡ record start { at = pos + 1 }) × (p' ≡ before ++ messages_from start log (pos + 1 - start.at))
gone_on start c c' log pos before p p' from here moved was pushed = (
  moved ∙ ap (λ (k : Cursor). cursor_after k 1) here,
  rw (pushed, was, here, one_more start log pos from, append_assoc),
)
