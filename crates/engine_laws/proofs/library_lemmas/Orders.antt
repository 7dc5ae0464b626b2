-- The grant and the messages of each lease among notices that are pushed one behind another.
use Rattle.std.proofs.Common.{◌≡◌, ◌≢◌, ◌⊎◌, inl, inr, ℕ, zero, suc, ◌+◌, ◌≤◌, ◌==◌, Bool, true, false, List, [], ◌∷◌, ◌++◌, length, Option, Some, refl, sym, ap, subst, ◌∙◌, arith}
use Rattle.std.proofs.lemmas.Bool.{eq-eqb, ne_eqb}
use Rattle.std.proofs.lemmas.List.Elements.{All-append, All-cons, All-nil}
use Rattle.std.proofs.lemmas.Option.{slice_get-get_or}
use Rattle.std.specs.List.{All}
use Rattle.std.specs.Prelude.{◌&&◌}
use Rattle.catchup_pump.specs.Pump.{message_at, messages_from}
use Rattle.catchup_pump.specs.declared.cursor.Cursor.{Cursor}
use Rattle.lease_core.specs.declared.messages.Notice.{Notice}
use Rattle.library_api.specs.Reads.{AreInOrder, ComesNext, concerns, is_of, next_after}
use Rattle.engine_laws.specs.libraries.Feeds.{IsLogged, next_over}
use Rattle.switchboard.specs.Board.{Board, book_at}

pub next_append : (s lease : ℕ) (next : Option ℕ) (xs ys : List Notice) → next_over s lease next (xs ++ ys) ≡ next_over s lease (next_over s lease next xs) ys
next_append s lease next [] ys = refl
next_append s lease next (n ∷ xs) ys = next_append s lease (next_after (concerns s lease n) next n) xs ys

pub order_append : (s lease : ℕ) (next : Option ℕ) (xs ys : List Notice) → AreInOrder s lease next xs → AreInOrder s lease (next_over s lease next xs) ys → AreInOrder s lease next (xs ++ ys)
order_append s lease next [] ys first last = last
order_append s lease next (n ∷ xs) ys first last = (first.0, order_append s lease (next_after (concerns s lease n) next n) xs ys first.1 last)

-- a notice that isn't of the lease
pub aside_order : (s lease : ℕ) (next : Option ℕ) (n : Notice) → concerns s lease n ≡ false → AreInOrder s lease next (n ∷ [])
aside_order s lease next n aside = (subst (λ b. ComesNext b next n) (sym aside) tt, tt)

pub aside_next : (s lease : ℕ) (next : Option ℕ) (n : Notice) → concerns s lease n ≡ false → next_over s lease next (n ∷ []) ≡ next
aside_next s lease next n aside = ap (λ b. next_after b next n) aside

-- one that is
pub own_order : (s lease : ℕ) (next : Option ℕ) (n : Notice) → concerns s lease n ≡ true → ComesNext true next n → AreInOrder s lease next (n ∷ [])
own_order s lease next n own comes = (subst (λ b. ComesNext b next n) (sym own) comes, tt)

pub own_next : (s lease : ℕ) (next : Option ℕ) (n : Notice) → concerns s lease n ≡ true → next_over s lease next (n ∷ []) ≡ next_after true next n
own_next s lease next n own = ap (λ b. next_after b next n) own

pub is_of_own : (s lease : ℕ) → is_of s lease s lease ≡ true
is_of_own s lease = ap (λ b. b && (lease == lease)) (eq-eqb s s refl) ∙ eq-eqb lease lease refl

both_false : (b : Bool) → (b && false) ≡ false
both_false true = refl
both_false false = refl

pub is_of_other : (s lease t other : ℕ) → (t ≢ s) ⊎ (other ≢ lease) → is_of s lease t other ≡ false
is_of_other s lease t other different = elim different [
  | inl session ↦ ap (λ b. b && (other == lease)) (ne_eqb t s session)
  | inr another ↦ ap (λ b. (t == s) && b) (ne_eqb other lease another) ∙ both_false (t == s)
]

-- the messages from a cursor on are in order
pub messages_order : (c : Cursor) (log : List (List ℕ)) (n : ℕ) → AreInOrder c.s c.lease (Some c.at) (messages_from c log n) × (next_over c.s c.lease (Some c.at) (messages_from c log n) ≡ Some (c.at + n))
messages_order c log zero = (tt, ap Some (omega arith))
messages_order c log (suc n) =
    let before = messages_order c log n in
    let m = message_at c log n in
    let own = is_of_own c.s c.lease in
    let here = next_over c.s c.lease (Some c.at) (messages_from c log n) in (
      order_append c.s c.lease (Some c.at) (messages_from c log n) (m ∷ []) before.0 (own_order c.s c.lease here m own before.1),
      next_append c.s c.lease (Some c.at) (messages_from c log n) (m ∷ []) ∙ own_next c.s c.lease here m own ∙ ap Some (omega arith),
    )

-- and of no other lease
pub messages_aside : (s lease : ℕ) (next : Option ℕ) (c : Cursor) (log : List (List ℕ)) (n : ℕ) → (c.s ≢ s) ⊎ (c.lease ≢ lease)
    → AreInOrder s lease next (messages_from c log n) × (next_over s lease next (messages_from c log n) ≡ next)
messages_aside s lease next c log zero different = (tt, refl)
messages_aside s lease next c log (suc n) different =
    let before = messages_aside s lease next c log n different in
    let m = message_at c log n in
    let aside = is_of_other s lease c.s c.lease different in
    let here = next_over s lease next (messages_from c log n) in (
      order_append s lease next (messages_from c log n) (m ∷ []) before.0 (aside_order s lease here m aside),
      next_append s lease next (messages_from c log n) (m ∷ []) ∙ aside_next s lease here m aside ∙ before.1,
    )

-- each is the one that the log has at its position
pub messages_logged : (board : Board) (c : Cursor) (n : ℕ) → c.at + n ≤ length (book_at board c.s).inbound → All (IsLogged board) (messages_from c (book_at board c.s).inbound n)
messages_logged board c zero within = All-nil (IsLogged board)
messages_logged board c (suc n) within =
    let log = (book_at board c.s).inbound in
    All-append (IsLogged board) (messages_from c log n) (message_at c log n ∷ []) (messages_logged board c n (omega arith))
    (All-cons (IsLogged board) (message_at c log n) [] (slice_get-get_or log (c.at + n) [] (omega arith)) (All-nil (IsLogged board)))
