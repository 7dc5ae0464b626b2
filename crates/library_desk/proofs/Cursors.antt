-- The cursors of sessions, once one of them was asked for.
use Rattle.std.proofs.Common.{◌≡◌, ◌≢◌, ◌⊎◌, inl, inr, ℕ, zero, suc, ◌<◌, List, [], ◌∷◌, ◌++◌, length, get_or, set, refl, sym, ap, subst, ◌∙◌, arith}
use Rattle.std.proofs.lemmas.List.{get_or-set_other, get_or-set_same, length-set, length_push}
use Rattle.catchup_pump.specs.declared.cursor.Cursor.{Cursor}
use Rattle.lease_core.specs.Lines.{granted_line, lines_after_reply, lines_of}
use Rattle.lease_core.specs.Showable.{owner_by}
use Rattle.lease_core.specs.State.{owner_of, state_of}
use Rattle.lease_core.specs.declared.entry.Entry.{Entry}
use Rattle.lease_core.specs.declared.entry.Why.{Why}
use Rattle.lease_core.specs.declared.lease.Line.{Line}
use Rattle.lease_core.specs.declared.messages.Reply.{Reply}
use Rattle.lease_core.specs.declared.messages.Reply.TheVariants.{Granted, Refused}
use Rattle.lease_desk.specs.Desk.{GoesOn, IsGrant, owner_at}
use Rattle.switchboard.specs.Book.{Book}
use Rattle.switchboard.specs.Kept.{Kept}
use Rattle.switchboard.specs.Board.{Board, book_at, no_session, session_at, with_session}
use Rattle.library_desk.specs.Serving.{AreCursors, IsCursorOf, cursor_at, no_cursor}

pub same_or_other : (i j : ℕ) → (i ≡ j) ⊎ (i ≢ j)
same_or_other zero zero = inl refl
same_or_other zero (suc j) = inr (λ e. absurd (omega arith))
same_or_other (suc i) zero = inr (λ e. absurd (omega arith))
same_or_other (suc i) (suc j) = elim (same_or_other i j) [ inl e ↦ inl (ap suc e) | inr n ↦ inr (λ e. n (omega arith)) ]

-- nothing changed of a session
rests : (old new : Board) (s : ℕ) (cursor : Cursor) → book_at new s ≡ book_at old s → IsCursorOf old s cursor → IsCursorOf new s cursor
rests old new s cursor same is = record {
  session = is.session;
  within = (let long : length (book_at new s).inbound ≡ length (book_at old s).inbound = ap (λ (b : Book). length b.inbound) same in let was = is.within in omega arith);
  lease = λ some. is.lease (subst (λ n. 0 < n) (ap (λ (b : Book). owner_of (state_of b.entries)) same) some) ∙ sym (ap (λ (b : Book). length (lines_of b.entries)) same);
}

module _ (tell : (entries : List Entry) → owner_by (lines_of entries) ≡ owner_of (state_of entries)) (s : ℕ) (old new : Board) (changes : new ≡ with_session s (session_at new s) old) (cursors : List Cursor) (small : s < length old.sessions) (inbound : length (book_at new s).inbound ≡ length (book_at old s).inbound) (are : AreCursors old cursors) where
  sessions_are : new.sessions ≡ set old.sessions s (session_at new s)
  sessions_are = ap (λ (b : Board). b.sessions) changes

  as_many : length new.sessions ≡ length old.sessions
  as_many = ap (λ (xs : List Kept). length xs) sessions_are ∙ length-set old.sessions s (session_at new s)

  others : (j : ℕ) → j ≢ s → book_at new j ≡ book_at old j
  others j other = ap (λ (xs : List Kept). (get_or xs j no_session).book) sessions_are ∙ ap (λ (k : Kept). k.book) (get_or-set_other old.sessions s j (session_at new s) no_session other)

  pub refused_cursors : (why : Why) (reply : Reply) (library : ℕ) → reply ≡ Refused why → lines_of (book_at new s).entries ≡ lines_after_reply (lines_of (book_at old s).entries) library reply → AreCursors new cursors
  refused_cursors why reply library is told =
      let same : lines_of (book_at new s).entries ≡ lines_of (book_at old s).entries = told ∙ ap (lines_after_reply (lines_of (book_at old s).entries) library) is in
      let owner : owner_at new s ≡ owner_at old s = sym (tell (book_at new s).entries) ∙ ap owner_by same ∙ tell (book_at old s).entries in
      let was = are.each s small in
      let here : IsCursorOf new s (cursor_at cursors s) = record {
        session = was.session;
        within = (let w = was.within in omega arith);
        lease = λ some. was.lease (subst (λ n. 0 < n) owner some) ∙ sym (ap (λ (lines : List Line). length lines) same);
      } in
      record {
        count = are.count ∙ sym as_many;
        each = λ j within. elim (same_or_other j s) [
          | inl e ↦ subst (λ n. IsCursorOf new n (cursor_at cursors n)) (sym e) here
          | inr other ↦ rests old new j (cursor_at cursors j) (others j other) (are.each j (subst (λ n. j < n) as_many within))
        ];
      }

  pub granted_cursors : (lease start from : ℕ) (reply : Reply) (library : ℕ) → reply ≡ Granted lease start → lines_of (book_at new s).entries ≡ lines_after_reply (lines_of (book_at old s).entries) library reply
      → IsGrant old s from lease start → AreCursors new (set cursors s (record { s = s; lease = lease; at = from }))
  granted_cursors lease start from reply library is told grant =
      let fresh : Cursor = record { s = s; lease = lease; at = from } in
      let more : lines_of (book_at new s).entries ≡ lines_of (book_at old s).entries ++ granted_line library ∷ [] = told ∙ ap (lines_after_reply (lines_of (book_at old s).entries) library) is in
      let here : IsCursorOf new s fresh = record {
        session = refl;
        within = (let w = grant.within in omega arith);
        lease = λ some. grant.next ∙ sym (ap (λ (lines : List Line). length lines) more ∙ length_push (lines_of (book_at old s).entries) (granted_line library));
      } in
      let found : cursor_at (set cursors s fresh) s ≡ fresh = get_or-set_same cursors s fresh no_cursor (subst (λ n. s < n) (sym are.count) small) in
      record {
        count = length-set cursors s fresh ∙ are.count ∙ sym as_many;
        each = λ j within. elim (same_or_other j s) [
          | inl e ↦ subst (λ n. IsCursorOf new n (cursor_at (set cursors s fresh) n)) (sym e) (subst (IsCursorOf new s) (sym found) here)
          | inr other ↦ subst (IsCursorOf new j) (sym (get_or-set_other cursors s j fresh no_cursor other))
              (rests old new j (cursor_at cursors j) (others j other) (are.each j (subst (λ n. j < n) as_many within)))
        ];
      }

-- each session goes on by no new lease
pub cursors_on : (old new : Board) (cursors : List Cursor) → length new.sessions ≡ length old.sessions → ((s : ℕ) → GoesOn old new s) → AreCursors old cursors → AreCursors new cursors
cursors_on old new cursors same on are = record {
  count = are.count ∙ sym same;
  each = λ s within.
      let was = are.each s (subst (λ n. s < n) same within) in
      let goes = on s in
      record {
        session = was.session;
        within = (let a = was.within in let b = goes.inbound in omega arith);
        lease = λ some. let kept = goes.lease some in was.lease (subst (λ n. 0 < n) kept.0 some) ∙ sym kept.1;
      };
}
