-- Journals and seat go on agreeing where one session goes on with the leases that it has.
use Rattle.std.proofs.Common.{◌≡◌, ◌≢◌, ◌⊎◌, inl, inr, ℕ, zero, suc, ◌<◌, ◌≤◌, List, length, [], ◌∷◌, ◌++◌, Option, None, Some, IsNone, refl, sym, ap, subst, ◌∙◌, arith}
use Rattle.std.proofs.lemmas.List.{length-set}
use Rattle.lease_core.specs.Lines.{lines_of}
use Rattle.lease_words.specs.Views.{EngineView}
use Rattle.session_core.specs.State.{State}
use Rattle.session_core.specs.declared.acts.Act.{Act}
use Rattle.session_book.specs.Acts.{IsBegun}
use Rattle.lease_core.specs.declared.event.Event.TheVariants.{Binds}
use Rattle.session_book.specs.Book.{Book, Desk, with_event, with_machine, with_outbox}
use Rattle.session_book.specs.Kept.{Kept}
use Rattle.session_book.specs.Leases.{HasSameLeases}
use Rattle.session_book.specs.Rereading.{WentOn}
use Rattle.switchboard.specs.Board.{Board, DeskChanges, book_at, session_at, with_session}
use Rattle.lease_desk.specs.Desk.{Agrees, AllAgree}

pub same_or_other : (i j : ℕ) → (i ≡ j) ⊎ (i ≢ j)
same_or_other zero zero = inl refl
same_or_other zero (suc j) = inr (λ e. absurd (omega arith))
same_or_other (suc i) zero = inr (λ e. absurd (omega arith))
same_or_other (suc i) (suc j) = elim (same_or_other i j) [ inl e ↦ inl (ap suc e) | inr n ↦ inr (λ e. n (omega arith)) ]

-- what the crates below say
pub record Laws : Type 0 where
  pub session : (old new : Board) (seat : EngineView) (s : ℕ) → lines_of (book_at new s).entries ≡ lines_of (book_at old s).entries
      → length (book_at old s).inbound ≤ length (book_at new s).inbound → Agrees old seat s → Agrees new seat s
  pub desk : (s other : ℕ) (place : Option ℕ) (old new : Board) → other ≢ s → DeskChanges s place old new → book_at new other ≡ book_at old other

longer : (old more new : List (List ℕ)) → new ≡ old ++ more → length old ≤ length new
longer [] more new is = omega arith
longer (x ∷ old) more [] is = absurd (cc)
longer (x ∷ old) more (y ∷ new) is = let rest = longer old more new (cc) in omega arith

pub same_count : (s : ℕ) (place : Option ℕ) (old new : Board) → DeskChanges s place old new → length new.sessions ≡ length old.sessions
same_count s place old new changes = ap (λ (xs : List Kept). length xs) changes.sessions ∙ length-set old.sessions s (session_at new s)

-- what an event leaves of the leases of a session, and of what was accepted
pub record Keeps (old new : Book) : Type 0 where
  pub lines : lines_of new.entries ≡ lines_of old.entries
  pub inbound : length old.inbound ≤ length new.inbound

pub agree_where : ((old new : Board) (seat : EngineView) (s : ℕ) → lines_of (book_at new s).entries ≡ lines_of (book_at old s).entries → length (book_at old s).inbound ≤ length (book_at new s).inbound
    → Agrees old seat s → Agrees new seat s)
    → (s : ℕ) (old new : Board) (seat : EngineView) → length new.sessions ≡ length old.sessions → ((j : ℕ) → j ≢ s → book_at new j ≡ book_at old j) → Keeps (book_at old s) (book_at new s)
    → AllAgree old seat → AllAgree new seat
agree_where law s old new seat count others keeps was = λ j small.
    let agrees = was j (subst (λ n. j < n) count small) in
    elim (same_or_other j s) [
      | inl e ↦ law old new seat j
          (subst (λ n. lines_of (book_at new n).entries ≡ lines_of (book_at old n).entries) (sym e) keeps.lines)
          (subst (λ n. length (book_at old n).inbound ≤ length (book_at new n).inbound) (sym e) keeps.inbound) agrees
      | inr other ↦ let same_book = others j other in
          law old new seat j (ap (λ (b : Book). lines_of b.entries) same_book)
          (let same_length : length (book_at new j).inbound ≡ length (book_at old j).inbound = ap (λ (b : Book). length b.inbound) same_book in omega arith) agrees
    ]

-- a session goes on, and what waits on its connection
pub agree_on : (l : Laws) (s : ℕ) (place : Option ℕ) (old new : Board) (seat : EngineView) → DeskChanges s place old new → Keeps (book_at old s) (book_at new s) → AllAgree old seat → AllAgree new seat
agree_on l s place old new seat changes keeps was = agree_where l.session s old new seat (same_count s place old new changes) (λ j other. l.desk s j place old new other changes) keeps was

-- a session alone goes on
pub agree_alone : ((old new : Board) (seat : EngineView) (s : ℕ) → lines_of (book_at new s).entries ≡ lines_of (book_at old s).entries → length (book_at old s).inbound ≤ length (book_at new s).inbound
    → Agrees old seat s → Agrees new seat s)
    → ((s other : ℕ) (old new : Board) → other ≢ s → new ≡ with_session s (session_at new s) old → book_at new other ≡ book_at old other)
    → (s : ℕ) (old new : Board) (seat : EngineView) → new ≡ with_session s (session_at new s) old → Keeps (book_at old s) (book_at new s) → AllAgree old seat → AllAgree new seat
agree_alone law apart s old new seat changes keeps was =
    agree_where law s old new seat (ap (λ (b : Board). length b.sessions) changes ∙ length-set old.sessions s (session_at new s)) (λ j other. apart s j old new other changes) keeps was

-- Where memory was wanting: nothing happened, or some of the acts were carried out.
pub begun_keeps : ((at : ℕ) (acts : List Act) (start new : Desk) → IsBegun at acts start new → HasSameLeases start.book new.book)
    → ((at : ℕ) (acts : List Act) (start new : Desk) → IsBegun at acts start new → WentOn start.book new.book)
    → (at : ℕ) (acts : List Act) (old new : Desk) (machine : State) → (new ≡ old) ⊎ IsBegun at acts (with_outbox (with_machine machine old.book) old.outgoing) new → Keeps old.book new.book
begun_keeps leases on at acts old new machine begun = elim begun [
  | inl same ↦ record { lines = ap (λ (d : Desk). lines_of d.book.entries) same; inbound = (let grown : length new.book.inbound ≡ length old.book.inbound = ap (λ (d : Desk). length d.book.inbound) same in omega arith) }
  | inr some ↦
      let start = with_outbox (with_machine machine old.book) old.outgoing in
      let went = on at acts start new some in
      record { lines = (leases at acts start new some).lines; inbound = longer old.book.inbound went.more new.book.inbound went.inbound }
]

-- the book is as it was
pub same_keeps : (old new : Book) → new ≡ old → Keeps old new
same_keeps old new same = record {
  lines = ap (λ (b : Book). lines_of b.entries) same;
  inbound = (let grown : length new.inbound ≡ length old.inbound = ap (λ (b : Book). length b.inbound) same in omega arith);
}

pub none_is : {T : Type 0} (o : Option T) → IsNone o → o ≡ None
none_is None is = refl
none_is (Some x) is = absurd (cc)

-- Where memory was wanting behind the Bind of a connection.
pub opened_keeps : ((c at : ℕ) (acts : List Act) (machine : State) (desk new : Desk) → IsBegun at acts (with_outbox (with_machine machine (with_event (Binds c) desk.book)) desk.outgoing) new → HasSameLeases desk.book new.book)
    → ((c at : ℕ) (acts : List Act) (machine : State) (desk new : Desk) → IsBegun at acts (with_outbox (with_machine machine (with_event (Binds c) desk.book)) desk.outgoing) new → WentOn desk.book new.book)
    → (c at : ℕ) (acts : List Act) (machine : State) (old new : Desk) → (new.book ≡ old.book) ⊎ IsBegun at acts (with_outbox (with_machine machine (with_event (Binds c) old.book)) old.outgoing) new → Keeps old.book new.book
opened_keeps leases on c at acts machine old new begun = elim begun [
  | inl same ↦ same_keeps old.book new.book same
  | inr some ↦ let went = on c at acts machine old new some in record { lines = (leases c at acts machine old new some).lines; inbound = longer old.book.inbound went.more new.book.inbound went.inbound }
]

-- the book is what an event makes of it
pub made_keeps : (old new made : Book) → new ≡ made → HasSameLeases old made → WentOn old made → Keeps old new
made_keeps old new made is same on = record {
  lines = ap (λ (b : Book). lines_of b.entries) is ∙ same.lines;
  inbound = (let grown : length new.inbound ≡ length made.inbound = ap (λ (b : Book). length b.inbound) is in let long = longer old.inbound on.more made.inbound on.inbound in omega arith);
}
