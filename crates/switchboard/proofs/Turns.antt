-- What holds of a board goes on where one session and one connection change, and nothing else.
use Rattle.std.proofs.Common.{◌≡◌, ◌≢◌, inl, inr, ℕ, ◌<◌, List, ◌++◌, length, get_or, set, None, Some, sym, ap, subst, ◌∙◌, append_assoc}
use Rattle.std.proofs.lemmas.List.{get_or-set_other, length-set}
use Rattle.connection_core.specs.Connection.{ConnectionState}
use Rattle.connection_core.specs.Outgoing.{no_outgoing}
use Rattle.lease_core.specs.declared.entry.Entry.{Entry}
use Rattle.session_core.specs.declared.phases.Phase.TheVariants.{Off}
use Rattle.session_book.specs.Book.{Book}
use Rattle.session_book.specs.Kept.{Kept}
use Rattle.session_book.specs.Texts.{IsTextOf}
use Rattle.switchboard.specs.Board.{Board, book_at, connection_at, names_at, no_session, place_at, session_at}
use Rattle.switchboard.specs.Ready.{GoOnFrom, HasTextOf, IsReady}
use Rattle.switchboard.specs.Sound.{IsLawful, IsSound}
use Rattle.switchboard.proofs.Sounds.{same_or_other}

pub go_on_further : (before middle entries : List Entry) → GoOnFrom before middle → GoOnFrom middle entries → GoOnFrom before entries
go_on_further before middle entries first second = record {
  added = first.added ++ second.added;
  are = second.are ∙ ap (λ es. es ++ second.added) first.are ∙ append_assoc before first.added second.added;
}

-- where one session changes, the others are as they were
pub set_books : (s : ℕ) (old new : Board) → new.sessions ≡ set old.sessions s (session_at new s) → (j : ℕ) → j ≢ s → book_at new j ≡ book_at old j
set_books s old new same j other =
    ap (λ (sessions : List Kept). (get_or sessions j no_session).book) same ∙ ap (λ (x : Kept). x.book) (get_or-set_other old.sessions s j (session_at new s) no_session other)

pub set_sessions : (s : ℕ) (old new : Board) → new.sessions ≡ set old.sessions s (session_at new s) → length new.sessions ≡ length old.sessions
set_sessions s old new same = ap length same ∙ length-set old.sessions s (session_at new s)

-- each session that has a place is on
abbrev pub AreOn : Board → Type 0
AreOn board = (s k : ℕ) → s < length board.sessions → place_at board s ≡ Some k → (book_at board s).machine.phase ≢ Off

-- all that holds of a ready board, but that
pub record IsNearly (before : ℕ → List Entry) (board : Board) : Type 0 where
  pub sound : IsSound board
  pub books : (s : ℕ) → s < length board.sessions → IsLawful (book_at board s)
  pub entries : (s : ℕ) → s < length board.sessions → GoOnFrom (before s) (book_at board s).entries
  pub named : (s k : ℕ) → k < length board.connections → (connection_at board k).session ≡ Some s → s < length board.sessions
  pub numbers : (j k : ℕ) → j < length board.connections → k < length board.connections → (connection_at board j).number ≡ (connection_at board k).number → j ≡ k
  pub texts : (s k : ℕ) → k < length board.connections → (connection_at board k).session ≡ Some s → HasTextOf before board s k
  pub silent : (k : ℕ) → k < length board.connections → (connection_at board k).session ≡ None → (connection_at board k).out.outgoing ≡ no_outgoing

pub nearly : (before : ℕ → List Entry) (board : Board) → IsReady before board → IsNearly before board
nearly before board ready =
    record { sound = ready.sound; books = ready.books; entries = ready.entries; named = ready.named; numbers = ready.numbers; texts = ready.texts; silent = ready.silent }

pub with_on : (before : ℕ → List Entry) (board : Board) → IsNearly before board → AreOn board → IsReady before board
with_on before board is on =
    record { sound = is.sound; books = is.books; entries = is.entries; on = on; named = is.named; numbers = is.numbers; texts = is.texts; silent = is.silent }

-- the session and the connection change, where there are such ones, in a way that keeps what holds of them
pub record Turns (before : ℕ → List Entry) (s k : ℕ) (old new : Board) : Type 0 where
  pub sound : IsSound new
  pub sessions : length new.sessions ≡ length old.sessions
  pub books_there : (j : ℕ) → j ≢ s → book_at new j ≡ book_at old j
  pub lawful : s < length old.sessions → IsLawful (book_at new s)
  pub entries : s < length old.sessions → GoOnFrom (book_at old s).entries (book_at new s).entries
  pub lines_there : (i : ℕ) → i < length new.connections → i ≢ k → (i < length old.connections) × (connection_at new i ≡ connection_at old i)
  pub number : (i : ℕ) → i < length old.connections → i ≢ k → k < length new.connections → (connection_at new k).number ≢ (connection_at old i).number
  pub named : (j : ℕ) → k < length new.connections → (connection_at new k).session ≡ Some j → j < length new.sessions
  -- the text of the connection itself, and of the others of the session
  pub text : (j : ℕ) → k < length new.connections → (connection_at new k).session ≡ Some j → HasTextOf before new j k
  pub texts : (i : ℕ) → i < length old.connections → i ≢ k → (connection_at old i).session ≡ Some s → HasTextOf before old s i
      → IsTextOf (names_at new s) (before s) (connection_at old i).number (book_at new s) (connection_at old i).out.outgoing
  pub silent : k < length new.connections → (connection_at new k).session ≡ None → (connection_at new k).out.outgoing ≡ no_outgoing

module _ (before : ℕ → List Entry) (s k : ℕ) (old new : Board) (is : IsNearly before old) (turns : Turns before s k old new) where
  was_session : (j : ℕ) → j < length new.sessions → j < length old.sessions
  was_session j within = subst (λ n. j < n) turns.sessions within

  books_on : (j : ℕ) → j < length new.sessions → IsLawful (book_at new j)
  books_on j within = elim (same_or_other j s) [
    | inl e ↦ subst (λ n. IsLawful (book_at new n)) (sym e) (turns.lawful (subst (λ n. n < length old.sessions) e (was_session j within)))
    | inr other ↦ subst (λ book. IsLawful book) (sym (turns.books_there j other)) (is.books j (was_session j within))
  ]

  entries_on : (j : ℕ) → j < length new.sessions → GoOnFrom (before j) (book_at new j).entries
  entries_on j within = elim (same_or_other j s) [
    | inl e ↦ subst (λ n. GoOnFrom (before n) (book_at new n).entries) (sym e)
        (let small = subst (λ n. n < length old.sessions) e (was_session j within) in go_on_further (before s) (book_at old s).entries (book_at new s).entries (is.entries s small) (turns.entries small))
    | inr other ↦ subst (λ (book : Book). GoOnFrom (before j) book.entries) (sym (turns.books_there j other)) (is.entries j (was_session j within))
  ]

  -- another connection has the number that it had
  number_there : (i : ℕ) → i < length new.connections → i ≢ k → (connection_at new i).number ≡ (connection_at old i).number
  number_there i within other = ap (λ (c : ConnectionState). c.number) (turns.lines_there i within other).1

  new_number : (i : ℕ) → i < length new.connections → i ≢ k → k < length new.connections → (connection_at new k).number ≢ (connection_at new i).number
  new_number i within other own = λ e. turns.number i (turns.lines_there i within other).0 other own (e ∙ number_there i within other)

  numbers_on : (i j : ℕ) → i < length new.connections → j < length new.connections → (connection_at new i).number ≡ (connection_at new j).number → i ≡ j
  numbers_on i j within_i within_j same = elim (same_or_other i k) [
    | inl e ↦ elim (same_or_other j k) [
      | inl f ↦ e ∙ sym f
      | inr other ↦ absurd (new_number j within_j other (subst (λ n. n < length new.connections) e within_i) (ap (λ n. (connection_at new n).number) (sym e) ∙ same))
    ]
    | inr other ↦ elim (same_or_other j k) [
      | inl f ↦ absurd (new_number i within_i other (subst (λ n. n < length new.connections) f within_j) (ap (λ n. (connection_at new n).number) (sym f) ∙ sym same))
      | inr apart ↦ is.numbers i j (turns.lines_there i within_i other).0 (turns.lines_there j within_j apart).0 (sym (number_there i within_i other) ∙ same ∙ number_there j within_j apart)
    ]
  ]

  named_on : (j i : ℕ) → i < length new.connections → (connection_at new i).session ≡ Some j → j < length new.sessions
  named_on j i within names = elim (same_or_other i k) [
    | inl e ↦ turns.named j (subst (λ n. n < length new.connections) e within) (ap (λ n. (connection_at new n).session) (sym e) ∙ names)
    | inr other ↦ (let there = turns.lines_there i within other in
        subst (λ n. j < n) (sym turns.sessions) (is.named j i there.0 (sym (ap (λ (c : ConnectionState). c.session) there.1) ∙ names)))
  ]

  -- the text of a connection that stays as it was
  text_there : (j i : ℕ) → i < length old.connections → i ≢ k → (connection_at old i).session ≡ Some j → HasTextOf before old j i
      → IsTextOf (names_at new j) (before j) (connection_at old i).number (book_at new j) (connection_at old i).out.outgoing
  text_there j i within other names was = elim (same_or_other j s) [
    | inl e ↦ subst (λ n. IsTextOf (names_at new n) (before n) (connection_at old i).number (book_at new n) (connection_at old i).out.outgoing) (sym e)
        (turns.texts i within other (names ∙ ap (λ n. Some n) e) (subst (λ n. HasTextOf before old n i) e was))
    | inr apart ↦ subst (λ (book : Book). IsTextOf (record { us = book.machine.names.us; them = book.machine.names.them }) (before j) (connection_at old i).number book (connection_at old i).out.outgoing)
        (sym (turns.books_there j apart)) was
  ]

  texts_on : (j i : ℕ) → i < length new.connections → (connection_at new i).session ≡ Some j → HasTextOf before new j i
  texts_on j i within names = elim (same_or_other i k) [
    | inl e ↦ subst (λ n. HasTextOf before new j n) (sym e) (turns.text j (subst (λ n. n < length new.connections) e within) (ap (λ n. (connection_at new n).session) (sym e) ∙ names))
    | inr other ↦ (let there = turns.lines_there i within other in
        let named = sym (ap (λ (c : ConnectionState). c.session) there.1) ∙ names in
        subst (λ (c : ConnectionState). IsTextOf (names_at new j) (before j) c.number (book_at new j) c.out.outgoing) (sym there.1) (text_there j i there.0 other named (is.texts j i there.0 named)))
  ]

  silent_on : (i : ℕ) → i < length new.connections → (connection_at new i).session ≡ None → (connection_at new i).out.outgoing ≡ no_outgoing
  silent_on i within none = elim (same_or_other i k) [
    | inl e ↦ ap (λ n. (connection_at new n).out.outgoing) e ∙ turns.silent (subst (λ n. n < length new.connections) e within) (ap (λ n. (connection_at new n).session) (sym e) ∙ none)
    | inr other ↦ (let there = turns.lines_there i within other in
        ap (λ (c : ConnectionState). c.out.outgoing) there.1 ∙ is.silent i there.0 (sym (ap (λ (c : ConnectionState). c.session) there.1) ∙ none))
  ]

  pub turned : IsNearly before new
  turned = record { sound = turns.sound; books = books_on; entries = entries_on; named = named_on; numbers = numbers_on; texts = texts_on; silent = silent_on }

-- each session but one that has a place is on
abbrev pub AreOnBut : ℕ → Board → Type 0
AreOnBut s board = (j k : ℕ) → j ≢ s → j < length board.sessions → place_at board j ≡ Some k → (book_at board j).machine.phase ≢ Off

pub all_but : (s : ℕ) (board : Board) → AreOn board → AreOnBut s board
all_but s board on = λ j k other within at. on j k within at

-- where the others have the places and the books that they had
pub on_but : (s : ℕ) (old new : Board) → length new.sessions ≡ length old.sessions → ((j : ℕ) → j ≢ s → book_at new j ≡ book_at old j) → ((j : ℕ) → j ≢ s → place_at new j ≡ place_at old j)
    → AreOnBut s old → AreOnBut s new
on_but s old new sessions books places on = λ j k other within at.
    subst (λ (book : Book). book.machine.phase ≢ Off) (sym (books j other)) (on j k other (subst (λ n. j < n) sessions within) (sym (places j other) ∙ at))

-- and where this one is on too
pub on_all : (s : ℕ) (board : Board) → ((k : ℕ) → s < length board.sessions → place_at board s ≡ Some k → (book_at board s).machine.phase ≢ Off) → AreOnBut s board → AreOn board
on_all s board here on = λ j k within at. elim (same_or_other j s) [
  | inl e ↦ subst (λ n. (book_at board n).machine.phase ≢ Off) (sym e) (here k (subst (λ n. n < length board.sessions) e within) (ap (place_at board) (sym e) ∙ at))
  | inr other ↦ on j k other within at
]
