-- Boards that go on as a library that has a session relies on.
use Rattle.std.proofs.Common.{◌≡◌, ◌≢◌, inl, inr, ℕ, zero, suc, ◌<◌, ◌≤◌, Bool, true, false, List, [], ◌∷◌, ◌++◌, length, Some, refl, sym, ap, subst, ◌∙◌, arith}
use Rattle.std.proofs.lemmas.Bool.{cases_eq}
use Rattle.std.proofs.lemmas.List.{length_push}
use Rattle.std.proofs.lemmas.List.Elements.{All-head, All-tail}
use Rattle.std.specs.List.{All}
use Rattle.std.specs.Prelude.{fold, if◌then◌else◌, slice_get}
use Rattle.lease_core.specs.Laws.{KeepsLease}
use Rattle.lease_core.specs.Lines.{ending_by, entries_after_hold, entries_after_timeout, entries_after_word, granted_line, last_line, line_with_ending, line_with_send, lines_after, lines_of, no_line, raised, raised_line, raises}
use Rattle.lease_core.specs.Showable.{owner_by}
use Rattle.lease_core.specs.State.{last_or, owner_in, owner_of, state_of, with_last}
use Rattle.lease_core.specs.Steps.{timeout_entry}
use Rattle.lease_core.specs.declared.entry.Entry.{Entry}
use Rattle.lease_core.specs.declared.entry.Entry.TheVariants.{Admin, Arrive, Bind, Granted, Hold, Lapse, Leave, Plan, Refused, Release, Reset, Send, Timeout}
use Rattle.lease_core.specs.declared.lease.Ending.{Ending}
use Rattle.lease_core.specs.declared.lease.Ending.TheVariants.{GivenBack, TakenBack}
use Rattle.lease_core.specs.declared.lease.Line.{Line}
use Rattle.lease_core.specs.declared.word.Standing.{Standing}
use Rattle.lease_core.specs.declared.word.Standing.TheVariants.{Active, Released, Revoked}
use Rattle.lease_core.specs.declared.word.Word.{Word}
use Rattle.lease_desk.specs.Desk.{Gathers, TakesBack, bodies_of, is_of_leases, owner_at}
use Rattle.lease_desk.specs.declared.desk.LeaseDesk.{LeaseDesk}
use Rattle.engine_laws.specs.libraries.Feeds.{leases_at}
use Rattle.engine_laws.specs.libraries.Going.{GoingLaws}
use Rattle.session_book.specs.Book.{Book, Desk}
use Rattle.switchboard.specs.Board.{Board, book_at}
use Rattle.switchboard.specs.Going.{GoesOnTo}
use Rattle.switchboard.specs.Happenings.{Happening, Happens, Reaches, reserves, shows, times_out}

-- As many sessions go on, each by no new lease, none loses a lease that it gave or a message of its log.
pub record Keeps (old new : Board) : Type 0 where
  pub sessions : length new.sessions ≡ length old.sessions
  pub owner : (s : ℕ) → 0 < owner_at new s → (owner_at new s ≡ owner_at old s) × (leases_at new s ≡ leases_at old s)
  pub more : (s : ℕ) → leases_at old s ≤ leases_at new s
  pub log : (s pos : ℕ) (bytes : List ℕ) → slice_get (book_at old s).inbound pos ≡ Some bytes → slice_get (book_at new s).inbound pos ≡ Some bytes

pub keeps_itself : (board : Board) → Keeps board board
keeps_itself board = record { sessions = refl; owner = λ s some. (refl, refl); more = λ s. omega arith; log = λ s pos bytes at. at }

pub keeps_further : (first second third : Board) → Keeps first second → Keeps second third → Keeps first third
keeps_further first second third one two = record {
  sessions = two.sessions ∙ one.sessions;
  owner = λ s some.
      let later = two.owner s some in
      let before = one.owner s (subst (λ n. 0 < n) later.0 some) in
      (later.0 ∙ before.0, later.1 ∙ before.1);
  more = λ s. (let a = one.more s in let b = two.more s in omega arith);
  log = λ s pos bytes at. two.log s pos bytes (one.log s pos bytes at);
}

get_append : (xs ys : List (List ℕ)) (i : ℕ) (x : List ℕ) → slice_get xs i ≡ Some x → slice_get (xs ++ ys) i ≡ Some x
get_append [] ys i x at = absurd cc
get_append (y ∷ xs) ys zero x at = at
get_append (y ∷ xs) ys (suc i) x at = get_append xs ys i x at

pub long_with_last : (f : Line → Line) (lines : List Line) → length (with_last f lines) ≡ length lines
long_with_last f [] = refl
long_with_last f (l ∷ []) = refl
long_with_last f (l ∷ k ∷ ks) = ap (λ n. suc n) (long_with_last f (k ∷ ks))

-- no entry takes a line away
line_stays : (lines : List Line) (e : Entry) → length lines ≤ length (lines_after lines e)
line_stays lines (Granted library nr lease from start) = (let one = length_push lines (granted_line library) in omega arith)
line_stays lines (Send lease library ordinal number) = (let same = long_with_last line_with_send lines in omega arith)
line_stays lines (Release lease library count heir) = (let same = long_with_last (line_with_ending (GivenBack heir)) lines in omega arith)
line_stays lines (Timeout lease library count) = (let same = long_with_last (line_with_ending TakenBack) lines in omega arith)
line_stays lines (Arrive pos) = omega arith
line_stays lines (Admin number) = omega arith
line_stays lines (Bind c) = omega arith
line_stays lines (Plan begin last at) = omega arith
line_stays lines (Leave c) = omega arith
line_stays lines (Reset series) = omega arith
line_stays lines (Refused library nr why) = omega arith
line_stays lines (Hold lease until) = omega arith
line_stays lines (Lapse lease) = omega arith

lines_stay : (more : List Entry) (lines : List Line) → length lines ≤ length (fold lines_after lines more)
lines_stay [] lines = omega arith
lines_stay (e ∷ more) lines = (let one = line_stays lines e in let rest = lines_stay more (lines_after lines e) in omega arith)

pub last_with_last : (f : Line → Line) (d : Line) (lines : List Line) → 0 < length lines → last_or d (with_last f lines) ≡ f (last_or d lines)
last_with_last f d [] some = absurd (omega arith)
last_with_last f d (l ∷ []) some = refl
last_with_last f d (l ∷ k ∷ ks) some = last_with_last f l (k ∷ ks) (omega arith)

-- nobody has a session whose last lease was taken back
taken_owner : (lines : List Line) → 0 < owner_by (with_last (line_with_ending TakenBack) lines) → ⊥
taken_owner [] some = omega arith
taken_owner (l ∷ ls) some =
    let none : owner_by (with_last (line_with_ending TakenBack) (l ∷ ls)) ≡ 0 = ap (λ (x : Line). owner_in x.ending x.library) (last_with_last (line_with_ending TakenBack) no_line (l ∷ ls) (omega arith)) in
    omega arith

module _ (l : GoingLaws) where
  -- what follows from how sessions go on, beside who has them
  pub by_going : (old new : Board) → GoesOnTo old new → ((s : ℕ) → 0 < owner_at new s → (owner_at new s ≡ owner_at old s) × (leases_at new s ≡ leases_at old s)) → Keeps old new
  by_going old new goes owner = record {
    sessions = goes.sessions;
    owner = owner;
    more = λ s.
        let books = goes.books s in
        let lines : lines_of (book_at new s).entries ≡ fold lines_after (lines_of (book_at old s).entries) books.added = ap lines_of books.entries_are ∙ l.over (book_at old s).entries books.added in
        let long = lines_stay books.added (lines_of (book_at old s).entries) in
        let same = ap (λ (ls : List Line). length ls) lines in
        omega arith;
    log = λ s pos bytes at. (let books = goes.books s in ap (λ (log : List (List ℕ)). slice_get log pos) books.inbound ∙ get_append (book_at old s).inbound books.more pos bytes at);
  }

  happening_keeps : (happening : Happening) (old new : Board) → is_of_leases happening ≡ false → Happens happening old new → Keeps old new
  happening_keeps happening old new aside is = by_going old new (l.happens happening old new is) (λ s some. (l.goes_on happening old new aside is s).lease some)

  pub run_keeps : (happenings : List Happening) (old new : Board) → All (λ happening. is_of_leases happening ≡ false) happenings → Reaches happenings old new → Keeps old new
  run_keeps [] old new all same = subst (Keeps old) (sym same) (keeps_itself old)
  run_keeps (happening ∷ happenings) old new all reaches =
      let aside = λ (h : Happening). is_of_leases h ≡ false in
      keeps_further old reaches.0 new (happening_keeps happening old reaches.0 (All-head aside happening happenings all) reaches.1.0)
      (run_keeps happenings reaches.0 new (All-tail aside happening happenings all) reaches.1.1)

  -- one session's lines go on so
  pub one_keeps : (s : ℕ) (old new : Board) → ((j : ℕ) → j ≢ s → book_at new j ≡ book_at old j) → KeepsLease (lines_of (book_at old s).entries) (lines_of (book_at new s).entries)
      → (j : ℕ) → 0 < owner_at new j → (owner_at new j ≡ owner_at old j) × (leases_at new j ≡ leases_at old j)
  one_keeps s old new others keeps j some = elim (cases_eq j s) [
    | inl same ↦ (
        let owned : 0 < owner_at new s = subst (λ n. 0 < owner_at new n) same some in
        let told = l.tell (book_at new s).entries in
        let kept = keeps (subst (λ n. 0 < n) (sym told) owned) in
        subst (λ n. (owner_at new n ≡ owner_at old n) × (leases_at new n ≡ leases_at old n)) (sym same) (sym told ∙ kept.0 ∙ l.tell (book_at old s).entries, kept.1))
    | inr other ↦ (ap (λ (b : Book). owner_of (state_of b.entries)) (others j other), ap (λ (b : Book). length (lines_of b.entries)) (others j other))
  ]

  word_keeps : (entries : List Entry) (w : Word) (until : ℕ) → KeepsLease (lines_of entries) (lines_of (entries_after_hold until (entries_after_word entries w)))
  word_keeps entries w until =
      let lines : lines_of (entries_after_hold until (entries_after_word entries w)) ≡ raised (lines_of entries) w = l.holds (entries_after_word entries w) until ∙ l.raises entries w in
      subst (KeepsLease (lines_of entries)) (sym lines) (l.kept (lines_of entries) w)

  timeout_keeps : (standing : Standing) (before : List Line) (entries : List Entry) → KeepsLease before (lines_of entries) → KeepsLease before (lines_of (entries_after_timeout standing entries))
  timeout_keeps Active before entries keeps some = absurd (taken_owner (lines_of entries) (subst (λ (ls : List Line). 0 < owner_by ls) (l.one entries (timeout_entry (state_of entries))) some))
  timeout_keeps Released before entries keeps some = keeps some
  timeout_keeps Revoked before entries keeps some = keeps some

  pub gathering_keeps : (s at until : ℕ) (old new : LeaseDesk) → Gathers s at until old new → Keeps old.board new.board
  gathering_keeps s at until old new is =
      let entries = (book_at old.board s).entries in
      let told : (book_at new.board s).entries ≡ entries_after_hold until (entries_after_word entries is.word) = ap (λ (d : Desk). d.book.entries) is.desk in
      by_going old.board new.board (l.runs (reserves s ∷ shows s is.word (bodies_of is.items) at until ∷ []) old.board new.board is.reaches)
      (one_keeps s old.board new.board (λ j other. l.desk s j _ old.board new.board other is.others) (subst (λ (es : List Entry). KeepsLease (lines_of entries) (lines_of es)) (sym told) (word_keeps entries is.word until)))

  pub taking_back_keeps : (s at until : ℕ) (old new : LeaseDesk) → TakesBack s at until old new → Keeps old.board new.board
  taking_back_keeps s at until old new is =
      let entries = (book_at old.board s).entries in
      let shown = entries_after_hold until (entries_after_word entries is.word) in
      let told : (book_at new.board s).entries ≡ entries_after_timeout is.word.standing shown = ap (λ (d : Desk). d.book.entries) is.desk in
      by_going old.board new.board (l.runs (reserves s ∷ times_out s is.word (bodies_of is.items) at until ∷ []) old.board new.board is.reaches)
      (one_keeps s old.board new.board (λ j other. l.desk s j _ old.board new.board other is.others)
      (subst (λ (es : List Entry). KeepsLease (lines_of entries) (lines_of es)) (sym told) (timeout_keeps is.word.standing (lines_of entries) shown (word_keeps entries is.word until))))
