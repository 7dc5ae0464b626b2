-- As a run ends all that a library sent was taken.
use Rattle.std.proofs.Common.{◌≡◌, ℕ, ◌<◌, ◌≤◌, List, [], ◌∷◌, ◌++◌, length, refl, sym, ap, subst, ◌∙◌}
use Rattle.std.proofs.lemmas.List.Elements.{All-cons, All-contains, All-nil}
use Rattle.std.proofs.lemmas.List.Sorted.{Contains-permutation, IsPermutation-reverse}
use Rattle.std.specs.List.{All, Contains}
use Rattle.std.specs.Prelude.{map, reverse}
use Rattle.engine_end.specs.Finishing.{Finishes, after_settling, settled_behind}
use Rattle.engine_end.specs.declared.records.EngineRecord.{EngineRecord}
use Rattle.lease_core.specs.declared.entry.Entry.{Entry}
use Rattle.lease_desk.specs.Desk.{Gathers, bodies_of}
use Rattle.lease_desk.specs.declared.desk.LeaseDesk.{LeaseDesk}
use Rattle.lease_words.specs.Laws.{SettledLanesAreTaken}
use Rattle.lease_words.specs.Leases.{Each}
use Rattle.lease_words.specs.Tells.{IsSettled}
use Rattle.lease_words.specs.Views.{EngineView, LibraryView, TableRef, engine_at, library_at, library_session, taken_of}
use Rattle.lease_words.specs.declared.view.LibraryKnows.{LibraryKnows}
use Rattle.library_desk.specs.declared.desk.LibraryDesk.{LibraryDesk}
use Rattle.engine_laws.specs.libraries.Sends.{AreLogged, AreTaken}
use Rattle.engine_laws.proofs.Walking.{each_in_turn}
use Rattle.session_book.specs.Records.{Pending}
use Rattle.switchboard.specs.Board.{Board, book_at}
use Rattle.switchboard.specs.Going.{GoesOnTo}
use Rattle.switchboard.specs.Happenings.{Happening, Reaches, reserves, shows}

-- a fact of each library that is settled, at one whose seat was taken in
each_front : {A : Type 0} (P : A → Type 0) (xs ys : List A) → Each P (xs ++ ys) → Each P xs
each_front P [] ys all = tt
each_front P (x ∷ xs) ys all = (all.0, each_front P xs ys all.1)

all_known : (P : LibraryKnows → Type 0) (seats : List LibraryView) → Each P (map (λ (seat : LibraryView). seat.knows) seats) → All (λ (seat : LibraryView). P seat.knows) seats
all_known P [] all = All-nil (λ (seat : LibraryView). P seat.knows)
all_known P (seat ∷ seats) all = All-cons (λ (seat : LibraryView). P seat.knows) seat seats all.0 (all_known P seats all.1)

settled_has : (P : LibraryKnows → Type 0) (seats : List LibraryView) (settled : List LibraryKnows) (seat : LibraryView) → Each P (settled_behind seats settled) → Contains seats seat → P seat.knows
settled_has P seats settled seat all has =
    All-contains (λ (one : LibraryView). P one.knows) (reverse seats) seat
    (all_known P (reverse seats) (each_front P (map (λ (one : LibraryView). one.knows) (reverse seats)) settled all))
    (Contains-permutation seats (reverse seats) seat (IsPermutation-reverse seats) has)

-- The table is the same, the same libraries are settled, and there are as many sessions.
record SameTable (old new : LeaseDesk) : Type 0 where
  table : new.seat.table ≡ old.seat.table
  settled : new.seat.settled ≡ old.seat.settled
  sessions : length new.board.sessions ≡ length old.board.sessions

module _ (goes_on : (happenings : List Happening) (old new : Board) → Reaches happenings old new → GoesOnTo old new) where
  gathered_same : (s at until : ℕ) (old new : LeaseDesk) → Gathers s at until old new → SameTable old new
  gathered_same s at until old new is = record {
    table = ap (λ (v : EngineView). v.table) is.seat;
    settled = ap (λ (v : EngineView). v.settled) is.seat;
    sessions = (goes_on (reserves s ∷ shows s is.word (bodies_of is.items) at until ∷ []) old.board new.board is.reaches).sessions;
  }

  pub all_sent : SettledLanesAreTaken → (before : ℕ → List Entry) (seats : List LibraryView) (unkept : List Pending) (accepted at until : ℕ) (old : LibraryDesk) (left : EngineRecord) (is : Finishes seats unkept accepted at until old left)
      → AreTaken before is.gathered → (s : ℕ) (seat : LibraryView) → s < length old.desk.board.sessions → Contains seats seat → 1 ≤ seat.knows.number → seat.knows.number ≤ old.desk.seat.table.shape.libraries
      → AreLogged seat.knows.number (before s) (book_at is.gathered.board s) (library_at seat s).items
  all_sent lanes_are_taken before seats unkept accepted at until old left is taken s seat small has from_one to_last =
      let es = engine_at is.gathered.seat s in
      let number = seat.knows.number in
      let same : SameTable (after_settling seats old.desk) is.gathered =
      each_in_turn (λ i. Gathers i at until) SameTable (λ d. record { table = refl; settled = refl; sessions = refl })
      (λ a b c one two. record { table = two.table ∙ one.table; settled = two.settled ∙ one.settled; sessions = two.sessions ∙ one.sessions })
      (λ i. gathered_same i at until) (length old.desk.board.sessions) (after_settling seats old.desk) is.gathered is.gathers in
      let here : s < length is.gathered.board.sessions = subst (λ n. s < n) (sym same.sessions) small in
      let within : number ≤ is.gathered.seat.table.shape.libraries = subst (λ (t : TableRef). number ≤ t.shape.libraries) (sym same.table) to_last in
      let all = is.settled s small in
      let knows : IsSettled s es seat.knows = settled_has (IsSettled s es) seats old.desk.seat.settled seat (subst (Each (IsSettled s es)) same.settled all.settled) has in
      let items : taken_of es number ≡ (library_session seat.knows s).items = lanes_are_taken is.gathered.seat.table.shape.libraries s es seat.knows knows all.others (is.agree s here).taken from_one within in
      subst (AreLogged number (before s) (book_at is.gathered.board s)) items ((taken.each s here).taken number from_one within)
