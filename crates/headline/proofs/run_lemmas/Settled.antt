-- Once the libraries' seats are taken in, each lease of theirs stands in the journals.
use Rattle.std.proofs.Common.{◌≡◌, ℕ, ◌<◌, List, [], ◌∷◌, ◌++◌, length, refl, ap, subst, sym, ◌∙◌}
use Rattle.std.proofs.lemmas.List.Elements.{All-cons, All-contains, All-nil}
use Rattle.std.proofs.lemmas.List.Sorted.{Contains-permutation, IsPermutation-reverse}
use Rattle.std.specs.List.{All, Contains}
use Rattle.std.specs.Prelude.{map, reverse}
use Rattle.engine_end.specs.Finishing.{Finishes, after_settling, settled_behind}
use Rattle.engine_end.specs.declared.records.EngineRecord.{EngineRecord}
use Rattle.lease_core.specs.Lines.{lines_of}
use Rattle.lease_core.specs.declared.entry.Entry.{Entry}
use Rattle.lease_core.specs.declared.lease.Line.{Line}
use Rattle.lease_desk.specs.Desk.{Gathers}
use Rattle.lease_desk.specs.declared.desk.LeaseDesk.{LeaseDesk}
use Rattle.lease_words.specs.Leases.{Each}
use Rattle.lease_words.specs.Tells.{IsSettled}
use Rattle.lease_words.specs.Views.{EngineView, LibraryView, engine_at, library_at}
use Rattle.lease_words.specs.declared.view.LibraryKnows.{LibraryKnows}
use Rattle.library_desk.specs.declared.desk.LibraryDesk.{LibraryDesk}
use Rattle.headline.specs.runs.Accounted.{AllLeasesStand, LeasesStand}
use Rattle.engine_laws.specs.libraries.Sends.{AreTaken}
use Rattle.headline.proofs.Walking.{each_in_turn}
use Rattle.session_book.specs.Records.{Pending}
use Rattle.switchboard.specs.Board.{book_at}

each_front : {A : Type 0} (P : A → Type 0) (xs ys : List A) → Each P (xs ++ ys) → Each P xs
each_front P [] ys all = tt
each_front P (x ∷ xs) ys all = (all.0, each_front P xs ys all.1)

all_known : (P : LibraryKnows → Type 0) (seats : List LibraryView) → Each P (map (λ (seat : LibraryView). seat.knows) seats) → All (λ (seat : LibraryView). P seat.knows) seats
all_known P [] all = All-nil (λ (seat : LibraryView). P seat.knows)
all_known P (seat ∷ seats) all = All-cons (λ (seat : LibraryView). P seat.knows) seat seats all.0 (all_known P seats all.1)

-- a fact of each library that is settled, at one whose seat was taken in
settled_has : (P : LibraryKnows → Type 0) (seats : List LibraryView) (settled : List LibraryKnows) (seat : LibraryView) → Each P (settled_behind seats settled) → Contains seats seat → P seat.knows
settled_has P seats settled seat all has =
    All-contains (λ (one : LibraryView). P one.knows) (reverse seats) seat
    (all_known P (reverse seats) (each_front P (map (λ (one : LibraryView). one.knows) (reverse seats)) settled all))
    (Contains-permutation seats (reverse seats) seat (IsPermutation-reverse seats) has)

abbrev SameSettled : LeaseDesk → LeaseDesk → Type 0
SameSettled old new = new.seat.settled ≡ old.seat.settled

gathered_settled : (s at until : ℕ) (old new : LeaseDesk) → Gathers s at until old new → SameSettled old new
gathered_settled s at until old new is = ap (λ (v : EngineView). v.settled) is.seat

pub leases_stand : (before : ℕ → List Entry) (seats : List LibraryView) (unkept : List Pending) (accepted at until : ℕ) (old : LibraryDesk) (left : EngineRecord) (is : Finishes seats unkept accepted at until old left)
    → AreTaken before is.gathered → length is.gathered.board.sessions ≡ length old.desk.board.sessions → AllLeasesStand before is.gathered.board seats
leases_stand before seats unkept accepted at until old left is taken count s seat small has =
    let es = engine_at is.gathered.seat s in
    let settled : SameSettled (after_settling seats old.desk) is.gathered =
    each_in_turn (λ i. Gathers i at until) SameSettled (λ d. refl) (λ a b c one two. two ∙ one) (λ i. gathered_settled i at until) (length old.desk.board.sessions) (after_settling seats old.desk) is.gathered is.gathers in
    let all = is.settled s (subst (λ n. s < n) count small) in
    let knows : IsSettled s es seat.knows = settled_has (IsSettled s es) seats old.desk.seat.settled seat (subst (Each (IsSettled s es)) settled all.settled) has in
    let number = seat.knows.number in
    let known = library_at seat s in
    subst (λ n. LeasesStand n (lines_of (book_at is.gathered.board s).entries) number known) (taken.each s small).based
    (subst (λ (lines : List Line). LeasesStand es.base lines number known) (sym (is.agree s small).lines) (record { each = knows.stands; others = knows.others; words = knows.words }))
