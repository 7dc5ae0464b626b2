-- What is known of the events of one session: what each of them adds to its run.
use Rattle.std.proofs.Common.{◌≡◌, ◌≢◌, ℕ, ◌≤◌, List, [], ◌∷◌, ◌++◌, length, None, Some}
use Rattle.lease_core.specs.declared.entry.Entry.{Entry}
use Rattle.lease_core.specs.declared.word.Word.{Word}
use Rattle.session_book.specs.OutEntry.{OutEntry}
use Rattle.session_core.specs.State.{IsState, State}
use Rattle.session_core.specs.declared.phases.Phase.TheVariants.{Off}
use Rattle.session_book.specs.Acts.{after_binding, after_dial, after_end, after_lapse, after_message, after_request, after_ticking}
use Rattle.session_book.specs.Book.{Book, Desk}
use Rattle.session_book.specs.Kept.{IsBook}
use Rattle.session_book.specs.Moments.{IsTimedRun}
use Rattle.session_book.specs.Runs.{Handled, handled_of, with_body}
use Rattle.session_book.specs.Sends.{AreSendsOf, new_sends}
use Rattle.session_book.specs.Words.{after_timeout, after_word, shown_sends}
use Rattle.switchboard.specs.Sound.{bound_of}

-- an event changes what was handled and what was sent in these ways, up to this moment
pub record Tells (handled_by : List Handled → List Handled) (sent_by : (ℕ → List OutEntry) → ℕ → List OutEntry) (at : ℕ) (old new : Book) : Type 0 where
  pub run : (before : List Entry) (start : State) (handled : List Handled) (moment : ℕ) → moment ≤ at → IsTimedRun before start handled moment old → IsTimedRun before start (handled_by handled) at new
  pub sends : (before : List Entry) (sends : ℕ → List OutEntry) (library : ℕ) → AreSendsOf library before (sends library) old → AreSendsOf library before (sent_by sends library) new

abbrev pub as_handled : List Handled → List Handled
as_handled handled = handled

abbrev pub as_sent : (ℕ → List OutEntry) → ℕ → List OutEntry
as_sent sends = sends

-- one connection more
abbrev pub handled_next : Handled → List Handled → List Handled
handled_next next handled = handled ++ next ∷ []

-- further sends
abbrev pub sent_next : (ℕ → List OutEntry) → (ℕ → List OutEntry) → ℕ → List OutEntry
sent_next more sends library = sends library ++ more library

pub record RunLaws : Type 0 where
  pub first : (book : Book) (at : ℕ) → bound_of book ≡ None → book.machine.sent ≤ at → IsTimedRun book.entries book.machine [] at book
  pub none_sent : (library : ℕ) (book : Book) → AreSendsOf library book.entries [] book
  pub later : (before : List Entry) (start : State) (handled : List Handled) (moment at : ℕ) (book : Book) → moment ≤ at → IsTimedRun before start handled moment book → IsTimedRun before start handled at book
  pub message : (c at : ℕ) (body : List ℕ) (desk : Desk) → IsBook desk.book → IsState desk.book.machine → bound_of desk.book ≡ Some c → desk.book.machine.phase ≢ Off
      → Tells (with_body body) as_sent at desk.book (after_message at body desk).book
  pub tick : (at : ℕ) (desk : Desk) → IsBook desk.book → Tells as_handled as_sent at desk.book (after_ticking at desk).book
  pub word : (at until : ℕ) (w : Word) (bodies : List (List ℕ)) (desk : Desk) → IsBook desk.book → length bodies ≡ shown_sends desk.book.entries w
      → Tells as_handled (sent_next (λ library. new_sends library desk.book at bodies)) at desk.book (after_word at until w bodies desk).book
  pub timeout : (at until : ℕ) (w : Word) (bodies : List (List ℕ)) (desk : Desk) → IsBook desk.book → length bodies ≡ shown_sends desk.book.entries w
      → Tells as_handled (sent_next (λ library. new_sends library desk.book at bodies)) at desk.book (after_timeout at until w bodies desk).book
  pub request : (at library nr from : ℕ) (desk : Desk) → IsBook desk.book → Tells as_handled as_sent at desk.book (after_request library nr from desk.book)
  pub lapse : (at : ℕ) (desk : Desk) → IsBook desk.book → Tells as_handled as_sent at desk.book (after_lapse desk.book)
  pub binding : (c at : ℕ) (body : List ℕ) (desk : Desk) → IsBook desk.book → IsState desk.book.machine → bound_of desk.book ≡ None → desk.book.machine.dials ≡ None
      → Tells (handled_next (handled_of c (body ∷ []))) as_sent at desk.book (after_binding at c body desk).book
  pub dial : (c at : ℕ) (desk : Desk) → IsBook desk.book → bound_of desk.book ≡ None → Tells (handled_next (handled_of c [])) as_sent at desk.book (after_dial at c desk).book
  pub leave : (c at : ℕ) (book : Book) → bound_of book ≡ Some c → Tells as_handled as_sent at book (after_end c book)
