-- As an engine starts nothing was taken of a lane, and no journal has a lease.
use Rattle.std.proofs.Common.{◌≡◌, ℕ, zero, suc, ◌+◌, ◌-◌, ◌<◌, List, [], length, refl, sym, ap, subst, ◌∙◌, arith}
use Rattle.std.proofs.lemmas.List.{length-replicate}
use Rattle.std.specs.Prelude.{replicate, slice_index_or}
use Rattle.engine_config.specs.declared.config.Config.{Config}
use Rattle.engine_loop.specs.Starts.{StartsDesk, StartsSessions, StartsTable}
use Rattle.lease_core.specs.Lines.{lines_of}
use Rattle.lease_core.specs.State.{state_of}
use Rattle.lease_core.specs.declared.lease.Line.{Line}
use Rattle.lease_desk.specs.Desk.{bodies_of}
use Rattle.lease_words.specs.Views.{EngineView, engine_at, lines_before, new_engine_session, new_engine_sessions, no_engine_session}
use Rattle.lease_words.specs.declared.view.EngineSession.{EngineSession}
use Rattle.lease_words.specs.declared.view.Shape.{Shape}
use Rattle.library_desk.specs.declared.desk.LibraryDesk.{LibraryDesk}
use Rattle.library_desk.specs.declared.shared.Shared.{Shared}
use Rattle.engine_laws.specs.libraries.Sends.{AreTaken, LanesAreTaken}
use Rattle.session_book.specs.Book.{Book}
use Rattle.session_book.specs.Sends.{AreSendsOf}
use Rattle.switchboard.specs.Board.{book_at}
use Rattle.switchboard.specs.Ready.{entries_of}

-- an empty journal has no line
no_lines : lines_of [] ≡ []
unfolding state_of
no_lines = refl

nothing_at : {X : Type 0} (s : ℕ) (d : X) → slice_index_or [] s d ≡ d
nothing_at s d = refl

-- what a new seat has of each session
long_sessions : (shape : Shape) (from n : ℕ) → length (new_engine_sessions shape from n) ≡ n
long_sessions shape from zero = refl
long_sessions shape from (suc n) = ap (λ k. suc k) (long_sessions shape (suc from) n)

session_seated : (shape : Shape) (from n s : ℕ) → s < n → slice_index_or (new_engine_sessions shape from n) s no_engine_session ≡ new_engine_session shape (from + s)
session_seated shape from zero s small = absurd (omega arith)
session_seated shape from (suc n) zero small = ap (new_engine_session shape) (omega arith)
session_seated shape from (suc n) (suc s) small = session_seated shape (suc from) n s (omega arith) ∙ ap (new_engine_session shape) (omega arith)

-- each of its lanes is empty
none_there : {X : Type 0} (n i : ℕ) (d : X) → slice_index_or (replicate n d) i d ≡ d
none_there zero i d = refl
none_there (suc n) zero d = refl
none_there (suc n) (suc i) d = none_there n i d

module _ (first : (library : ℕ) (book : Book) → AreSendsOf library book.entries [] book) where
  new_lanes : (shape : Shape) (book : Book) (s : ℕ) → shape.before ≡ [] → lines_of book.entries ≡ [] → LanesAreTaken shape.libraries book.entries book (new_engine_session shape s)
  new_lanes shape book s before lines =
      let none : lines_before shape s ≡ [] = ap (λ (ls : List (List Line)). slice_index_or ls s []) before ∙ nothing_at s [] in
      record {
        lines = lines ∙ sym none;
        based = ap (λ (ls : List Line). length ls) none ∙ sym (ap (λ (ls : List Line). length ls) lines);
        granted = λ some. (let empty = ap (λ (ls : List Line). length ls) none in absurd (omega arith));
        lanes = length-replicate shape.libraries [];
        taken = λ library from_one to_last. record { sends = []; sends_are = first library book; bodies = sym (ap bodies_of (none_there shape.libraries (library - 1) [])) };
      }

  pub starts_taken : (config : Config) (moment : ℕ) (shared : Shared) (d : LibraryDesk) → StartsDesk config moment shared d → StartsTable config shared → StartsSessions config d.desk.board → AreTaken (entries_of d.desk.board) d.desk
  starts_taken config moment shared d desk table sessions =
      let board = d.desk.board in
      let shape = shared.leases.shape in
      let count : length board.sessions ≡ shape.sessions = sessions.count ∙ sym (ap (λ (k : Shape). k.sessions) table.shape) in
      record {
        seated = count ∙ sym (ap (λ (v : EngineView). v.table.shape.sessions) desk.seat);
        known = ap (λ (v : EngineView). length v.knows.sessions) desk.seat ∙ long_sessions shape 0 shape.sessions ∙ sym count;
        each = λ s small.
            let lines : lines_of (book_at board s).entries ≡ [] = ap (λ (b : Book). lines_of b.entries) (sessions.books s (subst (λ n. s < n) sessions.count small)) ∙ no_lines in
            subst (λ (v : EngineView). LanesAreTaken v.table.shape.libraries (entries_of board s) (book_at board s) (engine_at v s)) (sym desk.seat)
            (subst (λ (e : EngineSession). LanesAreTaken shape.libraries (entries_of board s) (book_at board s) e) (sym (session_seated shape 0 shape.sessions s (subst (λ n. s < n) count small)))
            (new_lanes shape (book_at board s) (0 + s) (ap (λ (k : Shape). k.before) table.shape) lines));
      }
