-- A run as it begins is accounted for.
use Rattle.std.proofs.Common.{◌≡◌, inl, inr, ℕ, zero, suc, ◌<◌, List, [], ◌∷◌, length, refl, ap, subst, sym, ◌∙◌, arith}
use Rattle.std.proofs.lemmas.Bool.{cases_lt}
use Rattle.std.specs.Prelude.{◌≤◌, slice_index_or}
use Rattle.engine_config.specs.declared.config.Config.{Config}
use Rattle.engine_loop.specs.declared.engine.Engine.{Engine}
use Rattle.engine_laws.specs.Account.{IsAccountedFor}
use Rattle.engine_loop.specs.Starts.{StartsSessions, configured_book}
use Rattle.engine_config.specs.Config.{dial_of, names_of}
use Rattle.lease_core.specs.State.{owner_of, state_of}
use Rattle.lease_core.specs.declared.entry.Entry.{Entry}
use Rattle.lease_desk.specs.Desk.{owner_at}
use Rattle.lease_words.specs.Views.{EngineView, LibraryView}
use Rattle.lease_words.specs.declared.view.Shape.{Shape}
use Rattle.session_book.specs.Kept.{Kept}
use Rattle.session_book.specs.Book.{Book}
use Rattle.session_book.specs.Moments.{IsTimedRun}
use Rattle.session_core.specs.State.{State}
use Rattle.switchboard.specs.Board.{Board, book_at, no_session}
use Rattle.switchboard.specs.Ready.{entries_of}
use Rattle.switchboard.specs.Told.{machines_of}
use Rattle.headline.specs.runs.Accounted.{AreNumbered, first_machines, no_entries}
use Rattle.library_desk.specs.declared.shared.Shared.{Shared}
use Rattle.script_run.specs.declared.run.Run.{Run}
use Rattle.engine_loop.specs.Starts.{StartsEngineOf}
use Rattle.script_run.specs.Means.{StartsRun}

-- the engine has a session whose journal is empty
nobody_owns : owner_of (state_of []) ≡ 0
unfolding state_of
nobody_owns = refl

pub past_end : {X : Type 0} (xs : List X) (s : ℕ) (d : X) → length xs ≤ s → slice_index_or xs s d ≡ d
past_end [] s d past = refl
past_end (x ∷ xs) zero d past = absurd (omega arith)
past_end (x ∷ xs) (suc s) d past = past_end xs s d (omega arith)

module _ (config : Config) (board : Board) (starts : StartsSessions config board) where
  configured : (s : ℕ) → s < length board.sessions → book_at board s ≡ configured_book config.leases (names_of config s) (dial_of config s)
  configured s small = starts.books s (subst (λ n. s < n) starts.count small)

  -- no session has an entry
  no_entry : (s : ℕ) → entries_of board s ≡ []
  no_entry s = elim (cases_lt s (length board.sessions)) [
    | inl small ↦ ap (λ (book : Book). book.entries) (configured s small)
    | inr past ↦ ap (λ (session : Kept). session.book.entries) (past_end board.sessions s no_session past)
  ]

  pub none_before : entries_of board ≡ no_entries
  none_before = λ i s. no_entry s i

  pub not_owned : (s : ℕ) → s < length board.sessions → owner_at board s ≡ 0
  not_owned s small = ap (λ (book : Book). owner_of (state_of book.entries)) (configured s small) ∙ nobody_owns

  machine_is : (s : ℕ) → s < length board.sessions → machines_of board s ≡ first_machines config s
  machine_is s small = ap (λ (book : Book). book.machine) (configured s small)

  -- the machines are the configured ones
  pub by_machines : (before : ℕ → List Entry) (at : ℕ) → IsAccountedFor before (machines_of board) at board → IsAccountedFor before (first_machines config) at board
  by_machines before at was = record {
    history = was.history;
    brought = was.brought;
    moment = was.moment;
    past = was.past;
    told = record {
      runs = λ s small. subst (λ (machine : State). IsTimedRun (before s) machine (was.history.handled s) was.moment (book_at board s)) (machine_is s small) (was.told.runs s small);
      sends = was.told.sends;
    };
    given = was.given;
    connections = was.connections;
    handled = was.handled;
  }

-- each library has the number behind its place
pub numbered : (config : Config) (moment : ℕ) (shared : Shared) (run : Run) → StartsRun config moment shared run → AreNumbered run
numbered config moment shared run starts =
    let engine = starts.engine in
    record {
      count = starts.callers.count ∙ (engine.table.rings.commands ∙ (sym (ap (λ (k : Shape). k.libraries) engine.table.shape) ∙ sym (ap (λ (v : EngineView). v.table.shape.libraries) engine.desk.seat)));
      each = λ place caller found.
          let one = starts.callers.each place caller found in
          record { number = one.is.number; seat = ap (λ (v : LibraryView). v.knows.number) one.seat };
    }

-- each session has its cursor
pub cursors_are : (config : Config) (moment : ℕ) (shared : Shared) (engine : Engine) → StartsEngineOf config moment shared engine → length engine.sessions.cursors.items ≡ length engine.sessions.desk.board.sessions
cursors_are config moment shared engine starts = starts.desk.cursors.count ∙ sym starts.sessions.count

-- the moment is that at which the engine begins
pub moment_is : (config : Config) (moment : ℕ) (shared : Shared) (run : Run) → StartsRun config moment shared run → run.engine.moment ≡ moment
moment_is config moment shared run starts = starts.engine.figures.moment
