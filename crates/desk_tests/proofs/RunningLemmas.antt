-- What the engine's side keeps while sessions and connections go on.
use Rattle.std.proofs.Common.{◌≡◌, ℕ, ◌<◌, ◌≤◌, false, List, length, Option, None, Some, refl, sym, ap, subst, ◌∙◌}
use Rattle.std.specs.Prelude.{IfSome, IsNone, IsSome}
use Rattle.catchup_pump.specs.declared.cursor.Cursor.{Cursor}
use Rattle.desk_tests.specs.Running.{IsDialler, IsRunning}
use Rattle.desk_tests.specs.declared.engine_desk.EngineDesk.{EngineDesk}
use Rattle.lease_core.specs.declared.entry.Entry.{Entry}
use Rattle.lease_desk.specs.Desk.{GoesOn, IsInStep, is_of_leases}
use Rattle.lease_desk.specs.declared.desk.LeaseDesk.{LeaseDesk}
use Rattle.lease_words.specs.Views.{EngineView}
use Rattle.library_desk.specs.Serving.{AreCursors, IsInOrder, IsLinked}
use Rattle.library_desk.specs.declared.desk.LibraryDesk.{LibraryDesk}
use Rattle.library_desk.specs.declared.shared.Shared.{Shared}
use Rattle.session_book.specs.Records.{Pending}
use Rattle.session_core.specs.declared.routing.TheConstants.{MOST_SESSIONS}
use Rattle.session_desk.specs.Steps.{AreNoted, AreRoutes, IsSteady, Proceeds}
use Rattle.session_desk.specs.declared.routes.Routes.{Routes}
use Rattle.switchboard.specs.Board.{Board, book_at}
use Rattle.switchboard.specs.Going.{GoesOnTo}
use Rattle.switchboard.specs.Happenings.{Happening, Happens, Reaches}
use Rattle.switchboard.specs.Ready.{IsReady}

pub none_is : {T : Type 0} (o : Option T) → IsNone o → o ≡ None
none_is None is = refl
none_is (Some x) is = absurd (cc)

-- what the laws say of a board that goes on
pub record Laws : Type 0 where
  pub routes : (old new : Board) (routes : Routes) → GoesOnTo old new → AreRoutes old routes → AreRoutes new routes
  pub noted : (old new : Board) (unkept : List Pending) → GoesOnTo old new → AreNoted unkept old → AreNoted unkept new
  pub cursors : (old new : Board) (cursors : List Cursor) → length new.sessions ≡ length old.sessions → ((s : ℕ) → GoesOn old new s) → AreCursors old cursors → AreCursors new cursors

-- sessions and connections went on, each session by no new lease, at the same table
pub record RunsOn (old new : LeaseDesk) : Type 0 where
  pub steady : IsSteady new.board new.seat
  pub goes_on : GoesOnTo old.board new.board
  pub leases : (s : ℕ) → GoesOn old.board new.board s
  pub table : new.seat.table ≡ old.seat.table

-- what session_desk says of a step
pub proceeds : (old new : LeaseDesk) → IsSteady new.board new.seat → Proceeds old.board new.board → new.seat.table ≡ old.seat.table → RunsOn old new
proceeds old new steady went table = record { steady = steady; goes_on = went.goes_on; leases = went.leases; table = table }

-- what the laws say of a happening that isn't done by leases
pub record StepLaws : Type 0 where
  pub ready : (before : ℕ → List Entry) (happening : Happening) (old new : Board) → Happens happening old new → IsReady before old → IsReady before new
  pub goes_on : (happening : Happening) (old new : Board) → Happens happening old new → GoesOnTo old new
  pub in_step : (before : ℕ → List Entry) (happening : Happening) (old new : Board) (seat : EngineView) → is_of_leases happening ≡ false → Happens happening old new → IsReady before old → IsInStep old seat → IsInStep new seat
  pub leases : (happening : Happening) (old new : Board) → is_of_leases happening ≡ false → Happens happening old new → (s : ℕ) → GoesOn old new s

pub happens : StepLaws → (happening : Happening) (old new : LeaseDesk) → is_of_leases happening ≡ false → Happens happening old.board new.board → new.seat ≡ old.seat → IsSteady old.board old.seat → RunsOn old new
happens laws happening old new plain happened seat steady =
    let run = steady.run in
    record {
      steady = record {
        run = record { before = run.before; ready = laws.ready run.before happening old.board new.board happened run.ready };
        in_step = subst (IsInStep new.board) (sym seat) (laws.in_step run.before happening old.board new.board old.seat plain happened run.ready steady.in_step);
      };
      goes_on = laws.goes_on happening old.board new.board happened;
      leases = laws.leases happening old.board new.board plain happened;
      table = ap (λ (v : EngineView). v.table) seat;
    }

-- what the laws say of a run
pub record RunLaws : Type 0 where
  pub ready : (before : ℕ → List Entry) (happenings : List Happening) (old new : Board) → Reaches happenings old new → IsReady before old → IsReady before new
  pub goes_on : (happenings : List Happening) (old new : Board) → Reaches happenings old new → GoesOnTo old new

pub reaches : RunLaws → (happenings : List Happening) (old new : LeaseDesk) → Reaches happenings old.board new.board → IsInStep new.board new.seat → ((s : ℕ) → GoesOn old.board new.board s) → new.seat.table ≡ old.seat.table
    → IsSteady old.board old.seat → RunsOn old new
reaches laws happenings old new reached in_step leases table steady =
    let run = steady.run in
    record {
      steady = record { run = record { before = run.before; ready = laws.ready run.before happenings old.board new.board reached run.ready }; in_step = in_step };
      goes_on = laws.goes_on happenings old.board new.board reached;
      leases = leases;
      table = table;
    }

dialler_goes_on : (old new : Board) → GoesOnTo old new → (s : Option ℕ) → IfSome s (IsDialler old) → IfSome s (IsDialler new)
dialler_goes_on old new goes None was = was
dialler_goes_on old new goes (Some s) was = record {
  session = subst (λ n. s < n) (sym goes.sessions) was.session;
  dials = subst IsSome (sym (goes.same s).dials) was.dials;
}

-- The engine's desk with other sessions, which went on, and other notes.
pub keeps : Laws → (shared : Shared) (old new : EngineDesk) → new.libraries ≡ record (old.libraries) { desk = new.libraries.desk } → new.routes ≡ old.routes → new.dialler ≡ old.dialler
    → AreNoted new.unkept.items new.libraries.desk.board → RunsOn old.libraries.desk new.libraries.desk → IsRunning shared old → IsRunning shared new
keeps laws shared old new rest routes dialler noted on was =
    let board = old.libraries.desk.board in
    let next = new.libraries.desk.board in
    let linked = was.linked in
    record {
      linked = subst (IsLinked shared) (sym rest) (record {
        table = on.table ∙ linked.table;
        depth = linked.depth;
        sessions = on.goes_on.sessions ∙ linked.sessions;
        few = linked.few;
        libraries = linked.libraries;
        known = linked.known;
        watched = linked.watched;
        commands = linked.commands;
        notices = linked.notices;
      });
      steady = on.steady;
      cursors = subst (AreCursors next) (sym (ap (λ (d : LibraryDesk). d.cursors.items) rest)) (laws.cursors board next old.libraries.cursors.items on.goes_on.sessions on.leases was.cursors);
      routes = subst (AreRoutes next) (sym routes) (laws.routes board next old.routes on.goes_on was.routes);
      few = subst (λ (r : Routes). length r.names.items ≤ MOST_SESSIONS) (sym routes) was.few;
      noted = noted;
      dialler = subst (λ s. IfSome s (IsDialler next)) (sym dialler) (dialler_goes_on board next on.goes_on old.dialler was.dialler);
    }

-- with the notes as they were
pub keeps_notes : Laws → (shared : Shared) (old new : EngineDesk) → new.libraries ≡ record (old.libraries) { desk = new.libraries.desk } → new.routes ≡ old.routes → new.dialler ≡ old.dialler
    → new.unkept ≡ old.unkept → RunsOn old.libraries.desk new.libraries.desk → IsRunning shared old → IsRunning shared new
keeps_notes laws shared old new rest routes dialler unkept on was =
    let noted = laws.noted old.libraries.desk.board new.libraries.desk.board old.unkept.items on.goes_on was.noted in
    keeps laws shared old new rest routes dialler (subst (λ items. AreNoted items new.libraries.desk.board) (sym (ap (λ u. u.items) unkept)) noted) on was

-- The engine's desk behind a library that was served.
pub serves : Laws → (shared : Shared) (old new : EngineDesk) → new.routes ≡ old.routes → new.dialler ≡ old.dialler → new.unkept ≡ old.unkept → GoesOnTo old.libraries.desk.board new.libraries.desk.board
    → IsSteady new.libraries.desk.board new.libraries.desk.seat → IsLinked shared new.libraries → IsInOrder new.libraries → IsRunning shared old → IsRunning shared new
serves laws shared old new routes dialler unkept goes steady linked order was =
    let board = old.libraries.desk.board in
    let next = new.libraries.desk.board in
    record {
      linked = linked;
      steady = steady;
      cursors = order.cursors;
      routes = subst (AreRoutes next) (sym routes) (laws.routes board next old.routes goes was.routes);
      few = subst (λ (r : Routes). length r.names.items ≤ MOST_SESSIONS) (sym routes) was.few;
      noted = subst (λ items. AreNoted items next) (sym (ap (λ u. u.items) unkept)) (laws.noted board next old.unkept.items goes was.noted);
      dialler = subst (λ s. IfSome s (IsDialler next)) (sym dialler) (dialler_goes_on board next goes old.dialler was.dialler);
    }
