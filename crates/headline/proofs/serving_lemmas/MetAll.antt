-- The engine meets the libraries, one behind another.
use Rattle.std.proofs.Common.{◌≡◌, ◌≢◌, inl, inr, ℕ, zero, suc, ◌+◌, ◌<◌, ◌≤◌, List, length, Some, sym, ap, subst, ◌∙◌, arith}
use Rattle.std.proofs.lemmas.Bool.{cases_eq}
use Rattle.std.proofs.lemmas.List.{length-set}
use Rattle.std.proofs.lemmas.Option.{same_Some, slice_get_within}
use Rattle.std.specs.Prelude.{slice_get, slice_set}
use Rattle.engine_end.specs.Meeting.{RingsMeet}
use Rattle.engine_loop.specs.declared.engine.Engine.{Engine}
use Rattle.lease_core.specs.declared.entry.Entry.{Entry}
use Rattle.lease_core.specs.declared.messages.Command.{Command}
use Rattle.lease_core.specs.declared.messages.Notice.{Notice}
use Rattle.lease_desk.specs.Desk.{InTurn}
use Rattle.lease_words.specs.Views.{EngineView, LibraryView, TableRef}
use Rattle.library_api.specs.Ends.{EndsView}
use Rattle.library_desk.specs.declared.desk.LibraryDesk.{LibraryDesk}
use Rattle.engine_laws.specs.libraries.Replies.{AreAnswered}
use Rattle.ring_links.specs.Ends.{HeadView, TailView}
use Rattle.headline.proofs.run_lemmas.Places.{get_set_other, get_set_same}
use Rattle.headline.specs.runs.Accounted.{IsAccountedAt}
use Rattle.headline.specs.runs.Lives.{DesksMeet, HasLived, IsReportedAs, IsServedAt, Life}
use Rattle.headline.specs.serving.Served.{HasMet, life_of}
use Rattle.serve_run.specs.Meetings.{Meeting, MeetsAt}
use Rattle.serve_run.specs.declared.workers.Worker.{Worker}
use Rattle.session_core.specs.State.{State}

-- what the laws of meetings say
pub record MeetLaws (before : ℕ → List Entry) (start : ℕ → State) : Type 0 where
  pub account : (moment library : ℕ) (old new : LibraryDesk) (ends_old ends_new : EndsView) → DesksMeet library old new ends_old ends_new → IsAccountedAt before start moment old → IsAccountedAt before start moment new
  pub lives : (requests number : ℕ) (engine_old engine_new : LibraryDesk) (old new : Life) → DesksMeet number engine_old engine_new old.library.ends new.library.ends
      → length old.library.ends.seat.knows.sessions ≤ engine_old.desk.seat.table.shape.sessions → new.library ≡ record (old.library) { ends = new.library.ends } → new.calls ≡ old.calls
      → HasLived IsReportedAs requests old → HasLived IsReportedAs requests new
  pub served : (place number : ℕ) (engine_old engine_new : LibraryDesk) (tail_old : TailView Command) (head_old : HeadView Notice) (life : Life)
      → RingsMeet number engine_old engine_new tail_old life.library.ends.tail head_old life.library.ends.head → number ≡ place + 1 → AreAnswered before engine_new → IsServedAt engine_new.ends.items place life
  pub beside : (place j number : ℕ) (engine_old engine_new : LibraryDesk) (tail_old tail_new : TailView Command) (head_old head_new : HeadView Notice) (life : Life) → j ≢ place
      → RingsMeet number engine_old engine_new tail_old tail_new head_old head_new → number ≡ place + 1 → IsServedAt engine_old.ends.items j life → IsServedAt engine_new.ends.items j life

-- A library at its place, where the engine has met the first ones.
pub record IsHere (requests count : ℕ) (d : LibraryDesk) (j : ℕ) (worker : Worker) : Type 0 where
  pub number : worker.number ≡ j + 1
  pub seat : worker.library.ends.seat.knows.number ≡ j + 1
  pub reported : worker.report.number ≡ j + 1
  pub lived : HasLived IsReportedAs requests (life_of worker)
  pub waiting : count ≤ j → length worker.library.ends.seat.knows.sessions ≤ d.desk.seat.table.shape.sessions
  pub served : j < count → IsServedAt d.ends.items j (life_of worker)

abbrev pub AreHere : ℕ → ℕ → Meeting → Type 0
AreHere requests count m = (j : ℕ) (worker : Worker) → slice_get m.workers j ≡ Some worker → IsHere requests count m.engine.sessions j worker

module _ (before : ℕ → List Entry) (start : ℕ → State) (laws : MeetLaws before start) (requests : ℕ) (last : Engine) where
  -- behind so many meetings
  pub record HaveMet (many count : ℕ) (m : Meeting) : Type 0 where
    pub engine : HasMet last m.engine
    pub accounted : IsAccountedAt before start last.moment m.engine.sessions
    pub table : m.engine.sessions.desk.seat.table ≡ last.sessions.desk.seat.table
    pub workers : length m.workers ≡ many
    pub each : AreHere requests count m

  module _ (many place : ℕ) (old new : Meeting) (is : MeetsAt place old new) (was : HaveMet many place old) where
    abbrev own : IsHere requests place old.engine.sessions place is.before
    own = was.each place is.before is.found

    desks : DesksMeet is.before.number old.engine.sessions new.engine.sessions is.before.library.ends is.after.library.ends
    desks = (
        let number = own.number in
        record { from_one = omega arith; seats = is.meets.seats; rings = is.meets.rings; rest = ap (λ (e : Engine). e.sessions) is.meets.engine })

    now_accounted : IsAccountedAt before start last.moment new.engine.sessions
    now_accounted = laws.account last.moment is.before.number old.engine.sessions new.engine.sessions is.before.library.ends is.after.library.ends desks was.accounted

    same_table : new.engine.sessions.desk.seat.table ≡ old.engine.sessions.desk.seat.table
    same_table = ap (λ (v : EngineView). v.table) is.meets.seats.engine

    after_here : IsHere requests (suc place) new.engine.sessions place is.after
    after_here = record {
      number = ap (λ (w : Worker). w.number) is.meets.worker ∙ own.number;
      seat = ap (λ (v : LibraryView). v.knows.number) is.meets.seats.library ∙ own.seat;
      reported = ap (λ (w : Worker). w.report.number) is.meets.worker ∙ own.reported;
      lived = laws.lives requests is.before.number old.engine.sessions new.engine.sessions (life_of is.before) (life_of is.after) desks (own.waiting (omega arith))
          (ap (λ (w : Worker). w.library) is.meets.worker) (ap (λ (w : Worker). w.report.calls) is.meets.worker) own.lived;
      waiting = λ far. absurd (omega arith);
      served = λ near. laws.served place is.before.number old.engine.sessions new.engine.sessions _ _ (life_of is.after) is.meets.rings own.number now_accounted.answered;
    }

    other_here : (j : ℕ) (worker : Worker) → j ≢ place → IsHere requests place old.engine.sessions j worker → IsHere requests (suc place) new.engine.sessions j worker
    other_here j worker other there = record {
      number = there.number;
      seat = there.seat;
      reported = there.reported;
      lived = there.lived;
      waiting = λ far. subst (λ (t : TableRef). length worker.library.ends.seat.knows.sessions ≤ t.shape.sessions) (sym same_table) (there.waiting (omega arith));
      served = λ near. laws.beside place j is.before.number old.engine.sessions new.engine.sessions _ _ _ _ (life_of worker) other is.meets.rings own.number (there.served (omega arith));
    }

    all_here : AreHere requests (suc place) new
    all_here j worker found =
        let there : slice_get (slice_set old.workers place is.after) j ≡ Some worker = subst (λ all. slice_get all j ≡ Some worker) is.workers found in
        elim (cases_eq j place) [
          | inl same ↦ (
              let here : is.after ≡ worker = same_Some is.after worker (sym (get_set_same old.workers place is.after (slice_get_within old.workers place is.before is.found)) ∙ subst (λ k. slice_get (slice_set old.workers place is.after) k ≡ Some worker) same there) in
              subst (λ k. IsHere requests (suc place) new.engine.sessions k worker) (sym same) (subst (IsHere requests (suc place) new.engine.sessions place) here after_here))
          | inr other ↦ other_here j worker other (was.each j worker (sym (get_set_other old.workers place j is.after other) ∙ there))
        ]

    met_once : HaveMet many (suc place) new
    met_once = record {
      engine = is.meets.engine ∙ ap (λ (e : Engine). record e { sessions = record (e.sessions) { desk = record (e.sessions.desk) { seat = new.engine.sessions.desk.seat }; ends = new.engine.sessions.ends } }) was.engine;
      accounted = now_accounted;
      table = same_table ∙ was.table;
      workers = ap length is.workers ∙ length-set old.workers place is.after ∙ was.workers;
      each = all_here;
    }

  pub met_all : (many count : ℕ) (old new : Meeting) → InTurn MeetsAt count old new → HaveMet many 0 old → HaveMet many count new
  met_all many zero old new same was = subst (HaveMet many 0) (sym same) was
  met_all many (suc n) old new is was = met_once many n is.0 new is.2 (met_all many n old is.0 is.1 was)
