-- Sessions, connections and the sides of the rings go on over each step of a run.
use Rattle.std.proofs.Common.{◌≡◌, inl, inr, ℕ, ◌+◌, ◌-◌, List, [], ◌∷◌, ◌++◌, length, Option, None, Some, Result, Ok, Err, refl, ap, subst, sym, ◌∙◌}
use Rattle.std.proofs.lemmas.List.{length-set}
use Rattle.std.specs.Result.{result_ok}
use Rattle.engine_end.specs.Finishing.{GathersAll}
use Rattle.engine_laws.specs.walks.Walks as walk
use Rattle.engine_laws.specs.walks.Walks.{HappensAlone, QuietStep, ReadMove, ReadSoFar, TurnStep, WriteMove}
use Rattle.engine_loop.specs.Engines.{until_of}
use Rattle.fix_fields.specs.Reading.{fields_of}
use Rattle.gate_io.specs.declared.dials.Dialled.{Dialled}
use Rattle.gate_io.specs.declared.dials.Dialled.TheVariants as dial
use Rattle.gate_io.specs.declared.wires.Accepted.{Accepted}
use Rattle.gate_io.specs.declared.wires.Accepted.TheVariants as accept
use Rattle.lease_core.specs.State.{state_of}
use Rattle.session_book.specs.Records.{Pending}
use Rattle.session_core.specs.declared.causes.Cause.{Cause}
use Rattle.session_desk.specs.Steps.{GreetsAs, Ticks, answering, binding, ending, greeting, lapsing, parting}
use Rattle.session_desk.specs.declared.routes.Routes.{Routes}
use Rattle.wire_desk.specs.Dials.{DialsAs}
use Rattle.wire_desk.specs.Steps.{AcceptsAs}
use Rattle.wire_desk.specs.declared.dialling.Dialler.{Dialler}
use Rattle.engine_loop.specs.Turns.{AcceptsNext, AtWire, MakesTurn, Reading, ReadsIfStands, ServesOne, Serving}
use Rattle.engine_loop.specs.declared.engine.Engine.{Engine}
use Rattle.engine_loop.specs.declared.records.Turn.{Turn}
use Rattle.lease_desk.specs.Desk.{Gathers, bodies_of}
use Rattle.lease_desk.specs.declared.desk.LeaseDesk.{LeaseDesk}
use Rattle.lease_words.specs.Views.{EngineView}
use Rattle.library_desk.specs.declared.desk.LibraryDesk.{LibraryDesk}
use Rattle.headline.specs.runs.Sides.{DeskGoesOn, RunGoesOn}
use Rattle.headline.proofs.run_lemmas.Sides.{begins_same, desk_alone, ends_change, goes_further, goes_itself, served}
use Rattle.headline.proofs.Carrying.{each_step}
use Rattle.headline.proofs.Walking.{each_in_turn, walked}
use Rattle.headline.specs.Needed.{GoingLaws}
use Rattle.script_run.specs.declared.run.Run.{Run}
use Rattle.script_run.specs.Runs.{CallsAt, CallsBetween, Carries, CarriesAt, CarriesOut, Meets, TurnsOver, with_room}
use Rattle.script_text.specs.declared.steps.LibStep.{LibStep}
use Rattle.script_text.specs.declared.steps.Step.{Step}
use Rattle.switchboard.specs.Board.{book_at, connection_at, place_at}
use Rattle.switchboard.specs.Going.{GoesOnTo}
use Rattle.switchboard.specs.Happenings.{Happening, Reaches, accepts, dials, ends_unbound, gives, prepares, receives, reserves, shows, takes, ticks, writes}

-- of the desk of leases
pub record LeasesGoOn (old new : LeaseDesk) : Type 0 where
  pub table : new.seat.table ≡ old.seat.table
  pub board : GoesOnTo old.board new.board

module _ (laws : GoingLaws) where
  leases_itself : (desk : LeaseDesk) → LeasesGoOn desk desk
  leases_itself desk = record { table = refl; board = laws.itself desk.board }

  leases_further : (first second third : LeaseDesk) → LeasesGoOn first second → LeasesGoOn second third → LeasesGoOn first third
  leases_further first second third one two = record { table = two.table ∙ one.table; board = laws.further first.board second.board third.board one.board two.board }

  -- whatever happens, where the engine's seat stays
  ran : (happenings : List Happening) (old new : LeaseDesk) → Reaches happenings old.board new.board → new.seat ≡ old.seat → LeasesGoOn old new
  ran happenings old new reaches seat = record { table = ap (λ (v : EngineView). v.table) seat; board = laws.runs happenings old.board new.board reaches }

  happened : (happening : Happening) (old new : LeaseDesk) → HappensAlone happening old new → LeasesGoOn old new
  happened happening old new is = ran (happening ∷ []) old new (new.board, (is.0, refl)) is.1

  one_gathered : (s at until : ℕ) (old new : LeaseDesk) → Gathers s at until old new → LeasesGoOn old new
  one_gathered s at until old new is = record {
    table = ap (λ (v : EngineView). v.table) is.seat;
    board = laws.runs (reserves s ∷ shows s is.word (bodies_of is.items) at until ∷ []) old.board new.board is.reaches;
  }

  behind : (s at until : ℕ) (happenings : List Happening) (old between new : LeaseDesk) → Gathers s at until old between → Reaches happenings between.board new.board → new.seat ≡ between.seat → LeasesGoOn old new
  behind s at until happenings old between new gathers reaches seat = leases_further old between new (one_gathered s at until old between gathers) (ran happenings between new reaches seat)

  greeted : (found : Result ℕ Cause) (k : ℕ) (body : List ℕ) (at until : ℕ) (old new : LeaseDesk) (unkept_old unkept_new : List Pending) (end : Option Cause)
      → GreetsAs found k body at until old new unkept_old unkept_new end → LeasesGoOn old new
  greeted (Ok s) k body at until old new unkept_old unkept_new end is = behind s at until (binding s k body at end ∷ []) old is.gathered new is.gathers (new.board, (is.binds, refl)) is.seat
  greeted (Err cause) k body at until old new unkept_old unkept_new end is = happened (ends_unbound k cause) old new (is.ends, is.seat)

  ticked : (s at until : ℕ) (old new : LeaseDesk) (end : Option Cause) → Ticks s at until old new end → LeasesGoOn old new
  ticked s at until old new end is =
      let lapses = lapsing s (state_of (book_at is.gathered.board s).entries).reserved at in
      let rest = ticks s at ∷ ending s (place_at is.lapsed s) end in
      behind s at until (lapses ++ rest) old is.gathered new is.gathers (laws.joins lapses rest is.gathered.board is.lapsed new.board is.lapses is.follows) is.seat

  accepted_as : (answer : Accepted) (at : ℕ) (old new : LeaseDesk) → AcceptsAs answer at old new → LeasesGoOn old new
  accepted_as (accept.New c) at old new is = happened (accepts c at) old new is
  accepted_as accept.Nothing at old new is = subst (LeasesGoOn old) (sym is) (leases_itself old)
  accepted_as accept.Failed at old new is = subst (LeasesGoOn old) (sym is) (leases_itself old)

  dialled_as : (answer : Option Dialled) (s at until : ℕ) (old new : LeaseDesk) (d_old d_new : Dialler) → DialsAs answer s at until old new d_old d_new → LeasesGoOn old new
  dialled_as None s at until old new d_old d_new is = subst (LeasesGoOn old) (sym is.1.0) (leases_itself old)
  dialled_as (Some dial.Failed) s at until old new d_old d_new is = subst (LeasesGoOn old) (sym is.1.0) (leases_itself old)
  dialled_as (Some (dial.New number)) s at until old new d_old d_new is = (let to = is.1.0 in behind s at until (dials s number at ∷ []) old to.gathered new to.gathers (new.board, (to.dials, refl)) to.seat)

  read_moved : (routes : Routes) (k at until : ℕ) (old new : ReadSoFar) → ReadMove routes k at until old new → LeasesGoOn old.desk new.desk
  read_moved routes k at until _ _ (walk.bytes_come bytes old new is) = happened (takes k bytes) old new is
  read_moved routes k at until _ _ (walk.garbled_out size old new next is) = happened (gives k) old new is
  read_moved routes k at until _ _ (walk.body_out body old new next is) = happened (gives k) old new is
  read_moved routes k at until _ _ (walk.heard s body end old new named is) =
      behind s at until (receives s k body at ∷ (answering k end ++ ending s (Some k) end)) old.desk is.gathered new.desk is.gathers is.follows is.seat
  read_moved routes k at until _ _ (walk.greeted body end old new unnamed is) =
      greeted (greeting old.desk.board routes (result_ok (fields_of body))) k body at until old.desk new.desk old.unkept new.unkept end is
  read_moved routes k at until _ _ (walk.none_out old new none is) = happened (gives k) old new is
  read_moved routes k at until _ _ (walk.had_ended desk ended) = leases_itself desk
  read_moved routes k at until _ _ (walk.parted cause old new ends is) = happened (parting (connection_at old.board k).session k cause) old new is

  write_moved : (old new : LeaseDesk) → WriteMove old new → LeasesGoOn old new
  write_moved _ _ (walk.made s k old new is) = happened (prepares s k) old new is
  write_moved _ _ (walk.wrote k n old new is) = happened (writes k n) old new is
  write_moved _ _ (walk.left k stop cause old new ends is) = happened (parting (connection_at old.board k).session k cause) old new is
  write_moved _ _ (walk.stayed old new board seat) = ran [] old new board seat

  pub on_itself : (d : LibraryDesk) → DeskGoesOn d d
  on_itself d = record { board = laws.itself d.desk.board; sides = goes_itself d }

  pub on_further : (first second third : LibraryDesk) → DeskGoesOn first second → DeskGoesOn second third → DeskGoesOn first third
  on_further first second third one two = record {
    board = laws.further first.desk.board second.desk.board third.desk.board one.board two.board;
    sides = goes_further first second third one.sides two.sides;
  }

  -- the steps of a turn
  leases_alone : (old new : Engine) → LeasesGoOn old.sessions.desk new.sessions.desk → new.sessions ≡ record (old.sessions) { desk = new.sessions.desk } → DeskGoesOn old.sessions new.sessions
  leases_alone old new goes rest = record { board = goes.board; sides = desk_alone old.sessions new.sessions goes.table (ap (λ (d : LibraryDesk). d.ends) rest) }

  same_sessions : (old new : Engine) → new.sessions ≡ old.sessions → DeskGoesOn old.sessions new.sessions
  same_sessions old new same = subst (DeskGoesOn old.sessions) (sym same) (on_itself old.sessions)

  one_accepted : (answer : Accepted) (old new : AtWire) → AcceptsNext answer old new → DeskGoesOn old.engine.sessions new.engine.sessions
  one_accepted answer old new (inl asks) = leases_alone old.engine new.engine (accepted_as answer old.engine.moment old.engine.sessions.desk new.engine.sessions.desk asks.accepts) (ap (λ (e : Engine). e.sessions) asks.rest)
  one_accepted answer old new (inr none) = same_sessions old.engine new.engine (ap (λ (a : AtWire). a.engine.sessions) none.1.1)

  one_read : (k : ℕ) (old new : Reading) → ReadsIfStands k old new → DeskGoesOn old.engine.sessions new.engine.sessions
  one_read k old new (inl reads) =
      leases_alone old.engine new.engine
      (walked (ReadMove _ k old.engine.moment (until_of old.engine)) (λ a b. LeasesGoOn a.desk b.desk) (λ a. leases_itself a.desk) (λ a b c. leases_further a.desk b.desk c.desk) (read_moved _ k old.engine.moment (until_of old.engine)) _ _
      (laws.walks.reads reads.answer _ k _ old.engine.moment (until_of old.engine) _ _ reads.reads)) (ap (λ (e : Engine). e.sessions) reads.rest)
  one_read k old new (inr none) = same_sessions old.engine new.engine (ap (λ (r : Reading). r.engine.sessions) none.1)

  one_served : (i : ℕ) (old new : Serving) → ServesOne (i + 1) old new → DeskGoesOn old.engine.sessions new.engine.sessions
  one_served i old new is =
      let library = i + 1 in
      let at = old.engine.moment in
      let until = until_of old.engine in
      let runs = laws.serves library at until old.engine.sessions new.engine.sessions is.turn is.serves in
      record { board = laws.runs runs.happenings old.engine.sessions.desk.board new.engine.sessions.desk.board runs.reaches; sides = served library at until old.engine.sessions new.engine.sessions is.turn is.serves }

  quiet_step : (old new : AtWire) → QuietStep old new → DeskGoesOn old.engine.sessions new.engine.sessions
  quiet_step _ _ (walk.read k door old new is) = one_read k old new is
  quiet_step _ _ (walk.ticked s door links old new is) = leases_alone old new (ticked s old.moment (until_of old) old.sessions.desk new.sessions.desk is.end is.ticks) (ap (λ (e : Engine). e.sessions) is.rest)
  quiet_step _ _ (walk.served i door links old new is) = one_served i old new is
  quiet_step _ _ (walk.noted s door links old new is) = same_sessions old new (ap (λ (e : Engine). e.sessions) is.1)
  quiet_step _ _ (walk.published s door links old new is) = leases_alone old new
      (record { table = ap (λ (v : EngineView). v.table) is.seat; board = subst (GoesOnTo old.sessions.desk.board) (sym is.board) (laws.itself old.sessions.desk.board) }) (ap (λ (e : Engine). e.sessions) is.rest)
  quiet_step _ _ (walk.written door links_old links_new old new bytes is) =
      leases_alone old new (walked WriteMove LeasesGoOn leases_itself leases_further write_moved _ _ (laws.walks.writes _ _ _ _ is.writes)) (ap (λ (e : Engine). e.sessions) is.rest)

  turn_step : (old new : AtWire) → TurnStep old new → DeskGoesOn old.engine.sessions new.engine.sessions
  turn_step _ _ (walk.accepted answer old new is) = one_accepted answer old new is
  turn_step _ _ (walk.dialled s old new is) = leases_alone old.engine new.engine (dialled_as is.answer s _ _ _ _ _ _ is.dials) (ap (λ (e : Engine). e.sessions) is.rest)
  turn_step _ _ (walk.quiet old new is) = quiet_step old new is

  pub made_turn : (reading : ℕ) (old new : AtWire) (turn : Turn) → MakesTurn reading old new turn → DeskGoesOn old.engine.sessions new.engine.sessions
  made_turn reading old new turn is =
      walked TurnStep (λ a b. DeskGoesOn a.engine.sessions b.engine.sessions) (λ a. on_itself a.engine.sessions) (λ a b c. on_further a.engine.sessions b.engine.sessions c.engine.sessions) turn_step _ new
      (laws.walks.turn reading old new turn is)

  pub all_gathered : (at until : ℕ) (old new : LeaseDesk) → GathersAll at until old new → LeasesGoOn old new
  all_gathered at until old new gathers = each_in_turn (λ s. Gathers s at until) LeasesGoOn leases_itself leases_further (λ s. one_gathered s at until) (length old.board.sessions) old new gathers

  -- the engine and a library meet
  met : (place : ℕ) (old new : Run) → Meets place old new → RunGoesOn old new
  met place old new is =
      let one = is.caller in
      let meets = one.changes in
      let rings = meets.rings in
      let board : new.engine.sessions.desk.board ≡ old.engine.sessions.desk.board = ap (λ (e : Engine). e.sessions.desk.board) meets.engine in
      record {
        engine = record {
          board = subst (GoesOnTo old.engine.sessions.desk.board) (sym board) (laws.itself old.engine.sessions.desk.board);
          sides = ends_change old.engine.sessions new.engine.sessions (one.before.number - 1) rings.before rings.after (ap (λ (v : EngineView). v.table) meets.seats.engine) rings.found rings.ends
              (begins_same rings.before.tail.pushed rings.after.tail.pushed (ap (λ t. t.pushed) rings.notices.tail)) (begins_same rings.before.head.popped rings.after.head.popped (ap (λ h. h.popped) rings.commands.head));
        };
        libraries = ap length one.callers ∙ length-set old.callers.items place one.after;
      }

  called : (what : LibStep) (place : ℕ) (old new : Run) → CallsAt what place old new → RunGoesOn old new
  called what place old new is = record {
    engine = subst (λ (e : Engine). DeskGoesOn old.engine.sessions e.sessions) (sym (ap (λ (run : Run). run.engine) is.rest)) (on_itself old.engine.sessions);
    libraries = ap length is.caller.callers ∙ length-set old.callers.items place is.caller.after;
  }

  run_further : (first second third : Run) → RunGoesOn first second → RunGoesOn second third → RunGoesOn first third
  run_further first second third one two = record {
    engine = on_further first.engine.sessions second.engine.sessions third.engine.sessions one.engine two.engine;
    libraries = two.libraries ∙ one.libraries;
  }

  run_itself : (run : Run) → RunGoesOn run run
  run_itself run = record { engine = on_itself run.engine.sessions; libraries = refl }

  untouched : (old new : Run) → new.engine ≡ old.engine → new.callers ≡ old.callers → RunGoesOn old new
  untouched old new engine callers = record {
    engine = subst (λ (e : Engine). DeskGoesOn old.engine.sessions e.sessions) (sym engine) (on_itself old.engine.sessions);
    libraries = ap (λ vec. length vec.items) callers;
  }

  turned : (old new : Run) → TurnsOver old new → RunGoesOn old new
  turned old new is = record {
    engine = made_turn old.clock.moment _ _ is.turn is.turns;
    libraries = ap (λ (run : Run). length run.callers.items) is.rest;
  }

  called_between : (what : LibStep) (place : ℕ) (old new : Run) → CallsBetween what place old new → RunGoesOn old new
  called_between what place old new is =
      run_further old is.met new (met place old is.met is.meets) (run_further is.met is.called new (called what place is.met is.called is.calls) (met place is.called new is.meets_again))

  pub carried : (what : Step) (old new : Run) → Carries what old new → RunGoesOn old new
  carried = each_step RunGoesOn (λ old new is. untouched old new is.engine is.callers)
      (λ old new is. run_further old (with_room old) new (untouched old (with_room old) refl refl) (turned (with_room old) new is)) called_between

  pub carried_out : (steps : List Step) (count : ℕ) (old new : Run) → CarriesOut steps count old new → RunGoesOn old new
  carried_out steps count old new is = each_in_turn (CarriesAt steps) RunGoesOn run_itself run_further (λ i a b at. carried at.what a b at.carries) count old new is
