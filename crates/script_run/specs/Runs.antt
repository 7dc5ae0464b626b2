-- A run between two lines of a script, and what a line does.
use Rattle.std.specs.Prelude.{◌≡◌, ℕ, ◌+◌, ◌-◌, false, List, [], length, slice_get, slice_set, Some}
use Rattle.engine_loop.specs.Meeting.{RingsMeet, SeatsMeet}
use Rattle.engine_loop.specs.Engines.{IsAtWork, IsEngine, IsOnline}
use Rattle.engine_loop.specs.Turns.{MakesTurn, at_wire}
use Rattle.engine_loop.specs.declared.engine.Engine.{Engine}
use Rattle.engine_loop.specs.declared.records.Turn.{Turn}
use Rattle.gate_io.specs.MemWire.{door_of, link_at, wire_reserved}
use Rattle.gate_io.specs.StepClock.{clock_after}
use Rattle.lease_desk.specs.Desk.{InTurn}
use Rattle.library_desk.specs.declared.shared.Shared.{Shared}
use Rattle.script_run.specs.Calls.{CallsAs}
use Rattle.script_run.specs.Comes.{ComesAs}
use Rattle.script_run.specs.declared.callers.Caller.{Caller}
use Rattle.script_run.specs.declared.coming.TheConstants.{ROOM}
use Rattle.script_run.specs.declared.run.Run.{Run}
use Rattle.script_text.specs.declared.steps.LibStep.{LibStep}
use Rattle.script_text.specs.declared.steps.Step.{Step}
use Rattle.script_text.specs.declared.steps.Step.TheVariants as step

-- a library's seat belongs to the table, and its ends to the rings at its place
pub record IsCaller (shared : Shared) (place : ℕ) (caller : Caller) : Type 0 where
  pub number : caller.number ≡ place + 1
  pub table : caller.library.ends.seat.table ≡ shared.leases
  pub commands : slice_get shared.commands.items place ≡ Some caller.library.ends.tail.ring
  pub notices : slice_get shared.notices.items place ≡ Some caller.library.ends.head.ring

-- one for each two rings
pub record AreCallers (shared : Shared) (callers : List Caller) : Type 0 where
  pub commands : length callers ≡ length shared.commands.items
  pub notices : length callers ≡ length shared.notices.items
  pub each : (place : ℕ) (caller : Caller) → slice_get callers place ≡ Some caller → IsCaller shared place caller

-- The engine is over its wire, and the libraries are at their table and rings.
pub record IsRunning (shared : Shared) (run : Run) : Type 0 where
  pub engine : IsEngine shared run.engine (door_of run.wire) (link_at run.wire)
  pub callers : AreCallers shared run.callers.items

-- The engine and a library meet: at the table, and at both its rings.
pub record MeetsCaller (engine_old engine_new : Engine) (old new : Caller) : Type 0 where
  pub seats : SeatsMeet engine_old.sessions.desk.seat engine_new.sessions.desk.seat old.library.ends.seat new.library.ends.seat
  pub rings : RingsMeet old.number engine_old.sessions engine_new.sessions old.library.ends.tail new.library.ends.tail old.library.ends.head new.library.ends.head
  pub engine : engine_new ≡ record engine_old { sessions = record (engine_old.sessions) { desk = record (engine_old.sessions.desk) { seat = engine_new.sessions.desk.seat }; ends = engine_new.sessions.ends } }
  pub caller : new ≡ record old { library = record (old.library) { ends = new.library.ends } }

-- The library at a place changes so.
pub record ChangesCaller (Changes : Caller → Caller → Type 0) (place : ℕ) (old new : Run) : Type 0 where
  pub before : Caller
  pub after : Caller
  pub found : slice_get old.callers.items place ≡ Some before
  pub changes : Changes before after
  pub callers : new.callers.items ≡ slice_set old.callers.items place after

-- The engine and the library at a place meet.
pub record Meets (place : ℕ) (old new : Run) : Type 0 where
  pub caller : ChangesCaller (MeetsCaller old.engine new.engine) place old new
  pub rest : new ≡ record old { engine = new.engine; callers = new.callers }

-- The library at a place makes the call that a step is.
pub record CallsAt (what : LibStep) (place : ℕ) (old new : Run) : Type 0 where
  pub caller : ChangesCaller (CallsAs what) place old new
  pub rest : new ≡ record old { callers = new.callers }

-- A library calls, and meets the engine before and behind the call: so each of both knows all that the other did.
pub record CallsBetween (what : LibStep) (place : ℕ) (old new : Run) : Type 0 where
  pub met : Run
  pub called : Run
  pub meets : Meets place old met
  pub calls : CallsAt what place met called
  pub meets_again : Meets place called new

-- The engine, which is at work over its wire, makes a turn at the clock's moment.
pub record TurnsOver (old new : Run) : Type 0 where
  pub shared : Shared
  pub work : IsAtWork shared old.engine
  pub online : IsOnline old.engine (door_of old.wire) (link_at old.wire)
  pub turn : Turn
  pub turns : MakesTurn old.clock.moment (at_wire old.engine (door_of old.wire) (link_at old.wire)) (at_wire new.engine (door_of new.wire) (link_at new.wire)) turn
  pub clock : new.clock ≡ clock_after old.clock
  pub rest : new ≡ record old { engine = new.engine; wire = new.wire; clock = new.clock }

-- with this room for what is written to each connection that isn't closed
abbrev pub with_room : Run → Run
with_room run = record run { wire = wire_reserved ROOM run.wire }

-- something comes at the wire
pub record ComesAtWire (what : Step) (old new : Run) : Type 0 where
  pub comes : ComesAs what old.wire new.wire
  pub rest : new ≡ record old { wire = new.wire }

-- What a step of a script does.
abbrev pub Carries : Step → Run → Run → Type 0
Carries (step.At moment) old new = new ≡ record old { clock = record (old.clock) { moment = moment } }
Carries step.Turn old new = TurnsOver (with_room old) new
Carries (step.Lib library what) old new = CallsBetween what (library - 1) old new
Carries step.Connect old new = ComesAtWire step.Connect old new
Carries step.Take old new = ComesAtWire step.Take old new
Carries (step.Bytes c bytes) old new = ComesAtWire (step.Bytes c bytes) old new
Carries (step.Frame c body) old new = ComesAtWire (step.Frame c body) old new
Carries (step.Finish c) old new = ComesAtWire (step.Finish c) old new
Carries (step.FailRead c) old new = ComesAtWire (step.FailRead c) old new
Carries (step.FailWrite c after) old new = ComesAtWire (step.FailWrite c after) old new
Carries (step.Block c after) old new = ComesAtWire (step.Block c after) old new
Carries (step.Unblock c) old new = ComesAtWire (step.Unblock c) old new

-- the step at a place is carried out
pub record CarriesAt (steps : List Step) (i : ℕ) (old new : Run) : Type 0 where
  pub what : Step
  pub is : slice_get steps i ≡ Some what
  pub carries : Carries what old new

-- the first steps of a script are carried out, in their order
abbrev pub CarriesOut : List Step → ℕ → Run → Run → Type 0
CarriesOut steps count old new = InTurn (CarriesAt steps) count old new
