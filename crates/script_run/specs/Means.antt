-- What a script means: the run from its beginning over its steps, and what that leaves.
use Rattle.std.specs.Prelude.{◌≡◌, ℕ, ◌+◌, true, List, [], ◌∷◌, length, map, slice_get, Some}
use Rattle.engine_config.specs.declared.config.Config.{Config}
use Rattle.engine_loop.specs.Finishing.{Finishes}
use Rattle.engine_loop.specs.Engines.{until_of}
use Rattle.engine_loop.specs.Starts.{StartsEngineOf}
use Rattle.engine_loop.specs.declared.engine.Engine.{Engine}
use Rattle.engine_loop.specs.LibraryEnds.{LibraryEnds}
use Rattle.gate_io.specs.MemWire.{new_wire}
use Rattle.gate_io.specs.StepClock.{ClockState}
use Rattle.lease_words.specs.Tokens.{new_library_seat}
use Rattle.lease_words.specs.Views.{LibraryView}
use Rattle.library_api.specs.Known.{new_library}
use Rattle.library_calls.specs.Reads.{reads_of}
use Rattle.library_desk.specs.declared.shared.Shared.{Shared}
use Rattle.ring_links.specs.Ends.{new_head, new_tail}
use Rattle.run_report.specs.declared.records.LibReport.{LibReport}
use Rattle.run_report.specs.declared.records.RunRecord.{RunRecord}
use Rattle.script_run.specs.Runs.{CarriesOut, IsCaller}
use Rattle.script_run.specs.declared.callers.Caller.{Caller}
use Rattle.script_run.specs.declared.run.Run.{Run}
use Rattle.script_text.specs.declared.steps.Script.{Script}
use Rattle.script_text.specs.declared.steps.Step.{Step}
use Rattle.script_text.specs.declared.steps.Step.TheVariants as step

-- The moment at which the engine begins: that of the first step that sets the clock, or 0.
abbrev pub first_moment : List Step → ℕ
first_moment [] = 0
first_moment (step.At moment ∷ steps) = moment
first_moment (step.Connect ∷ steps) = first_moment steps
first_moment (step.Take ∷ steps) = first_moment steps
first_moment (step.Bytes c bytes ∷ steps) = first_moment steps
first_moment (step.Frame c body ∷ steps) = first_moment steps
first_moment (step.Finish c ∷ steps) = first_moment steps
first_moment (step.FailRead c ∷ steps) = first_moment steps
first_moment (step.FailWrite c after ∷ steps) = first_moment steps
first_moment (step.Block c after ∷ steps) = first_moment steps
first_moment (step.Unblock c ∷ steps) = first_moment steps
first_moment (step.Turn ∷ steps) = first_moment steps
first_moment (step.Lib library what ∷ steps) = first_moment steps

-- A library as it begins, at its place: it has done nothing.
pub record StartsCaller (asks : ℕ) (shared : Shared) (place : ℕ) (caller : Caller) : Type 0 where
  pub is : IsCaller shared place caller
  pub seat : caller.library.ends.seat ≡ new_library_seat shared.leases (place + 1)
  pub tail : caller.library.ends.tail ≡ new_tail caller.library.ends.tail.ring
  pub head : caller.library.ends.head ≡ new_head caller.library.ends.head.ring
  pub library : caller.library ≡ new_library caller.library.ends asks
  pub calls : caller.calls.items ≡ []

-- one for each two rings
pub record StartsCallers (asks : ℕ) (shared : Shared) (callers : List Caller) : Type 0 where
  pub count : length callers ≡ length shared.commands.items
  pub each : (place : ℕ) (caller : Caller) → slice_get callers place ≡ Some caller → StartsCaller asks shared place caller

-- the libraries of these ends
pub record StartsAll (asks : ℕ) (shared : Shared) (ends : List LibraryEnds) (callers : List Caller) : Type 0 where
  pub count : length callers ≡ length ends
  pub each : (place : ℕ) (caller : Caller) → slice_get callers place ≡ Some caller → StartsCaller asks shared place caller

-- a clock that stands at 0, and wasn't read
abbrev pub first_clock : ClockState
first_clock = record { moment = 0; last = 0; greatest = 0; readings = 0 }

-- A run as it begins: nothing came at the wire, and the clock isn't set.
pub record StartsRun (config : Config) (moment : ℕ) (shared : Shared) (run : Run) : Type 0 where
  pub engine : StartsEngineOf config moment shared run.engine
  pub callers : StartsCallers config.asks shared run.callers.items
  pub wire : run.wire ≡ new_wire
  pub clock : run.clock ≡ first_clock

-- What a run leaves of a library: the calls that it made. `finished` is always true, also where memory was wanting earlier.
abbrev pub report_of : Caller → LibReport
report_of caller = record { number = caller.number; calls = caller.calls.items; reads = reads_of caller.calls.items; finished = true; waited = caller.library.waited }

abbrev pub seat_of : Caller → LibraryView
seat_of caller = caller.library.ends.seat

-- What a run leaves: the engine takes the libraries' seats in and gathers each session once more, and each library has its calls.
pub record Leaves (run : Run) (left : RunRecord) : Type 0 where
  pub engine : Finishes (map seat_of run.callers.items) run.engine.lines.unkept.items run.engine.accepted run.engine.moment (until_of run.engine) run.engine.sessions left.engine
  pub libraries : left.libraries ≡ map report_of run.callers.items

-- From a run on the steps are carried out in order, and that leaves the record.
pub record LeadsTo (steps : List Step) (first : Run) (left : RunRecord) : Type 0 where
  pub last : Run
  pub carries : CarriesOut steps (length steps) first last
  pub leaves : Leaves last left

-- A script means a record: its run begins as it is configured, and its steps lead to the record.
pub record Means (script : Script) (left : RunRecord) : Type 0 where
  pub shared : Shared
  pub first : Run
  pub starts : StartsRun script.config (first_moment script.steps) shared first
  pub leads : LeadsTo script.steps first left
