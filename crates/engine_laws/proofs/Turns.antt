-- A turn is accounted for.
use Rattle.std.proofs.Common.{◌≡◌, inl, inr, ℕ, ◌+◌, ◌≤◌, List, length, refl, sym, ap, subst, ◌∙◌, arith}
use Rattle.engine_laws.specs.Account.{IsAccountedFor, KeepsAccount, all_done}
use Rattle.engine_laws.specs.Turns.{EngineStaysAccountedFor, board_of}
use Rattle.engine_laws.specs.walks.Walks as walk
use Rattle.engine_laws.specs.walks.Walks.{QuietStep, TurnStep}
use Rattle.engine_laws.proofs.Accounting.{AccountLaws, Keeping, StepLaws}
use Rattle.engine_laws.proofs.LibrarySteps.{served}
use Rattle.engine_laws.proofs.Lines.{accepted_as, dialled_as, read, written_in_turn}
use Rattle.engine_laws.proofs.Sessions.{ticked}
use Rattle.engine_laws.proofs.Walking.{each_in_turn, turn_made, turn_taken, turn_walked}
use Rattle.engine_loop.specs.Engines.{until_of}
use Rattle.engine_loop.specs.Turns.{AcceptsNext, AtWire, DialsSession, HandsOut, MakesTurn, NotesSession, PublishesSession, Reading, ReadsIfStands, ServesOne, Serving, TakesTurn, TicksSession, WritesAll, with_moment}
use Rattle.engine_loop.specs.declared.engine.Engine.{Engine}
use Rattle.engine_loop.specs.declared.records.Taken.{Taken}
use Rattle.engine_loop.specs.declared.records.Turn.{Turn}
use Rattle.gate_io.specs.Wire.{Link}
use Rattle.gate_io.specs.declared.wires.Accepted.{Accepted}
use Rattle.lease_core.specs.declared.entry.Entry.{Entry}
use Rattle.lease_core.specs.declared.record.Record.{Record}
use Rattle.lease_desk.specs.Desk.{InTurn}
use Rattle.library_desk.specs.Happening.{RunsFor}
use Rattle.library_desk.specs.Serving.{Serves}
use Rattle.library_desk.specs.declared.desk.LibraryDesk.{LibraryDesk}
use Rattle.library_desk.specs.declared.serving.LibTurn.{LibTurn}
use Rattle.session_core.specs.State.{State}
use Rattle.switchboard.specs.Ready.{IsReady}
use Rattle.wire_desk.specs.Places.{open_places}
use Rattle.wire_desk.specs.Steps.{written_so_far}

-- a step of the engine keeps its moment, and this of the board
pub record EngineKeeps (Keeps : Keeping) (old new : Engine) : Type 0 where
  pub moment : new.moment ≡ old.moment
  pub board : Keeps all_done all_done old.moment (board_of old) (board_of new)

pub stays_accounted_for : (old new : Engine) → EngineKeeps KeepsAccount old new → EngineStaysAccountedFor old new
stays_accounted_for old new keeps = record { moment = keeps.moment; board = keeps.board }

module _ {Keeps : Keeping} (g : StepLaws Keeps) where
  -- nothing happens
  stays : (old new : Engine) → new.moment ≡ old.moment → board_of new ≡ board_of old → EngineKeeps Keeps old new
  stays old new moment same = record { moment = moment; board = subst (λ board. Keeps all_done all_done old.moment (board_of old) board) (sym same) (g.itself all_done old.moment (board_of old)) }

  same_engine : (old new : Engine) → new ≡ old → EngineKeeps Keeps old new
  same_engine old new same = stays old new (ap (λ (e : Engine). e.moment) same) (ap board_of same)

  pub stays_itself : (e : Engine) → EngineKeeps Keeps e e
  stays_itself e = same_engine e e refl

  pub step_further : (first second third : Engine) → EngineKeeps Keeps first second → EngineKeeps Keeps second third → EngineKeeps Keeps first third
  step_further first second third one two = record {
    moment = two.moment ∙ one.moment;
    board = g.further all_done all_done all_done first.moment (board_of first) (board_of second) (board_of third) one.board
        (subst (λ at. Keeps all_done all_done at (board_of second) (board_of third)) one.moment two.board);
  }

  pub engine_in_turn : (Step : ℕ → Engine → Engine → Type 0) (count : ℕ) (old new : Engine) → ((i : ℕ) (before after : Engine) → Step i before after → EngineKeeps Keeps before after)
      → InTurn Step count old new → EngineKeeps Keeps old new
  engine_in_turn Step count old new each steps = each_in_turn Step (EngineKeeps Keeps) stays_itself step_further each count old new steps

  pub next_accepted : (answer : Accepted) (old new : AtWire) → AcceptsNext answer old new → EngineKeeps Keeps old.engine new.engine
  next_accepted answer old new is = elim is [
    | inl asks ↦ record {
      moment = ap (λ (e : Engine). e.moment) asks.rest;
      board = accepted_as g answer old.engine.moment old.engine.sessions.desk new.engine.sessions.desk asks.accepts;
    }
    | inr none ↦ same_engine old.engine new.engine (ap (λ (a : AtWire). a.engine) none.1.1)
  ]

  pub session_dialled : (s : ℕ) (old new : AtWire) → DialsSession s old new → EngineKeeps Keeps old.engine new.engine
  session_dialled s old new is = record {
    moment = ap (λ (e : Engine). e.moment) is.rest;
    board = dialled_as g is.answer s old.engine.moment (until_of old.engine) old.engine.sessions.desk new.engine.sessions.desk old.engine.dialler new.engine.dialler is.dials;
  }

  pub session_ticked : (s : ℕ) (old new : Engine) → TicksSession s old new → EngineKeeps Keeps old new
  session_ticked s old new is =
      record { moment = ap (λ (e : Engine). e.moment) is.rest; board = ticked g s old.moment (until_of old) old.sessions.desk new.sessions.desk is.end is.ticks }

  pub one_read : (k : ℕ) (old new : Reading) → ReadsIfStands k old new → EngineKeeps Keeps old.engine new.engine
  one_read k old new is = elim is [
    | inl reads ↦ record { moment = ap (λ (e : Engine). e.moment) reads.rest; board = read g reads.answer _ k _ old.engine.moment (until_of old.engine) _ _ reads.reads }
    | inr none ↦ same_engine old.engine new.engine (ap (λ (r : Reading). r.engine) none.1)
  ]

  pub session_noted : (s : ℕ) (old new : Engine) → NotesSession s old new → EngineKeeps Keeps old new
  session_noted s old new is = stays old new (ap (λ (e : Engine). e.moment) is.1) (ap board_of is.1)

  pub session_published : (s : ℕ) (old new : Engine) → PublishesSession s old new → EngineKeeps Keeps old new
  session_published s old new is = stays old new (ap (λ (e : Engine). e.moment) is.rest) is.board

  pub all_written : (links_old links_new : ℕ → Link) (old new : Engine) (bytes : ℕ) → WritesAll links_old links_new old new bytes → EngineKeeps Keeps old new
  all_written links_old links_new old new bytes is =
      let places = open_places old.lines in
      record {
        moment = ap (λ (e : Engine). e.moment) is.rest;
        board = written_in_turn g places (length places) old.moment (written_so_far old.sessions.desk old.lines.unkept.items links_old 0)
            (written_so_far new.sessions.desk old.lines.unkept.items links_new bytes) is.writes;
      }

  pub records_handed_out : (old new : Engine) (records : List Record) → HandsOut old new records → EngineKeeps Keeps old new
  records_handed_out old new records is =
      let noted = is.noted in
      step_further old noted new (engine_in_turn NotesSession (length old.sessions.desk.board.sessions) old noted session_noted is.notes)
      (stays noted new (ap (λ (e : Engine). e.moment) is.rest) (ap board_of is.rest))

  module _ (serves : (library at until : ℕ) (old new : LibraryDesk) (turn : LibTurn) → Serves library at until old new turn → RunsFor at old.desk.board new.desk.board) where
    pub one_served : (library : ℕ) (old new : Serving) → ServesOne library old new → EngineKeeps Keeps old.engine new.engine
    one_served library old new is = record {
      moment = ap (λ (e : Engine). e.moment) is.rest;
      board = served g serves library old.engine.moment (until_of old.engine) old.engine.sessions new.engine.sessions is.turn is.serves;
    }

    quiet_step : (old new : AtWire) → QuietStep old new → EngineKeeps Keeps old.engine new.engine
    quiet_step _ _ (walk.read k door old new is) = one_read k old new is
    quiet_step _ _ (walk.ticked s door links old new is) = session_ticked s old new is
    quiet_step _ _ (walk.served i door links old new is) = one_served (i + 1) old new is
    quiet_step _ _ (walk.noted s door links old new is) = session_noted s old new is
    quiet_step _ _ (walk.published s door links old new is) = session_published s old new is
    quiet_step _ _ (walk.written door links_old links_new old new bytes is) = all_written links_old links_new old new bytes is

    step : (old new : AtWire) → TurnStep old new → EngineKeeps Keeps old.engine new.engine
    step _ _ (walk.accepted answer old new is) = next_accepted answer old new is
    step _ _ (walk.dialled s old new is) = session_dialled s old new is
    step _ _ (walk.quiet old new is) = quiet_step old new is

    -- the first half of a turn, from its moment on, and the whole of it
    pub steps_taken : (reading : ℕ) (old new : AtWire) (taken : Taken) → TakesTurn reading old new taken → EngineKeeps Keeps (with_moment reading old.engine) new.engine
    steps_taken reading old new taken is = turn_walked (EngineKeeps Keeps) stays_itself step_further step _ new (turn_taken reading old new taken is)

    steps_made : (reading : ℕ) (old new : AtWire) (turn : Turn) → MakesTurn reading old new turn → EngineKeeps Keeps (with_moment reading old.engine) new.engine
    steps_made reading old new turn is = turn_walked (EngineKeeps Keeps) stays_itself step_further step _ new (turn_made reading old new turn is)

pub accounted_further : AccountLaws → (first second third : Engine) → EngineStaysAccountedFor first second → EngineStaysAccountedFor second third → EngineStaysAccountedFor first third
accounted_further g first second third one two =
    stays_accounted_for first third (step_further g first second third (record { moment = one.moment; board = one.board }) (record { moment = two.moment; board = two.board }))

-- a turn from its moment on
turn_later : (reading : ℕ) (old new : Engine) → EngineKeeps KeepsAccount (with_moment reading old) new → old.moment ≤ new.moment
turn_later reading old new steps = (let moment = steps.moment in omega arith)

turn_accounted : (before : ℕ → List Entry) (start : ℕ → State) (reading : ℕ) (old new : Engine) → EngineKeeps KeepsAccount (with_moment reading old) new → IsReady before (board_of old)
    → IsAccountedFor before start old.moment (board_of old) → IsAccountedFor before start new.moment (board_of new)
turn_accounted before start reading old new steps ready accounted =
    subst (λ at. IsAccountedFor before start at (board_of new)) (sym steps.moment) (steps.board.account before start old.moment (omega arith) ready accounted)

module _ (g : AccountLaws)
    (serves : (library at until : ℕ) (old new : LibraryDesk) (turn : LibTurn) → Serves library at until old new turn → RunsFor at old.desk.board new.desk.board) where
  pub takes_moment : (reading : ℕ) (old new : AtWire) (taken : Taken) → TakesTurn reading old new taken → (new.engine.moment ≡ taken.moment) × (old.engine.moment ≤ new.engine.moment)
  takes_moment reading old new taken is =
      let moment = is.moment in
      let steps = steps_taken g serves reading old new taken is in
      (steps.moment ∙ sym moment, turn_later reading old.engine new.engine steps)

  pub takes_ready : (before : ℕ → List Entry) (reading : ℕ) (old new : AtWire) (taken : Taken) → TakesTurn reading old new taken → IsReady before (board_of old.engine) → IsReady before (board_of new.engine)
  takes_ready before reading old new taken is ready = (steps_taken g serves reading old new taken is).board.ready before ready

  pub takes_account : (before : ℕ → List Entry) (start : ℕ → State) (reading : ℕ) (old new : AtWire) (taken : Taken) → TakesTurn reading old new taken → IsReady before (board_of old.engine)
      → IsAccountedFor before start old.engine.moment (board_of old.engine) → IsAccountedFor before start new.engine.moment (board_of new.engine)
  takes_account before start reading old new taken is = turn_accounted before start reading old.engine new.engine (steps_taken g serves reading old new taken is)

  pub turn_moment : (reading : ℕ) (old new : AtWire) (turn : Turn) → MakesTurn reading old new turn → (new.engine.moment ≡ turn.moment) × (old.engine.moment ≤ new.engine.moment)
  turn_moment reading old new turn is =
      let takes = is.takes in
      let gives = is.gives in
      let steps = steps_made g serves reading old new turn is in
      (steps.moment ∙ sym takes.moment ∙ sym gives.moment, turn_later reading old.engine new.engine steps)

  pub turn_ready : (before : ℕ → List Entry) (reading : ℕ) (old new : AtWire) (turn : Turn) → MakesTurn reading old new turn → IsReady before (board_of old.engine) → IsReady before (board_of new.engine)
  turn_ready before reading old new turn is ready = (steps_made g serves reading old new turn is).board.ready before ready

  pub turn_account : (before : ℕ → List Entry) (start : ℕ → State) (reading : ℕ) (old new : AtWire) (turn : Turn) → MakesTurn reading old new turn → IsReady before (board_of old.engine)
      → IsAccountedFor before start old.engine.moment (board_of old.engine) → IsAccountedFor before start new.engine.moment (board_of new.engine)
  turn_account before start reading old new turn is = turn_accounted before start reading old.engine new.engine (steps_made g serves reading old new turn is)
