-- What holds of the desk of libraries before a step of a turn holds behind it, where it stays as the desk of leases goes on and as libraries are served.
use Rattle.std.proofs.Common.{◌≡◌, inl, inr, ℕ, ◌+◌, ◌≤◌, List, length, refl, ap, subst, sym, arith}
use Rattle.engine_end.specs.Finishing.{GathersAll}
use Rattle.engine_loop.specs.Engines.{until_of}
use Rattle.engine_laws.proofs.Walking.{each_in_turn, turn_made as makes, turn_taken as takes, turn_walked}
use Rattle.engine_laws.specs.walks.Walks as walk
use Rattle.engine_laws.specs.walks.Walks.{QuietStep, TurnStep}
use Rattle.engine_loop.specs.Turns.{AcceptsNext, AtWire, DialsSession, HandsOut, MakesTurn, NotesSession, PublishesSession, Reading, ReadsIfStands, ServesOne, Serving, TakesTurn, TicksSession, WritesAll}
use Rattle.engine_loop.specs.declared.engine.Engine.{Engine}
use Rattle.engine_loop.specs.declared.records.Taken.{Taken}
use Rattle.engine_loop.specs.declared.records.Turn.{Turn}
use Rattle.gate_io.specs.Wire.{Link}
use Rattle.gate_io.specs.declared.wires.Accepted.{Accepted}
use Rattle.lease_core.specs.declared.record.Record.{Record}
use Rattle.lease_desk.specs.declared.desk.LeaseDesk.{LeaseDesk}
use Rattle.library_desk.specs.Serving.{Serves}
use Rattle.library_desk.specs.declared.desk.LibraryDesk.{LibraryDesk}
use Rattle.library_desk.specs.declared.serving.LibTurn.{LibTurn}
use Rattle.engine_laws.proofs.library_lemmas.Steps.{IsKept, accepted_as, dialled_as, gathered_in_turn, read, ticked, written_in_turn}
use Rattle.switchboard.specs.Board.{book_at}
use Rattle.wire_desk.specs.Places.{open_places}
use Rattle.wire_desk.specs.Steps.{written_so_far}

module _ (Holds : LibraryDesk → Type 0) (R : LeaseDesk → LeaseDesk → Type 0) (goes_on : (old new : LibraryDesk) → R old.desk new.desk → new ≡ record old { desk = new.desk } → Holds old → Holds new) where
  -- what was so of the one engine is so of the other
  abbrev Stays : Engine → Engine → Type 0
  Stays old new = Holds old.sessions → Holds new.sessions

  stays_itself : (e : Engine) → Stays e e
  stays_itself e holds = holds

  step_further : (first second third : Engine) → Stays first second → Stays second third → Stays first third
  step_further first second third one two holds = two (one holds)

  same_sessions : (old new : Engine) → new.sessions ≡ old.sessions → Stays old new
  same_sessions old new same holds = subst Holds (sym same) holds

  -- the desk of leases alone changes
  desk_alone : (old new : Engine) → R old.sessions.desk new.sessions.desk → new.sessions ≡ record (old.sessions) { desk = new.sessions.desk } → Stays old new
  desk_alone old new goes rest = goes_on old.sessions new.sessions goes rest

  session_noted : (s : ℕ) (old new : Engine) → NotesSession s old new → Stays old new
  session_noted s old new is = same_sessions old new (ap (λ (e : Engine). e.sessions) is.1)

  pub records_handed_out : (old new : Engine) (records : List Record) → HandsOut old new records → Stays old new
  records_handed_out old new records is =
      step_further old is.noted new (each_in_turn NotesSession Stays stays_itself step_further session_noted (length old.sessions.desk.board.sessions) old is.noted is.notes)
      (same_sessions is.noted new (ap (λ (e : Engine). e.sessions) is.rest))

  module _ (g : IsKept R) where
    next_accepted : (answer : Accepted) (old new : AtWire) → AcceptsNext answer old new → Stays old.engine new.engine
    next_accepted answer old new is = elim is [
      | inl asks ↦ desk_alone old.engine new.engine (accepted_as R g answer old.engine.moment old.engine.sessions.desk new.engine.sessions.desk asks.accepts) (ap (λ (e : Engine). e.sessions) asks.rest)
      | inr none ↦ same_sessions old.engine new.engine (ap (λ (a : AtWire). a.engine.sessions) none.1.1)
    ]

    session_dialled : (s : ℕ) (old new : AtWire) → DialsSession s old new → Stays old.engine new.engine
    session_dialled s old new is = desk_alone old.engine new.engine
        (dialled_as R g is.answer s old.engine.moment (until_of old.engine) old.engine.sessions.desk new.engine.sessions.desk old.engine.dialler new.engine.dialler is.dials) (ap (λ (e : Engine). e.sessions) is.rest)

    session_ticked : (s : ℕ) (old new : Engine) → TicksSession s old new → Stays old new
    session_ticked s old new is = desk_alone old new (ticked R g s old.moment (until_of old) old.sessions.desk new.sessions.desk is.end is.ticks) (ap (λ (e : Engine). e.sessions) is.rest)

    one_read : (k : ℕ) (old new : Reading) → ReadsIfStands k old new → Stays old.engine new.engine
    one_read k old new is = elim is [
      | inl reads ↦ desk_alone old.engine new.engine (read R g reads.answer _ k _ old.engine.moment (until_of old.engine) _ _ reads.reads) (ap (λ (e : Engine). e.sessions) reads.rest)
      | inr none ↦ same_sessions old.engine new.engine (ap (λ (r : Reading). r.engine.sessions) none.1)
    ]

    session_published : (s : ℕ) (old new : Engine) → PublishesSession s old new → Stays old new
    session_published s old new is = desk_alone old new (g.publishes s (length (book_at old.sessions.desk.board s).inbound) old.sessions.desk new.sessions.desk is.board is.seat) (ap (λ (e : Engine). e.sessions) is.rest)

    all_written : (links_old links_new : ℕ → Link) (old new : Engine) (bytes : ℕ) → WritesAll links_old links_new old new bytes → Stays old new
    all_written links_old links_new old new bytes is =
        let places = open_places old.lines in
        desk_alone old new (written_in_turn R g places (length places) (written_so_far old.sessions.desk old.lines.unkept.items links_old 0)
        (written_so_far new.sessions.desk old.lines.unkept.items links_new bytes) is.writes) (ap (λ (e : Engine). e.sessions) is.rest)

    -- each session is gathered, one after another
    pub all_gathered : (at until : ℕ) (old : LibraryDesk) (gathered : LeaseDesk) → GathersAll at until old.desk gathered → Holds old → Holds (record old { desk = gathered })
    all_gathered at until old gathered gathers holds =
        goes_on old (record old { desk = gathered }) (gathered_in_turn R g at until old.desk gathered gathers) refl holds

    module _ (serves : (library at until : ℕ) (old new : LibraryDesk) (turn : LibTurn) → 1 ≤ library → Serves library at until old new turn → Holds old → Holds new) where
      one_served : (i : ℕ) (old new : Serving) → ServesOne (i + 1) old new → Stays old.engine new.engine
      one_served i old new is = serves (i + 1) old.engine.moment (until_of old.engine) old.engine.sessions new.engine.sessions is.turn (omega arith) is.serves

      quiet_step : (old new : AtWire) → QuietStep old new → Stays old.engine new.engine
      quiet_step _ _ (walk.read k door old new is) = one_read k old new is
      quiet_step _ _ (walk.ticked s door links old new is) = session_ticked s old new is
      quiet_step _ _ (walk.served i door links old new is) = one_served i old new is
      quiet_step _ _ (walk.noted s door links old new is) = session_noted s old new is
      quiet_step _ _ (walk.published s door links old new is) = session_published s old new is
      quiet_step _ _ (walk.written door links_old links_new old new bytes is) = all_written links_old links_new old new bytes is

      step : (old new : AtWire) → TurnStep old new → Stays old.engine new.engine
      step _ _ (walk.accepted answer old new is) = next_accepted answer old new is
      step _ _ (walk.dialled s old new is) = session_dialled s old new is
      step _ _ (walk.quiet old new is) = quiet_step old new is

      pub turn_taken : (reading : ℕ) (old new : AtWire) (taken : Taken) → TakesTurn reading old new taken → Stays old.engine new.engine
      turn_taken reading old new taken is = turn_walked Stays stays_itself step_further step _ new (takes reading old new taken is)

      pub turn_made : (reading : ℕ) (old new : AtWire) (turn : Turn) → MakesTurn reading old new turn → Stays old.engine new.engine
      turn_made reading old new turn is = turn_walked Stays stays_itself step_further step _ new (makes reading old new turn is)
