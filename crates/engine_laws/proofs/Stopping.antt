-- Where a step of a turn stops for want of memory, by what is known of the happening in which it does.
use Rattle.std.proofs.Common.{inl, inr, ℕ, ◌+◌, List, [], length, Option, None, Some, ap, subst}
use Rattle.std.specs.Prelude.{◌⊎◌, slice_index_or}
use Rattle.engine_laws.specs.Account.{Progress, all_done, cutting, handling, only}
use Rattle.engine_laws.specs.Turns.{board_of}
use Rattle.engine_laws.proofs.Accounting.{Keeping, StepLaws}
use Rattle.engine_laws.proofs.Walking.{each_in_turn}
use Rattle.engine_laws.proofs.LibrarySteps.{answered, expired, some_taken_back}
use Rattle.engine_laws.proofs.Lines.{read_as, some_handled, written_in_turn}
use Rattle.engine_laws.proofs.Sessions.{bound_by, gathered, itself, lapsed}
use Rattle.engine_laws.proofs.Turns.{EngineKeeps, engine_in_turn, next_accepted, one_read, one_served, session_dialled, session_published, session_ticked, stays_itself, step_further, steps_taken}
use Rattle.engine_loop.specs.Engines.{until_of}
use Rattle.engine_loop.specs.Stops.{StopsBehindAccepting, StopsBehindReads, StopsBehindDials, StopsBehindServing, StopsBehindTaking, StopsBehindTicks, StopsCallingAll, StopsGiving, StopsReadingAll, StopsReadingBehind, StopsServingAll, StopsServingBehind, StopsTaking, StopsTickingAll, StopsTickingBehind, StopsTurn}
use Rattle.engine_loop.specs.Turns.{AtWire, DialsSession, PublishesSession, Reading, ReadsIfStands, ServesOne, Serving, TicksSession, at_wire, reading_of, serving_of, with_moment}
use Rattle.engine_loop.specs.declared.engine.Engine.{Engine}
use Rattle.gate_io.specs.Wire.{Link}
use Rattle.gate_io.specs.declared.wires.TheConstants.{FIRST_DIALLED}
use Rattle.lease_core.specs.State.{state_of}
use Rattle.lease_desk.specs.Desk.{InTurn, TakesBackSome}
use Rattle.lease_desk.specs.declared.desk.LeaseDesk.{LeaseDesk}
use Rattle.library_desk.specs.Happening.{RunsFor}
use Rattle.library_desk.specs.Serving.{Serves}
use Rattle.library_desk.specs.Stops.{StopsBehindAnswer, StopsBehindExpiry, StopsServing}
use Rattle.library_desk.specs.declared.desk.LibraryDesk.{LibraryDesk}
use Rattle.library_desk.specs.declared.serving.LibTurn.{LibTurn}
use Rattle.session_core.specs.declared.causes.Cause.{Cause}
use Rattle.session_desk.specs.Steps.{binding, lapsing}
use Rattle.session_desk.specs.Stops.{BehindGathering, HappensLast, StopsBinding, StopsDialling, StopsGreeting, StopsHearing, StopsTicking}
use Rattle.session_desk.specs.declared.routes.Routes.{Routes}
use Rattle.switchboard.specs.Board.{Board, book_at, connection_at}
use Rattle.switchboard.specs.Brought.{good_bodies}
use Rattle.switchboard.specs.Happenings.{Reaches, binds, dials, receives, ticks}
use Rattle.switchboard.specs.Stops.{NothingIsTold, StopsIn}
use Rattle.wire_desk.specs.Places.{open_places}
use Rattle.wire_desk.specs.Steps.{Sessions, WrittenSoFar, sessions_of, written_so_far}
use Rattle.wire_desk.specs.Stops.{StopsBehindBytes, StopsBehindGot, StopsBehindPiece, StopsCalling, StopsInBody, StopsInPiece, StopsInPieces, StopsReading, StopsWriting}

-- what a stop at a moment leaves of a board, where the connections had come so far
abbrev pub Leaving : Type 1
Leaving = (ℕ → Progress) → ℕ → Board → Board → Type 0

-- what is known of steps, of a stop behind them, and of those in one happening
pub record StopLaws (Keeps : Keeping) (Leaves : Leaving) : Type 0 where
  pub steps : StepLaws Keeps
  pub serves : (library at until : ℕ) (old new : LibraryDesk) (turn : LibTurn) → Serves library at until old new turn → RunsFor at old.desk.board new.desk.board
  pub further : (one two : ℕ → Progress) (at : ℕ) (first second third : Board) → Keeps one two at first second → Leaves two at second third → Leaves one at first third
  pub nothing : (progress : ℕ → Progress) (at : ℕ) (old new : Board) → NothingIsTold old new → Leaves progress at old new
  pub receives : (s k : ℕ) (body : List ℕ) (at : ℕ) (old new : Board) → StopsIn (receives s k body at) old new → Leaves (only k (handling body)) at old new
  pub binds : (s k : ℕ) (body : List ℕ) (at : ℕ) (old new : Board) → StopsIn (binds s k body at) old new → Leaves (only k (handling body)) at old new
  pub dials : (progress : ℕ → Progress) (s number at : ℕ) (old new : Board) → StopsIn (dials s number at) old new → Leaves progress at old new
  pub ticks : (progress : ℕ → Progress) (s at : ℕ) (old new : Board) → StopsIn (ticks s at) old new → Leaves progress at old new

-- what it leaves of an engine, at its moment, where each connection was done
abbrev pub EngineLeaves : Leaving → Engine → Engine → Type 0
EngineLeaves Leaves old new = Leaves all_done old.moment (board_of old) (board_of new)

module _ {Keeps : Keeping} {Leaves : Leaving} (g : StopLaws Keeps Leaves) where
  -- a session that is gathered before
  behind_gathering : (progress : ℕ → Progress) (s at until : ℕ) (P : LeaseDesk → Type 0) (old : LeaseDesk) (new : Board) → ((between : LeaseDesk) → P between → Leaves progress at between.board new)
      → BehindGathering s at until P old → Leaves progress at old.board new
  behind_gathering progress s at until P old new stops is =
      g.further progress progress at old.board is.0.board new (gathered g.steps progress s at until old is.0 is.1.0) (stops is.0 is.1.1)

  pub hearing_stopped : (s k : ℕ) (body : List ℕ) (at until : ℕ) (old new : LeaseDesk) → StopsHearing s k body at until old new → Leaves (only k (handling body)) at old.board new.board
  hearing_stopped s k body at until old new is = elim is [
    | inl nothing ↦ g.nothing (only k (handling body)) at old.board new.board nothing
    | inr behind ↦ behind_gathering (only k (handling body)) s at until (λ between. StopsIn (receives s k body at) between.board new.board) old new.board
        (λ between stops. g.receives s k body at between.board new.board stops) behind
  ]

  pub ticking_stopped : (progress : ℕ → Progress) (s at until : ℕ) (old new : LeaseDesk) → StopsTicking s at until old new → Leaves progress at old.board new.board
  ticking_stopped progress s at until old new is = elim is [
    | inl nothing ↦ g.nothing progress at old.board new.board nothing
    | inr behind ↦ behind_gathering progress s at until
        (λ between. NothingIsTold between.board new.board
        ⊎ ((lapsed : Board) × (Reaches (lapsing s (state_of (book_at between.board s).entries).reserved at) between.board lapsed × StopsIn (ticks s at) lapsed new.board)))
        old new.board
        (λ between stops. elim stops [
          | inl nothing ↦ g.nothing progress at between.board new.board nothing
          | inr hears ↦ g.further progress progress at between.board hears.0 new.board
              (lapsed g.steps progress s (state_of (book_at between.board s).entries).reserved at between.board hears.0 hears.1.0) (g.ticks progress s at hears.0 new.board hears.1.1)
        ]) behind
  ]

  pub dialling_stopped : (progress : ℕ → Progress) (s number at until : ℕ) (old new : LeaseDesk) → StopsDialling s number at until old new → Leaves progress at old.board new.board
  dialling_stopped progress s number at until old new is = elim is [
    | inl nothing ↦ g.nothing progress at old.board new.board nothing
    | inr behind ↦ behind_gathering progress s at until (λ between. StopsIn (dials s number at) between.board new.board) old new.board
        (λ between stops. g.dials progress s number at between.board new.board stops) behind
  ]

  pub binding_stopped : (s k : ℕ) (body : List ℕ) (at until : ℕ) (old new : LeaseDesk) → StopsBinding s k body at until old new → Leaves (only k (handling body)) at old.board new.board
  binding_stopped s k body at until old new is = elim is [
    | inl nothing ↦ g.nothing (only k (handling body)) at old.board new.board nothing
    | inr behind ↦ behind_gathering (only k (handling body)) s at until
        (λ between. StopsIn (binds s k body at) between.board new.board ⊎ ((end : Option Cause) × HappensLast (binding s k body at end) between.board new.board)) old new.board
        (λ between stops. elim stops [
          | inl begun ↦ g.binds s k body at between.board new.board begun
          | inr whole ↦ g.further (only k (handling body)) (only k cutting) at between.board whole.1.0 new.board (bound_by g.steps s k body at whole.0 between.board whole.1.0 whole.1.1.0)
              (g.nothing (only k cutting) at whole.1.0 new.board whole.1.1.1)
        ]) behind
  ]

  pub greeting_stopped : (k : ℕ) (body : List ℕ) (at until : ℕ) (old new : LeaseDesk) → StopsGreeting k body at until old new → Leaves (only k (handling body)) at old.board new.board
  greeting_stopped k body at until old new is = elim is [
    | inl nothing ↦ g.nothing (only k (handling body)) at old.board new.board nothing
    | inr bind ↦ binding_stopped bind.0 k body at until old new bind.1
  ]

  -- the message in hand
  body_stopped : (session : Option ℕ) (k : ℕ) (body : List ℕ) (at until : ℕ) (old new : LeaseDesk) → StopsInBody session k body at until old new → Leaves (only k (handling body)) at old.board new.board
  body_stopped (Some s) k body at until old new is = hearing_stopped s k body at until old new is
  body_stopped None k body at until old new is = greeting_stopped k body at until old new is

  piece_stopped : (k at until : ℕ) (old new : LeaseDesk) → StopsInPiece k at until old new → Leaves (only k cutting) at old.board new.board
  piece_stopped k at until old new is = elim is [
    | inl nothing ↦ g.nothing (only k cutting) at old.board new.board nothing
    | inr behind ↦ one_given behind
  ] where
    one_given : StopsBehindPiece k at until old new → Leaves (only k cutting) at old.board new.board
    one_given is =
        let given = is.given in
        g.further (only k cutting) (only k (handling is.body)) at old.board given.board new.board (g.steps.gives_one k at is.body old.board given.board is.gives (ap good_bodies is.is_next))
        (body_stopped (connection_at old.board k).session k is.body at until given new is.stops)

  pieces_stopped : (routes : Routes) (k at until : ℕ) (old : Sessions) (new : LeaseDesk) → StopsInPieces routes k at until old new → Leaves (only k cutting) at old.desk.board new.board
  pieces_stopped routes k at until old new is =
      let between = is.between in
      g.further (only k cutting) (only k cutting) at old.desk.board between.desk.board new.board (some_handled g.steps routes k at until is.count old between is.handles)
      (piece_stopped k at until between.desk new is.stops)

  bytes_stopped : (routes : Routes) (k at until : ℕ) (old : Sessions) (new : LeaseDesk) → StopsBehindBytes routes k at until old new → Leaves all_done at old.desk.board new.board
  bytes_stopped routes k at until old new is =
      let taken = is.taken in
      g.further all_done (only k cutting) at old.desk.board taken.board new.board (g.steps.takes k is.bytes at old.desk.board taken.board is.takes)
      (pieces_stopped routes k at until (sessions_of taken old.unkept) new is.stops)

  got_stopped : (routes : Routes) (k at until : ℕ) (old : Sessions) (new : LeaseDesk) → StopsBehindGot routes k at until old new → Leaves all_done at old.desk.board new.board
  got_stopped routes k at until old new is =
      let between = is.between in
      g.further all_done all_done at old.desk.board between.desk.board new.board (read_as g.steps is.got routes k is.buffer at until old between is.reads)
      (g.nothing all_done at between.desk.board new.board is.stops)

  pub reading_stopped : (routes : Routes) (k at until : ℕ) (old : Sessions) (new : LeaseDesk) → StopsReading routes k at until old new → Leaves all_done at old.desk.board new.board
  reading_stopped routes k at until old new is = elim is [
    | inl nothing ↦ g.nothing all_done at old.desk.board new.board nothing
    | inr behind ↦ elim behind [
      | inl bytes ↦ bytes_stopped routes k at until old new bytes
      | inr got ↦ got_stopped routes k at until old new got
    ]
  ]

  pub calling_stopped : (progress : ℕ → Progress) (dialled s at until : ℕ) (old new : LeaseDesk) → StopsCalling dialled s at until old new → Leaves progress at old.board new.board
  calling_stopped progress dialled s at until old new is = elim is [
    | inl nothing ↦ g.nothing progress at old.board new.board nothing
    | inr dial ↦ dialling_stopped progress s (FIRST_DIALLED + dialled) at until old new dial
  ]

  pub writing_stopped : (places : List ℕ) (at : ℕ) (old : WrittenSoFar) (new : LeaseDesk) → StopsWriting places old new → Leaves all_done at old.sessions.desk.board new.board
  writing_stopped places at old new is =
      let between = is.between in
      g.further all_done all_done at old.sessions.desk.board between.sessions.desk.board new.board (written_in_turn g.steps places is.count at old between is.writes)
      (g.nothing all_done at between.sessions.desk.board new.board is.stops)

  pub taking_back_stopped : (library at until : ℕ) (old new : LeaseDesk) → TakesBackSome library at until old new → Leaves all_done at old.board new.board
  taking_back_stopped library at until old new is =
      let between = is.between in
      g.further all_done all_done at old.board between.board new.board (some_taken_back g.steps library at until is.count old between is.taken_back)
      (g.nothing all_done at between.board new.board is.stops)

  answer_stopped : (library at : ℕ) (old new : LibraryDesk) → StopsBehindAnswer library old new → Leaves all_done at old.desk.board new.desk.board
  answer_stopped library at old new is =
      let behind = is.answered in
      g.further all_done all_done at old.desk.board behind.desk.board new.desk.board (answered g.steps library at is.turn old behind is.answers)
      (g.nothing all_done at behind.desk.board new.desk.board is.stops)

  expiry_stopped : (library at until beat : ℕ) (old heard new : LibraryDesk) → StopsBehindExpiry library at until beat old heard new → Leaves all_done at heard.desk.board new.desk.board
  expiry_stopped library at until beat old heard new is =
      let behind = is.expired in
      g.further all_done all_done at heard.desk.board behind.desk.board new.desk.board (expired g.steps library at until beat old heard behind is.expires)
      (elim is.stops [
        | inl nothing ↦ g.nothing all_done at behind.desk.board new.desk.board nothing
        | inr answer ↦ answer_stopped library at behind new answer
      ])

  pub serving_stopped : (library at until : ℕ) (old new : LibraryDesk) → StopsServing library at until old new → Leaves all_done at old.desk.board new.desk.board
  serving_stopped library at until old new is =
      let heard = is.heard in
      let hears = is.hears in
      g.further all_done all_done at old.desk.board heard.desk.board new.desk.board (itself g.steps all_done at old.desk.board heard.desk.board (ap (λ (d : LibraryDesk). d.desk.board) hears.rest))
      (elim is.stops [
        | inl some ↦ taking_back_stopped library at until heard.desk new.desk some
        | inr expiry ↦ expiry_stopped library at until is.beat old heard new expiry
      ])

  engine_further : (first second third : Engine) → EngineKeeps Keeps first second → EngineLeaves Leaves second third → EngineLeaves Leaves first third
  engine_further first second third keeps leaves =
      g.further all_done all_done first.moment (board_of first) (board_of second) (board_of third) keeps.board
      (subst (λ at. Leaves all_done at (board_of second) (board_of third)) keeps.moment leaves)

  untold : (old new : Engine) → NothingIsTold (board_of old) (board_of new) → EngineLeaves Leaves old new
  untold old new nothing = g.nothing all_done old.moment (board_of old) (board_of new) nothing

  -- so many libraries are served
  some_served : (count : ℕ) (old new : Serving) → InTurn (λ i. ServesOne (i + 1)) count old new → EngineKeeps Keeps old.engine new.engine
  some_served count old new steps =
      each_in_turn (λ i. ServesOne (i + 1)) (λ (a b : Serving). EngineKeeps Keeps a.engine b.engine) (λ a. stays_itself g.steps a.engine) (λ a b c. step_further g.steps a.engine b.engine c.engine)
      (λ i a b. one_served g.steps g.serves (i + 1) a b) count old new steps

  served_stopped : (served old new : Engine) (turns : List LibTurn) → StopsBehindServing served turns old new → EngineLeaves Leaves old new
  served_stopped served old new turns is =
      engine_further old served new (some_served (length old.sessions.ends.items) (serving_of old []) (serving_of served turns) is.serves) (untold served new is.stops)

  serving_all_stopped : (old new : Engine) → StopsServingAll old new → EngineLeaves Leaves old new
  serving_all_stopped old new is =
      let between = is.between in
      engine_further old between.engine new (some_served is.count (serving_of old []) between is.serves) (elim is.stops [
        | inl nothing ↦ untold between.engine new nothing
        | inr stops ↦ serving_stopped (is.count + 1) between.engine.moment (until_of between.engine) between.engine.sessions new.sessions stops
      ])

  behind_ticks : (old new : Engine) → StopsBehindTicks old new → EngineLeaves Leaves old new
  behind_ticks old new is = elim is [
    | inl stops ↦ serving_all_stopped old new stops
    | inr behind ↦ served_stopped behind.0 old new behind.1.0 behind.1.1
  ]

  ticking_all_stopped : (old new : Engine) → StopsTickingAll old new → EngineLeaves Leaves old new
  ticking_all_stopped old new is =
      let between = is.between in
      engine_further old between new (engine_in_turn g.steps TicksSession is.count old between (session_ticked g.steps) is.ticks)
      (ticking_stopped all_done is.count between.moment (until_of between) between.sessions.desk new.sessions.desk is.stops)

  behind_reads : (old new : Engine) → StopsBehindReads old new → EngineLeaves Leaves old new
  behind_reads old new is = elim is [
    | inl stops ↦ ticking_all_stopped old new stops
    | inr behind ↦ all_ticked behind
  ] where
    all_ticked : StopsServingBehind old new → EngineLeaves Leaves old new
    all_ticked is =
        engine_further old is.ticked new (engine_in_turn g.steps TicksSession (length old.sessions.desk.board.sessions) old is.ticked (session_ticked g.steps) is.ticks)
        (behind_ticks is.ticked new is.stops)

  -- so many connections are read
  some_read : (places : List ℕ) (count : ℕ) (old new : Reading) → InTurn (λ i. ReadsIfStands (slice_index_or places i 0)) count old new → EngineKeeps Keeps old.engine new.engine
  some_read places count old new steps =
      each_in_turn (λ i. ReadsIfStands (slice_index_or places i 0)) (λ (a b : Reading). EngineKeeps Keeps a.engine b.engine) (λ a. stays_itself g.steps a.engine)
      (λ a b c. step_further g.steps a.engine b.engine c.engine) (λ i a b. one_read g.steps (slice_index_or places i 0) a b) count old new steps

  reading_all_stopped : (old : Engine) (links : ℕ → Link) (new : Engine) → StopsReadingAll old links new → EngineLeaves Leaves old new
  reading_all_stopped old links new is =
      let between = is.between in
      let places = open_places old.lines in
      engine_further old between.engine new (some_read places is.count (reading_of old links []) between is.reads) (elim is.stops [
        | inl nothing ↦ untold between.engine new nothing
        | inr stops ↦ reading_stopped between.engine.lines.routes (slice_index_or places is.count 0) between.engine.moment (until_of between.engine)
            (sessions_of between.engine.sessions.desk between.engine.lines.unkept.items) new.sessions.desk stops
      ])

  all_read : (old : Engine) (links : ℕ → Link) (new : Engine) → StopsTickingBehind old links new → EngineLeaves Leaves old new
  all_read old links new is =
      let places = open_places old.lines in
      engine_further old is.read new (some_read places (length places) (reading_of old links []) (reading_of is.read is.links_read is.got) is.reads) (behind_reads is.read new is.stops)

  behind_dials : (old : AtWire) (new : Engine) → StopsBehindDials old new → EngineLeaves Leaves old.engine new
  behind_dials old new is = elim is [
    | inl stops ↦ reading_all_stopped old.engine old.links new stops
    | inr behind ↦ all_read old.engine old.links new behind
  ]

  -- so many sessions dial
  some_dialled : (count : ℕ) (old new : AtWire) → InTurn DialsSession count old new → EngineKeeps Keeps old.engine new.engine
  some_dialled count old new steps =
      each_in_turn DialsSession (λ (a b : AtWire). EngineKeeps Keeps a.engine b.engine) (λ a. stays_itself g.steps a.engine) (λ a b c. step_further g.steps a.engine b.engine c.engine) (session_dialled g.steps)
      count old new steps

  calling_all_stopped : (old : AtWire) (new : Engine) → StopsCallingAll old new → EngineLeaves Leaves old.engine new
  calling_all_stopped old new is =
      let between = is.between in
      engine_further old.engine between.engine new (some_dialled is.count old between is.dials)
      (calling_stopped all_done between.door.dialled is.count between.engine.moment (until_of between.engine) between.engine.sessions.desk new.sessions.desk is.stops)

  all_dialled : (old : AtWire) (new : Engine) → StopsReadingBehind old new → EngineLeaves Leaves old.engine new
  all_dialled old new is =
      let dialled = is.dialled in
      engine_further old.engine dialled.engine new (some_dialled (length old.engine.sessions.desk.board.sessions) old dialled is.dials) (behind_dials dialled new is.stops)

  behind_accepting : (old : AtWire) (new : Engine) → StopsBehindAccepting old new → EngineLeaves Leaves old.engine new
  behind_accepting old new is =
      let accepted = is.accepted in
      engine_further old.engine accepted.engine new (next_accepted g.steps is.answer old accepted is.accepts) (elim is.stops [
        | inl stops ↦ calling_all_stopped accepted new stops
        | inr behind ↦ all_dialled accepted new behind
      ])

  -- the first half of a turn, from its moment on
  taking_stopped : (reading : ℕ) (old : AtWire) (new : Engine) → StopsTaking reading old new → EngineLeaves Leaves (with_moment reading old.engine) new
  taking_stopped reading old new is = elim is [
    | inl nothing ↦ untold (with_moment reading old.engine) new nothing
    | inr behind ↦ behind_accepting (at_wire (with_moment reading old.engine) old.door old.links) new behind
  ]

  -- the second
  giving_stopped : (old : AtWire) (new : Engine) → StopsGiving old new → EngineLeaves Leaves old.engine new
  giving_stopped old new is =
      let published = is.published in
      engine_further old.engine published new (engine_in_turn g.steps PublishesSession (length old.engine.sessions.desk.board.sessions) old.engine published (session_published g.steps) is.publishes)
      (writing_stopped (open_places published.lines) published.moment (written_so_far published.sessions.desk published.lines.unkept.items old.links 0) new.sessions.desk is.stops)

  taken_stopped : (reading : ℕ) (old : AtWire) (new : Engine) → StopsBehindTaking reading old new → EngineLeaves Leaves (with_moment reading old.engine) new
  taken_stopped reading old new is =
      let middle = is.middle in
      engine_further (with_moment reading old.engine) middle.engine new (steps_taken g.steps g.serves reading old middle is.taken is.takes) (giving_stopped middle new is.stops)

  pub turn_stopped : (reading : ℕ) (old : AtWire) (new : Engine) → StopsTurn reading old new → EngineLeaves Leaves (with_moment reading old.engine) new
  turn_stopped reading old new is = elim is.stops [
    | inl taking ↦ taking_stopped reading old new taking
    | inr giving ↦ taken_stopped reading old new giving
  ]
