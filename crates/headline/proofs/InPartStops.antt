-- Where a turn stops connections are numbered in the order in which they came, as they were before it.
use Rattle.std.proofs.Common.{◌≡◌, inl, inr, ℕ, suc, ◌+◌, List, [], ◌∷◌, length, map, Option, None, Some, refl, sym, ap, subst, ◌∙◌}
use Rattle.std.proofs.lemmas.List.Elements.{All-cons}
use Rattle.std.specs.Prelude.{◌⊎◌}
use Rattle.engine_loop.specs.Engines.{until_of}
use Rattle.engine_loop.specs.Stops.{StopsBehindAccepting, StopsBehindDials, StopsBehindReads, StopsBehindTicks, StopsGiving, StopsReadingAll, StopsServingAll, StopsTaking, StopsTurn, TellsNothing}
use Rattle.engine_loop.specs.Turns.{AtWire, at_wire, reading_of, serving_of, with_moment}
use Rattle.engine_loop.specs.declared.engine.Engine.{Engine}
use Rattle.gate_io.specs.Wire.{Link}
use Rattle.gate_io.specs.declared.wires.TheConstants.{FIRST_DIALLED}
use Rattle.headline.proofs.Coming.{AtWireInOrder, all_dialled, half_taken, next_accepted}
use Rattle.headline.proofs.InPartKinds.{AreNumberedSo, HaveNumbers, SameKinds, bound, kind_of, kinds_kept, numbers_stay, one_more, ordered, received, so_they_stay, ticked, untold}
use Rattle.headline.proofs.Walk.{IsQuiet, all_published, all_read, all_served, all_ticked, bound_by, gathered, lapsing_quiet, one_quiet, reached, reads_walked, writes_walked}
use Rattle.headline.proofs.Walking.{each_in_turn}
use Rattle.headline.specs.Needed.{WalkLaws}
use Rattle.lease_core.specs.State.{state_of}
use Rattle.lease_desk.specs.Desk.{InTurn, TakesBackFrom, bodies_of}
use Rattle.lease_desk.specs.declared.desk.LeaseDesk.{LeaseDesk}
use Rattle.library_desk.specs.Happening.{RunsFor}
use Rattle.library_desk.specs.Serving.{Answers, Serves}
use Rattle.library_desk.specs.Stops.{StopsBehindExpiry, StopsServing}
use Rattle.library_desk.specs.declared.desk.LibraryDesk.{LibraryDesk}
use Rattle.library_desk.specs.declared.serving.LibTurn.{LibTurn}
use Rattle.library_desk.specs.declared.serving.LibTurn.TheVariants.{Answered, Ended, NoCommand, NoRoom}
use Rattle.session_core.specs.declared.causes.Cause.{Cause}
use Rattle.session_desk.specs.Steps.{binding, lapsing}
use Rattle.session_desk.specs.Stops.{HappensLast, StopsBinding, StopsDialling, StopsHearing, StopsTicking}
use Rattle.session_desk.specs.declared.routes.Routes.{Routes}
use Rattle.switchboard.specs.Board.{Board, book_at, connection_at}
use Rattle.switchboard.specs.Happenings.{Reaches, binds, dials, gives, requests, reserves, takes, ticks, times_out}
use Rattle.switchboard.specs.Stops.{NothingIsTold, StopsIn}
use Rattle.wire_desk.specs.Places.{open_places}
use Rattle.wire_desk.specs.Steps.{Sessions, sessions_of, written_so_far}
use Rattle.wire_desk.specs.Stops.{StopsCalling, StopsInBody, StopsInPiece, StopsInPieces, StopsReading}

abbrev SameDesk : LeaseDesk → LeaseDesk → Type 0
SameDesk old new = SameKinds old.board new.board

-- sessions
hearing : (s k : ℕ) (body : List ℕ) (at until : ℕ) (old new : LeaseDesk) → StopsHearing s k body at until old new → SameDesk old new
hearing s k body at until old new stops = elim stops [
  | inl nothing ↦ untold old.board new.board nothing
  | inr behind ↦ received s k body at behind.0.board new.board behind.1.1 ∙ gathered SameKinds kinds_kept s at until old behind.0 behind.1.0
]

ticking_on : (s at : ℕ) (old new : Board)
    → NothingIsTold old new ⊎ ((lapsed : Board) × (Reaches (lapsing s (state_of (book_at old s).entries).reserved at) old lapsed × StopsIn (ticks s at) lapsed new)) → SameKinds old new
ticking_on s at old new stops = elim stops [
  | inl nothing ↦ untold old new nothing
  | inr behind ↦ (
      let reserved = (state_of (book_at old s).entries).reserved in
      ticked s at behind.0 new behind.1.1 ∙ reached SameKinds kinds_kept (lapsing s reserved at) old behind.0 (lapsing_quiet s reserved at) behind.1.0)
]

ticking : (s at until : ℕ) (old new : LeaseDesk) → StopsTicking s at until old new → SameDesk old new
ticking s at until old new stops = elim stops [
  | inl nothing ↦ untold old.board new.board nothing
  | inr behind ↦ ticking_on s at behind.0.board new.board behind.1.1 ∙ gathered SameKinds kinds_kept s at until old behind.0 behind.1.0
]

binding_on : (s k : ℕ) (body : List ℕ) (at : ℕ) (old new : Board) → StopsIn (binds s k body at) old new ⊎ ((end : Option Cause) × HappensLast (binding s k body at end) old new) → SameKinds old new
binding_on s k body at old new stops = elim stops [
  | inl begun ↦ bound s k body at old new begun
  | inr last ↦ untold last.1.0 new last.1.1.1 ∙ bound_by SameKinds kinds_kept s k body at last.0 old last.1.0 last.1.1.0
]

greeting : (k : ℕ) (body : List ℕ) (at until : ℕ) (old new : LeaseDesk) (s : ℕ) → StopsBinding s k body at until old new → SameDesk old new
greeting k body at until old new s stops = elim stops [
  | inl nothing ↦ untold old.board new.board nothing
  | inr behind ↦ binding_on s k body at behind.0.board new.board behind.1.1 ∙ gathered SameKinds kinds_kept s at until old behind.0 behind.1.0
]

-- what comes at the wire
in_body : (session : Option ℕ) (k : ℕ) (body : List ℕ) (at until : ℕ) (old new : LeaseDesk) → StopsInBody session k body at until old new → SameDesk old new
in_body (Some s) k body at until old new stops = hearing s k body at until old new stops
in_body None k body at until old new stops = elim stops [ inl nothing ↦ untold old.board new.board nothing | inr some ↦ greeting k body at until old new some.0 some.1 ]

in_piece : (k at until : ℕ) (old new : LeaseDesk) → StopsInPiece k at until old new → SameDesk old new
in_piece k at until old new stops = elim stops [
  | inl nothing ↦ untold old.board new.board nothing
  | inr is ↦ in_body (connection_at old.board k).session k is.body at until is.given new is.stops ∙ kinds_kept.happens (gives k) old.board is.given.board refl is.gives
]

in_pieces : WalkLaws → (routes : Routes) (k at until : ℕ) (old : Sessions) (new : LeaseDesk) → StopsInPieces routes k at until old new → SameDesk old.desk new
in_pieces walks routes k at until old new is =
    in_piece k at until is.between.desk new is.stops ∙ reads_walked SameKinds kinds_kept routes k at until _ _ (walks.handles routes k at until is.count old is.between is.handles)

reading : WalkLaws → (routes : Routes) (k at until : ℕ) (old : Sessions) (new : LeaseDesk) → StopsReading routes k at until old new → SameDesk old.desk new
reading walks routes k at until old new stops = elim stops [
  | inl nothing ↦ untold old.desk.board new.board nothing
  | inr more ↦ elim more [
    | inl is ↦ in_pieces walks routes k at until (sessions_of is.taken old.unkept) new is.stops ∙ kinds_kept.happens (takes k is.bytes) old.desk.board is.taken.board refl is.takes
    | inr is ↦ untold is.between.desk.board new.board is.stops ∙ reads_walked SameKinds kinds_kept routes k at until _ _ (walks.reads_as is.got routes k is.buffer at until old is.between is.reads)
  ]
]

-- libraries
same_desk : (old new : LibraryDesk) → new.desk.board ≡ old.desk.board → SameDesk old.desk new.desk
same_desk old new same = ap (λ (b : Board). map kind_of b.connections) same

answered : (library : ℕ) (old new : LibraryDesk) (turn : LibTurn) → Answers library old new turn → SameDesk old.desk new.desk
answered library old new (NoRoom pushed taken) is = same_desk old new (ap (λ (d : LibraryDesk). d.desk.board) is.rest)
answered library old new NoCommand is = same_desk old new (ap (λ (d : LibraryDesk). d.desk.board) is.rest)
answered library old new (Ended finished) is = same_desk old new (ap (λ (d : LibraryDesk). d.desk.board) is.rest)
answered library old new (Answered nr) is =
    let replied : SameDesk is.popped.desk is.replied.desk = elim is.replies [
      | inl here ↦ kinds_kept.happens (requests is.s library nr is.from) is.popped.desk.board is.replied.desk.board refl here.1.happens
      | inr stray ↦ same_desk is.popped is.replied (ap (λ (d : LibraryDesk). d.desk.board) stray.1.rest)
    ] in
    same_desk is.replied new (ap (λ (d : LibraryDesk). d.desk.board) is.tells.rest) ∙ replied ∙ same_desk old is.popped (ap (λ (d : LibraryDesk). d.desk.board) is.looks.rest)

taken_back : (library at until s : ℕ) (old new : LeaseDesk) → TakesBackFrom library at until s old new → SameDesk old new
taken_back library at until s old new taken = elim taken [
  | inl back ↦ (
      let is = back.1 in
      let times = times_out s is.word (bodies_of is.items) at until in
      reached SameKinds kinds_kept (reserves s ∷ times ∷ []) old.board new.board (All-cons IsQuiet (reserves s) (times ∷ []) refl (one_quiet times refl)) is.reaches)
  | inr same ↦ ap (λ (d : LeaseDesk). map kind_of d.board.connections) same.1
]

all_taken_back : (library at until count : ℕ) (old new : LeaseDesk) → InTurn (TakesBackFrom library at until) count old new → SameDesk old new
all_taken_back library at until count old new taken =
    each_in_turn (TakesBackFrom library at until) SameDesk (λ a. refl) (λ a b c one two. two ∙ one) (λ s a b. taken_back library at until s a b) count old new taken

behind_expiry : (library at until beat : ℕ) (old heard new : LibraryDesk) → StopsBehindExpiry library at until beat old heard new → SameDesk heard.desk new.desk
behind_expiry library at until beat old heard new is =
    let first : SameDesk heard.desk is.expired.desk = elim is.expires [
      | inl silent ↦ all_taken_back library at until (length heard.desk.board.sessions) heard.desk is.expired.desk silent.1.taken_back
      | inr same ↦ same_desk heard is.expired (ap (λ (d : LibraryDesk). d.desk.board) same.1)
    ] in
    let last : SameDesk is.expired.desk new.desk = elim is.stops [
      | inl nothing ↦ untold is.expired.desk.board new.desk.board nothing
      | inr behind ↦ untold behind.answered.desk.board new.desk.board behind.stops ∙ answered library is.expired behind.answered behind.turn behind.answers
    ] in
    last ∙ first

serving : (library at until : ℕ) (old new : LibraryDesk) → StopsServing library at until old new → SameDesk old.desk new.desk
serving library at until old new is =
    let last : SameDesk is.heard.desk new.desk = elim is.stops [
      | inl some ↦ untold some.between.board new.desk.board some.stops ∙ all_taken_back library at until some.count is.heard.desk some.between some.taken_back
      | inr behind ↦ behind_expiry library at until is.beat old is.heard new behind
    ] in
    last ∙ same_desk old is.heard (ap (λ (d : LibraryDesk). d.desk.board) is.hears.rest)

-- a session dials
dial_begun : (accepted dialled s at : ℕ) (old new : Board) → StopsIn (dials s (FIRST_DIALLED + dialled) at) old new → HaveNumbers accepted dialled old.connections → AreNumberedSo new
dial_begun accepted dialled s at old new stops was = elim stops [
  | inl nothing ↦ so_they_stay old new (untold old new nothing) (record { accepted = accepted; dialled = dialled; numbers = was })
  | inr is ↦ record {
    accepted = accepted;
    dialled = suc dialled;
    numbers = subst (HaveNumbers accepted (suc dialled)) (sym is.connections) (one_more accepted dialled old.connections is.connection is.number_is is.dialled was);
  }
]

dialling : (accepted dialled s at until : ℕ) (old new : LeaseDesk) → StopsDialling s (FIRST_DIALLED + dialled) at until old new → HaveNumbers accepted dialled old.board.connections → AreNumberedSo new.board
dialling accepted dialled s at until old new stops was = elim stops [
  | inl nothing ↦ so_they_stay old.board new.board (untold old.board new.board nothing) (record { accepted = accepted; dialled = dialled; numbers = was })
  | inr behind ↦ dial_begun accepted dialled s at behind.0.board new.board behind.1.1
      (numbers_stay accepted dialled old.board behind.0.board (gathered SameKinds kinds_kept s at until old behind.0 behind.1.0) was)
]

calling : (accepted dialled s at until : ℕ) (old new : LeaseDesk) → StopsCalling dialled s at until old new → HaveNumbers accepted dialled old.board.connections → AreNumberedSo new.board
calling accepted dialled s at until old new stops was = elim stops [
  | inl nothing ↦ so_they_stay old.board new.board (untold old.board new.board nothing) (record { accepted = accepted; dialled = dialled; numbers = was })
  | inr more ↦ dialling accepted dialled s at until old new more was
]

-- the engine
abbrev SameEngine : Engine → Engine → Type 0
SameEngine old new = SameDesk old.sessions.desk new.sessions.desk

nothing_told : (old new : Engine) → TellsNothing old new → SameEngine old new
nothing_told old new nothing = untold old.sessions.desk.board new.sessions.desk.board nothing

module _ (walks : WalkLaws) (serves : (library at until : ℕ) (old new : LibraryDesk) (turn : LibTurn) → Serves library at until old new turn → RunsFor at old.desk.board new.desk.board) where
  serving_all : (old new : Engine) → StopsServingAll old new → SameEngine old new
  serving_all old new is =
      let between = is.between.engine in
      let last : SameEngine between new = elim is.stops [
        | inl nothing ↦ nothing_told between new nothing
        | inr stops ↦ serving (is.count + 1) between.moment (until_of between) between.sessions new.sessions stops
      ] in
      last ∙ (all_served SameKinds kinds_kept walks serves is.count (serving_of old []) is.between is.serves).board

  behind_ticks : (old new : Engine) → StopsBehindTicks old new → SameEngine old new
  behind_ticks old new stops = elim stops [
    | inl all ↦ serving_all old new all
    | inr behind ↦ nothing_told behind.0 new behind.1.1.stops
        ∙ (all_served SameKinds kinds_kept walks serves (length old.sessions.ends.items) (serving_of old []) (serving_of behind.0 behind.1.0) behind.1.1.serves).board
  ]

  behind_reads : (old new : Engine) → StopsBehindReads old new → SameEngine old new
  behind_reads old new stops = elim stops [
    | inl is ↦ ticking is.count is.between.moment (until_of is.between) is.between.sessions.desk new.sessions.desk is.stops ∙ (all_ticked SameKinds kinds_kept walks is.count old is.between is.ticks).board
    | inr is ↦ behind_ticks is.ticked new is.stops ∙ (all_ticked SameKinds kinds_kept walks (length old.sessions.desk.board.sessions) old is.ticked is.ticks).board
  ]

  reading_all : (old : Engine) (links : ℕ → Link) (new : Engine) → StopsReadingAll old links new → SameEngine old new
  reading_all old links new is =
      let between = is.between.engine in
      let last : SameEngine between new = elim is.stops [
        | inl nothing ↦ nothing_told between new nothing
        | inr stops ↦ reading walks between.lines.routes _ between.moment (until_of between) (sessions_of between.sessions.desk between.lines.unkept.items) new.sessions.desk stops
      ] in
      last ∙ (all_read SameKinds kinds_kept walks (open_places old.lines) is.count (reading_of old links []) is.between is.reads).board

  behind_dials : (old : AtWire) (new : Engine) → StopsBehindDials old new → SameEngine old.engine new
  behind_dials old new stops = elim stops [
    | inl is ↦ reading_all old.engine old.links new is
    | inr is ↦ (
        let places = open_places old.engine.lines in
        behind_reads is.read new is.stops ∙ (all_read SameKinds kinds_kept walks places (length places) (reading_of old.engine old.links []) (reading_of is.read is.links_read is.got) is.reads).board)
  ]

  -- the connections of an engine over its wire
  numbers_at : (at : AtWire) → AtWireInOrder at → HaveNumbers at.door.accepted at.door.dialled at.engine.sessions.desk.board.connections
  numbers_at at was = record { accepted_are = was.connections.accepted_are; dialled_are = was.connections.dialled_are }

  so_at : (at : AtWire) → AtWireInOrder at → AreNumberedSo at.engine.sessions.desk.board
  so_at at was = record { accepted = at.door.accepted; dialled = at.door.dialled; numbers = numbers_at at was }

  behind_accepting : (old : AtWire) (new : Engine) → StopsBehindAccepting old new → AtWireInOrder old → AreNumberedSo new.sessions.desk.board
  behind_accepting old new is was =
      let came = next_accepted is.answer old is.accepted is.accepts was in
      elim is.stops [
        | inl stops ↦ (
            let between = stops.between in
            calling between.door.accepted between.door.dialled stops.count between.engine.moment (until_of between.engine) between.engine.sessions.desk new.sessions.desk stops.stops
            (numbers_at between (all_dialled stops.count is.accepted between stops.dials came)))
        | inr behind ↦ so_they_stay behind.dialled.engine.sessions.desk.board new.sessions.desk.board (behind_dials behind.dialled new behind.stops)
            (so_at behind.dialled (all_dialled (length is.accepted.engine.sessions.desk.board.sessions) is.accepted behind.dialled behind.dials came))
      ]

  taking : (reading : ℕ) (old : AtWire) (new : Engine) → StopsTaking reading old new → AtWireInOrder old → AreNumberedSo new.sessions.desk.board
  taking reading old new stops was = elim stops [
    | inl nothing ↦ so_they_stay old.engine.sessions.desk.board new.sessions.desk.board (nothing_told old.engine new nothing) (so_at old was)
    | inr behind ↦ behind_accepting (at_wire (with_moment reading old.engine) old.door old.links) new behind (record { counted = was.counted; connections = was.connections })
  ]

  giving : (old : AtWire) (new : Engine) → StopsGiving old new → SameEngine old.engine new
  giving old new is =
      let stops = is.stops in
      let first = written_so_far is.published.sessions.desk is.published.lines.unkept.items old.links 0 in
      untold stops.between.sessions.desk.board new.sessions.desk.board stops.stops ∙ writes_walked SameKinds kinds_kept _ _ (walks.writes (open_places is.published.lines) stops.count first stops.between stops.writes)
      ∙ (all_published SameKinds kinds_kept walks (length old.engine.sessions.desk.board.sessions) old.engine is.published is.publishes).board

  pub turn_stopped : (reading : ℕ) (old : AtWire) (new : Engine) → StopsTurn reading old new → AtWireInOrder old → AreNumberedSo new.sessions.desk.board
  turn_stopped reading old new is was = elim is.stops [
    | inl stops ↦ taking reading old new stops was
    | inr behind ↦ (
        let middle = half_taken walks serves reading old behind.middle behind.taken behind.takes was in
        let door = behind.middle.door in
        so_they_stay behind.middle.engine.sessions.desk.board new.sessions.desk.board (giving behind.middle new behind.stops)
        (ordered door.accepted door.dialled behind.middle.engine.sessions.desk.board middle.connections))
  ]
