-- Over each step of a turn what is kept of the answers to dialled connections' Logons stays so.
use Rattle.std.proofs.Common.{◌≡◌, inl, inr, ℕ, ◌+◌, List, [], ◌∷◌, length, Option, None, Some, Result, Ok, Err, refl, sym, ap, subst}
use Rattle.std.proofs.lemmas.List.Elements.{All-cons, All-weaker}
use Rattle.std.specs.List.{All}
use Rattle.std.specs.Result.{result_ok}
use Rattle.engine_end.specs.Finishing.{GathersAll}
use Rattle.engine_laws.proofs.Endings.{ending_is, lapsing_is, one_is, parting_is}
use Rattle.engine_laws.proofs.Walking.{each_in_turn, read as reads, turn_given as gives_walk, turn_made as turn_walk, turn_taken as takes_walk, turn_walked, walked, written_in_turn as all_wrote}
use Rattle.engine_laws.specs.Account.{Progress, cutting, done, handling}
use Rattle.engine_laws.specs.walks.Walks as walk
use Rattle.engine_laws.specs.walks.Walks.{QuietStep, ReadMove, ReadSoFar, TurnStep, Walk, WriteMove}
use Rattle.engine_loop.specs.Engines.{until_of}
use Rattle.engine_loop.specs.Turns.{AcceptsNext, AtWire, DialsSession, GivesTurn, HandsOut, MakesTurn, NotesSession, PublishesSession, Reading, ReadsIfStands, ServesOne, Serving, TakesTurn, TicksSession, WritesAll}
use Rattle.engine_loop.specs.declared.engine.Engine.{Engine}
use Rattle.engine_loop.specs.declared.records.Taken.{Taken}
use Rattle.engine_loop.specs.declared.records.Turn.{Turn}
use Rattle.fix_fields.specs.Reading.{fields_of}
use Rattle.fix_frame.specs.Cut.{CutPiece, garbled, good}
use Rattle.gate_io.specs.Wire.{Link}
use Rattle.gate_io.specs.declared.dials.Dialled.{Dialled}
use Rattle.gate_io.specs.declared.dials.Dialled.TheVariants as dial
use Rattle.gate_io.specs.declared.wires.Accepted.{Accepted}
use Rattle.gate_io.specs.declared.wires.Accepted.TheVariants as accept
use Rattle.gate_io.specs.declared.wires.WireGot.{WireGot}
use Rattle.lease_core.specs.State.{state_of}
use Rattle.lease_core.specs.declared.entry.Entry.{Entry}
use Rattle.lease_core.specs.declared.record.Record.{Record}
use Rattle.lease_desk.specs.Desk.{Gathers}
use Rattle.lease_desk.specs.declared.desk.LeaseDesk.{LeaseDesk}
use Rattle.library_desk.specs.Happening.{IsOfLibraries, RunsFor}
use Rattle.library_desk.specs.Serving.{Serves}
use Rattle.library_desk.specs.declared.desk.LibraryDesk.{LibraryDesk}
use Rattle.library_desk.specs.declared.serving.LibTurn.{LibTurn}
use Rattle.session_book.specs.Records.{Pending}
use Rattle.session_core.specs.declared.causes.Cause.{Cause}
use Rattle.session_desk.specs.Steps.{GreetsAs, Ticks, binding, ending, greeting, lapsing, parting}
use Rattle.session_desk.specs.declared.routes.Routes.{Routes}
use Rattle.switchboard.specs.Board.{Board, book_at, connection_at, place_at}
use Rattle.switchboard.specs.Happenings.{Happening, Happens, Reaches, binds, binds_and_ends, ends_unbound, prepares, requests, reserves, takes, ticks, times_out, writes}
use Rattle.engine_laws.proofs.text_lemmas.Dialled.{IsStill, StillLaws}
use Rattle.engine_laws.proofs.text_lemmas.Heard.{HeldBy, accepted, dialled_one, garbled_out, gathered, heard, none_handed_out, one_handed_out, one_in_hand, stilled, unnamed_out}
use Rattle.engine_laws.specs.texts.Answered.{nothing_in_hand}
use Rattle.wire_desk.specs.Dials.{DialsAs}
use Rattle.wire_desk.specs.Places.{open_places}
use Rattle.wire_desk.specs.Steps.{AcceptsAs, Reads, Sessions, WritesInTurn, WrittenSoFar, written_so_far}
use Rattle.wire_desk.specs.declared.dialling.Dialler.{Dialler}

of_libraries_still : (at : ℕ) (happening : Happening) → IsOfLibraries at happening → IsStill happening
of_libraries_still at (times_out s w bodies moment until) is = tt
of_libraries_still at (requests s library nr from) is = tt
of_libraries_still at (reserves s) is = tt
of_libraries_still at other is = absurd is

module _ (before : ℕ → List Entry) (g : StillLaws before) where
  abbrev pub Held : Board → Type 0
  Held board = HeldBy before nothing_in_hand board

  -- what holds of a board holds of the other
  abbrev Keeps : Board → Board → Type 0
  Keeps old new = Held old → Held new

  unchanged : (old new : Board) → new ≡ old → Keeps old new
  unchanged old new same was = subst Held (sym same) was

  ran : (happenings : List Happening) (old new : Board) → All IsStill happenings → Reaches happenings old new → Keeps old new
  ran happenings old new all reached was = stilled before g nothing_in_hand happenings old new all reached was

  one : (happening : Happening) (old new : Board) → IsStill happening → Happens happening old new → Keeps old new
  one happening old new still is was = ran (happening ∷ []) old new (one_is IsStill happening still) (new, (is, refl)) was

  one_gathered : (s at until : ℕ) (old new : LeaseDesk) → Gathers s at until old new → Keeps old.board new.board
  one_gathered s at until old new is was = gathered before g nothing_in_hand s at until old new is was

  -- each session is gathered, one after another
  pub all_gathered : (at until : ℕ) (old new : LeaseDesk) → GathersAll at until old new → Keeps old.board new.board
  all_gathered at until old new gathers =
      each_in_turn (λ s. Gathers s at until) (λ (a b : LeaseDesk). Keeps a.board b.board) (λ desk was. was) (λ a b c one two was. two (one was)) (λ s a b. one_gathered s at until a b) (length old.board.sessions) old new gathers

  bound_by : (s k : ℕ) (body : List ℕ) (at : ℕ) (end : Option Cause) (old new : Board) → Happens (binding s k body at end) old new → Keeps old new
  bound_by s k body at None old new is was = one (binds s k body at) old new tt is was
  bound_by s k body at (Some cause) old new is was = one (binds_and_ends s k body at cause) old new tt is was

  greeted : (found : Result ℕ Cause) (k : ℕ) (body : List ℕ) (at until : ℕ) (old new : LeaseDesk) (unkept_old unkept_new : List Pending) (end : Option Cause)
      → GreetsAs found k body at until old new unkept_old unkept_new end → Keeps old.board new.board
  greeted (Ok s) k body at until old new unkept_old unkept_new end is was =
      bound_by s k body at end is.gathered.board new.board is.binds (one_gathered s at until old is.gathered is.gathers was)
  greeted (Err cause) k body at until old new unkept_old unkept_new end is was = one (ends_unbound k cause) old.board new.board tt is.ends was

  ticked : (s at until : ℕ) (old new : LeaseDesk) (end : Option Cause) → Ticks s at until old new end → Keeps old.board new.board
  ticked s at until old new end is was =
      let reserved = (state_of (book_at is.gathered.board s).entries).reserved in
      let last = ending s (place_at is.lapsed s) end in
      ran (ticks s at ∷ last) is.lapsed new.board (All-cons IsStill (ticks s at) last tt (ending_is IsStill s (place_at is.lapsed s) end (λ k cause. tt))) is.follows
      (ran (lapsing s reserved at) is.gathered.board is.lapsed (lapsing_is IsStill s reserved at tt) is.lapses
      (one_gathered s at until old is.gathered is.gathers was))

  parted : (session : Option ℕ) (k : ℕ) (cause : Cause) (old new : Board) → Happens (parting session k cause) old new → Keeps old new
  parted session k cause old new is was = one (parting session k cause) old new (parting_is IsStill session k cause tt (λ s. tt)) is was

  -- a move as a connection is read: a piece that is handed out is in hand where it has a message
  abbrev in_hand : ℕ → Progress → ℕ → List CutPiece
  in_hand k done = nothing_in_hand
  in_hand k cutting = nothing_in_hand
  in_hand k (handling body) = one_in_hand k (good body)

  abbrev HeldSoFar : ℕ → ReadSoFar → Type 0
  HeldSoFar k so_far = HeldBy before (in_hand k so_far.progress) so_far.desk.board

  read_moved : (routes : Routes) (k at until : ℕ) (old new : ReadSoFar) → ReadMove routes k at until old new → HeldSoFar k old → HeldSoFar k new
  read_moved routes k at until _ _ (walk.bytes_come bytes old new is) was = one (takes k bytes) old.board new.board tt is.0 was
  read_moved routes k at until _ _ (walk.garbled_out size old new next is) was = garbled_out before g k size new.board (one_handed_out before g k (garbled size) old.board new.board is.0 next was)
  read_moved routes k at until _ _ (walk.body_out body old new next is) was = one_handed_out before g k (good body) old.board new.board is.0 next was
  read_moved routes k at until _ _ (walk.heard s body end old new named is) was = heard before g s k body at until old.desk new.desk old.unkept new.unkept end is was
  read_moved routes k at until _ _ (walk.greeted body end old new unnamed is) was =
      greeted (greeting old.desk.board routes (result_ok (fields_of body))) k body at until old.desk new.desk old.unkept new.unkept end is (unnamed_out before g k (good body) old.desk.board unnamed was)
  read_moved routes k at until _ _ (walk.none_out old new none is) was = none_handed_out before g k old.board new.board is.0 none was
  read_moved routes k at until _ _ (walk.had_ended desk ended) was = was
  read_moved routes k at until _ _ (walk.parted cause old new ends is) was = parted (connection_at old.board k).session k cause old.board new.board is.0 was

  write_moved : (old new : LeaseDesk) → WriteMove old new → Keeps old.board new.board
  write_moved _ _ (walk.made s k old new is) was = one (prepares s k) old.board new.board tt is.0 was
  write_moved _ _ (walk.wrote k n old new is) was = one (writes k n) old.board new.board tt is.0 was
  write_moved _ _ (walk.left k stop cause old new ends is) was = parted (connection_at old.board k).session k cause old.board new.board is.0 was
  write_moved _ _ (walk.stayed old new board seat) was = unchanged old.board new.board board was

  read : (answer : WireGot) (routes : Routes) (k : ℕ) (buffer : List ℕ) (at until : ℕ) (old new : Sessions) → Reads answer routes k buffer at until old new → Keeps old.desk.board new.desk.board
  read answer routes k buffer at until old new is =
      walked (ReadMove routes k at until) (λ a b. HeldSoFar k a → HeldSoFar k b) (λ a so. so) (λ a b c one two so. two (one so)) (read_moved routes k at until) _ _ (reads routes k at until answer buffer old new is)

  written_in_turn : (places : List ℕ) (count : ℕ) (old new : WrittenSoFar) → WritesInTurn places count old new → Keeps old.sessions.desk.board new.sessions.desk.board
  written_in_turn places count old new is = walked WriteMove (λ a b. Keeps a.board b.board) (λ a so. so) (λ a b c one two so. two (one so)) write_moved _ _ (all_wrote places count old new is)

  -- the engine's steps
  abbrev Stays : Engine → Engine → Type 0
  Stays old new = Keeps old.sessions.desk.board new.sessions.desk.board

  accepted_as : (answer : Accepted) (at : ℕ) (old new : LeaseDesk) → AcceptsAs answer at old new → Keeps old.board new.board
  accepted_as (accept.New c) at old new is was = accepted before g c at old.board new.board is.0 was
  accepted_as accept.Nothing at old new is was = unchanged old.board new.board (ap (λ (d : LeaseDesk). d.board) is) was
  accepted_as accept.Failed at old new is was = unchanged old.board new.board (ap (λ (d : LeaseDesk). d.board) is) was

  next_accepted : (answer : Accepted) (old new : AtWire) → AcceptsNext answer old new → Stays old.engine new.engine
  next_accepted answer old new is was = elim is [
    | inl asks ↦ accepted_as answer old.engine.moment old.engine.sessions.desk new.engine.sessions.desk asks.accepts was
    | inr none ↦ unchanged old.engine.sessions.desk.board new.engine.sessions.desk.board (ap (λ (a : AtWire). a.engine.sessions.desk.board) none.1.1) was
  ]

  dialled_as : (answer : Option Dialled) (s at until : ℕ) (old new : LeaseDesk) (d_old d_new : Dialler) → DialsAs answer s at until old new d_old d_new → Keeps old.board new.board
  dialled_as None s at until old new d_old d_new is was = unchanged old.board new.board (ap (λ (d : LeaseDesk). d.board) is.1.0) was
  dialled_as (Some dial.Failed) s at until old new d_old d_new is was = unchanged old.board new.board (ap (λ (d : LeaseDesk). d.board) is.1.0) was
  dialled_as (Some (dial.New number)) s at until old new d_old d_new is was =
      let to = is.1.0 in
      dialled_one before g s number at to.gathered.board new.board to.dials (one_gathered s at until old to.gathered to.gathers was)

  session_dialled : (s : ℕ) (old new : AtWire) → DialsSession s old new → Stays old.engine new.engine
  session_dialled s old new is was = dialled_as is.answer s old.engine.moment (until_of old.engine) old.engine.sessions.desk new.engine.sessions.desk old.engine.dialler new.engine.dialler is.dials was

  one_read : (k : ℕ) (old new : Reading) → ReadsIfStands k old new → Stays old.engine new.engine
  one_read k old new is was = elim is [
    | inl reads ↦ read reads.answer _ k _ old.engine.moment (until_of old.engine) _ _ reads.reads was
    | inr none ↦ unchanged old.engine.sessions.desk.board new.engine.sessions.desk.board (ap (λ (r : Reading). r.engine.sessions.desk.board) none.1) was
  ]

  session_ticked : (s : ℕ) (old new : Engine) → TicksSession s old new → Stays old new
  session_ticked s old new is was = ticked s old.moment (until_of old) old.sessions.desk new.sessions.desk is.end is.ticks was

  session_noted : (s : ℕ) (old new : Engine) → NotesSession s old new → Stays old new
  session_noted s old new is was = unchanged old.sessions.desk.board new.sessions.desk.board (ap (λ (e : Engine). e.sessions.desk.board) is.1) was

  session_published : (s : ℕ) (old new : Engine) → PublishesSession s old new → Stays old new
  session_published s old new is was = unchanged old.sessions.desk.board new.sessions.desk.board is.board was

  pub records_handed_out : (old new : Engine) (records : List Record) → HandsOut old new records → Stays old new
  records_handed_out old new records is was =
      unchanged is.noted.sessions.desk.board new.sessions.desk.board (ap (λ (e : Engine). e.sessions.desk.board) is.rest)
      (each_in_turn NotesSession Stays (λ e so. so) (λ a b c one two so. two (one so)) session_noted (length old.sessions.desk.board.sessions) old is.noted is.notes was)

  all_written : (links_old links_new : ℕ → Link) (old new : Engine) (bytes : ℕ) → WritesAll links_old links_new old new bytes → Stays old new
  all_written links_old links_new old new bytes is was =
      let places = open_places old.lines in
      written_in_turn places (length places) (written_so_far old.sessions.desk old.lines.unkept.items links_old 0) (written_so_far new.sessions.desk old.lines.unkept.items links_new bytes) is.writes was

  module _ (serves : (library at until : ℕ) (old new : LibraryDesk) (turn : LibTurn) → Serves library at until old new turn → RunsFor at old.desk.board new.desk.board) where
    one_served : (library : ℕ) (old new : Serving) → ServesOne library old new → Stays old.engine new.engine
    one_served library old new is was =
        let at = old.engine.moment in
        let runs = serves library at (until_of old.engine) old.engine.sessions new.engine.sessions is.turn is.serves in
        ran runs.happenings old.engine.sessions.desk.board new.engine.sessions.desk.board (All-weaker (IsOfLibraries at) IsStill (of_libraries_still at) runs.happenings runs.all) runs.reaches was

    quiet_step : (old new : AtWire) → QuietStep old new → Stays old.engine new.engine
    quiet_step _ _ (walk.read k door old new is) = one_read k old new is
    quiet_step _ _ (walk.ticked s door links old new is) = session_ticked s old new is
    quiet_step _ _ (walk.served i door links old new is) = one_served (i + 1) old new is
    quiet_step _ _ (walk.noted s door links old new is) = session_noted s old new is
    quiet_step _ _ (walk.published s door links old new is) = session_published s old new is
    quiet_step _ _ (walk.written door links_old links_new old new bytes is) = all_written links_old links_new old new bytes is

    step : (old new : AtWire) → TurnStep old new → Stays old.engine new.engine
    step _ _ (walk.accepted answer old new is) = next_accepted answer old new is
    step _ _ (walk.dialled s old new is) = session_dialled s old new is
    step _ _ (walk.quiet old new is) = quiet_step old new is

    all_steps : (old new : AtWire) → Walk TurnStep old new → Stays old.engine new.engine
    all_steps = turn_walked Stays (λ e so. so) (λ a b c one two so. two (one so)) step

    pub turn_taken : (reading : ℕ) (old new : AtWire) (taken : Taken) → TakesTurn reading old new taken → Stays old.engine new.engine
    turn_taken reading old new taken is = all_steps _ new (takes_walk reading old new taken is)

    pub turn_given : (old new : AtWire) (taken : Taken) (turn : Turn) → GivesTurn old new taken turn → Stays old.engine new.engine
    turn_given old new taken turn is = all_steps old new (gives_walk old new taken turn is)

    pub turn_made : (reading : ℕ) (old new : AtWire) (turn : Turn) → MakesTurn reading old new turn → Stays old.engine new.engine
    turn_made reading old new turn is = all_steps _ new (turn_walk reading old new turn is)
