-- What each happening keeps by which no connection comes, each step of a turn keeps but for those by which one does.
use Rattle.std.proofs.Common.{◌≡◌, inl, inr, ℕ, ◌+◌, Bool, true, false, List, [], ◌∷◌, ◌++◌, length, Option, None, Some, Result, Ok, Err, refl, sym, ap, subst, ◌∙◌}
use Rattle.std.proofs.lemmas.List.Elements.{All-append, All-cons, All-head, All-nil, All-tail, All-weaker}
use Rattle.std.specs.Prelude.{if◌then◌else◌, nat_lt, slice_index_or}
use Rattle.std.specs.List.{All}
use Rattle.std.specs.Result.{result_ok}
use Rattle.engine_config.specs.declared.config.DialTo.{DialTo}
use Rattle.engine_laws.specs.walks.Walks as walk
use Rattle.engine_laws.specs.walks.Walks.{QuietStep, ReadMove, ReadSoFar, Walk, WriteMove}
use Rattle.engine_loop.specs.Engines.{until_of}
use Rattle.engine_loop.specs.Turns.{AtWire, NotesSession, PublishesSession, Reading, ReadsIfStands, ServesOne, Serving, TicksSession, WritesAll}
use Rattle.engine_loop.specs.declared.engine.Engine.{Engine}
use Rattle.fix_fields.specs.Reading.{fields_of}
use Rattle.gate_io.specs.Wire.{Link}
use Rattle.headline.proofs.Walking.{each_in_turn, walked}
use Rattle.headline.specs.Needed.{WalkLaws}
use Rattle.lease_core.specs.State.{state_of}
use Rattle.lease_desk.specs.Desk.{Gathers, InTurn, bodies_of}
use Rattle.lease_desk.specs.declared.desk.LeaseDesk.{LeaseDesk}
use Rattle.library_desk.specs.Happening.{IsOfLibraries, RunsFor}
use Rattle.library_desk.specs.Serving.{Serves}
use Rattle.library_desk.specs.declared.desk.LibraryDesk.{LibraryDesk}
use Rattle.library_desk.specs.declared.serving.LibTurn.{LibTurn}
use Rattle.session_book.specs.Records.{Pending}
use Rattle.session_core.specs.declared.causes.Cause.{Cause}
use Rattle.session_desk.specs.Steps.{GreetsAs, Hears, Ticks, answering, binding, ending, greeting, is_answer, lapsing, parting}
use Rattle.session_desk.specs.declared.routes.Routes.{Routes}
use Rattle.switchboard.specs.Board.{Board, book_at, connection_at, place_at}
use Rattle.switchboard.specs.Going.{is_coming}
use Rattle.switchboard.specs.Happenings.{Happening, Happens, Reaches, answers, binds, binds_and_ends, ends_bound, ends_unbound, gives, lapses, prepares, receives, requests, reserves, shows, takes, ticks, times_out, writes}
use Rattle.wire_desk.specs.Dials.{SessionWaits, WaitsBy, WaitsIfEnded, plan_at}
use Rattle.wire_desk.specs.Places.{open_places}
use Rattle.wire_desk.specs.Steps.{written_so_far}
use Rattle.wire_desk.specs.declared.dialling.Dialler.{Dialler}

-- no connection comes
abbrev pub IsQuiet : Happening → Type 0
IsQuiet happening = is_coming happening ≡ false

none_quiet : All IsQuiet []
none_quiet = All-nil IsQuiet

pub one_quiet : (happening : Happening) → IsQuiet happening → All IsQuiet (happening ∷ [])
one_quiet happening is = All-cons IsQuiet happening [] is none_quiet

answering_quiet : (is : Bool) (k : ℕ) → All IsQuiet (if is then answers k ∷ [] else [])
answering_quiet true k = one_quiet (answers k) refl
answering_quiet false k = none_quiet

ending_quiet : (s : ℕ) (place : Option ℕ) (end : Option Cause) → All IsQuiet (ending s place end)
ending_quiet s None None = none_quiet
ending_quiet s None (Some cause) = none_quiet
ending_quiet s (Some k) None = none_quiet
ending_quiet s (Some k) (Some cause) = one_quiet (ends_bound s k cause) refl

lapsing_at_once : (is : Bool) (s : ℕ) → All IsQuiet (if is then [] else lapses s ∷ [])
lapsing_at_once true s = none_quiet
lapsing_at_once false s = one_quiet (lapses s) refl

pub lapsing_quiet : (s : ℕ) (reserved : Option (ℕ × ℕ)) (now : ℕ) → All IsQuiet (lapsing s reserved now)
lapsing_quiet s None now = none_quiet
lapsing_quiet s (Some reserved) now = lapsing_at_once (nat_lt now reserved.1) s

parting_quiet : (session : Option ℕ) (k : ℕ) (cause : Cause) → IsQuiet (parting session k cause)
parting_quiet None k cause = refl
parting_quiet (Some s) k cause = refl

library_quiet : (at : ℕ) (happening : Happening) → IsOfLibraries at happening → IsQuiet happening
library_quiet at (times_out s w bodies moment until) is = refl
library_quiet at (requests s library nr from) is = refl
library_quiet at (reserves s) is = refl
library_quiet at other is = absurd is

-- as many dials were made, and as many may be
pub record HasSameDials (old new : Dialler) : Type 0 where
  pub made : new.made ≡ old.made
  pub most : new.most ≡ old.most

pub same_dials : (old new : Dialler) → new ≡ old → HasSameDials old new
same_dials old new same = record { made = ap (λ (d : Dialler). d.made) same; most = ap (λ (d : Dialler). d.most) same }

further_dials : (first second third : Dialler) → HasSameDials first second → HasSameDials second third → HasSameDials first third
further_dials first second third one two = record { made = two.made ∙ one.made; most = two.most ∙ one.most }

-- a session that dials waits, and nothing else changes
pub waits_by : (plan : Option DialTo) (s at : ℕ) (old new : Dialler) → WaitsBy plan s at old new → HasSameDials old new
waits_by None s at old new same = same_dials old new same
waits_by (Some plan) s at old new is = record { made = ap (λ (d : Dialler). d.made) is.rest; most = ap (λ (d : Dialler). d.most) is.rest }

session_waits : (session : Option ℕ) (at : ℕ) (old new : Dialler) → SessionWaits session at old new → HasSameDials old new
session_waits None at old new same = same_dials old new same
session_waits (Some s) at old new waits = waits_by (plan_at old s) s at old new waits

waits_if_ended : (board : Board) (at k : ℕ) (old new : Dialler) → WaitsIfEnded board at k old new → HasSameDials old new
waits_if_ended board at k old new is = elim is [
  | inl ended ↦ session_waits (connection_at board k).session at old new ended.1
  | inr stands ↦ same_dials old new stands.1
]

waits_in_turn : (board : Board) (places : List ℕ) (at count : ℕ) (old new : Dialler) → InTurn (λ i. WaitsIfEnded board at (slice_index_or places i 0)) count old new → HasSameDials old new
waits_in_turn board places at count old new waits =
    each_in_turn (λ i. WaitsIfEnded board at (slice_index_or places i 0)) HasSameDials (λ d. same_dials d d refl) further_dials (λ i a b. waits_if_ended board at (slice_index_or places i 0) a b) count old new waits

-- nor at the wire
pub quiet_door : (old new : AtWire) → QuietStep old new → new.door ≡ old.door
quiet_door _ _ (walk.read k door old new is) = refl
quiet_door _ _ (walk.ticked s door links old new is) = refl
quiet_door _ _ (walk.served i door links old new is) = refl
quiet_door _ _ (walk.noted s door links old new is) = refl
quiet_door _ _ (walk.published s door links old new is) = refl
quiet_door _ _ (walk.written door links_old links_new old new bytes is) = refl

-- A relation of boards, one behind another, that each happening keeps by which no connection comes.
pub record IsKept (R : Board → Board → Type 0) : Type 0 where
  pub itself : (board : Board) → R board board
  pub further : (first second third : Board) → R first second → R second third → R first third
  pub happens : (happening : Happening) (old new : Board) → is_coming happening ≡ false → Happens happening old new → R old new

module _ (R : Board → Board → Type 0) (g : IsKept R) where
  pub unchanged : (old new : Board) → new ≡ old → R old new
  unchanged old new same = subst (R old) (sym same) (g.itself old)

  pub reached : (happenings : List Happening) (old new : Board) → All IsQuiet happenings → Reaches happenings old new → R old new
  reached [] old new all same = unchanged old new same
  reached (happening ∷ happenings) old new all steps =
      g.further old steps.0 new (g.happens happening old steps.0 (All-head IsQuiet happening happenings all) steps.1.0)
      (reached happenings steps.0 new (All-tail IsQuiet happening happenings all) steps.1.1)

  pub gathered : (s at until : ℕ) (old new : LeaseDesk) → Gathers s at until old new → R old.board new.board
  gathered s at until old new is =
      let shown = shows s is.word (bodies_of is.items) at until in
      reached (reserves s ∷ shown ∷ []) old.board new.board (All-cons IsQuiet (reserves s) (shown ∷ []) refl (one_quiet shown refl)) is.reaches

  heard : (s k : ℕ) (body : List ℕ) (at until : ℕ) (old new : LeaseDesk) (unkept_old unkept_new : List Pending) (end : Option Cause) → Hears s k body at until old new unkept_old unkept_new end → R old.board new.board
  heard s k body at until old new unkept_old unkept_new end is =
      let rest = All-append IsQuiet (answering k end) (ending s (Some k) end) (answering_quiet (is_answer end) k) (ending_quiet s (Some k) end) in
      g.further old.board is.gathered.board new.board (gathered s at until old is.gathered is.gathers)
      (reached (receives s k body at ∷ (answering k end ++ ending s (Some k) end)) is.gathered.board new.board
      (All-cons IsQuiet (receives s k body at) (answering k end ++ ending s (Some k) end) refl rest) is.follows)

  pub bound_by : (s k : ℕ) (body : List ℕ) (at : ℕ) (end : Option Cause) (old new : Board) → Happens (binding s k body at end) old new → R old new
  bound_by s k body at None old new is = g.happens (binds s k body at) old new refl is
  bound_by s k body at (Some cause) old new is = g.happens (binds_and_ends s k body at cause) old new refl is

  greeted : (found : Result ℕ Cause) (k : ℕ) (body : List ℕ) (at until : ℕ) (old new : LeaseDesk) (unkept_old unkept_new : List Pending) (end : Option Cause)
      → GreetsAs found k body at until old new unkept_old unkept_new end → R old.board new.board
  greeted (Ok s) k body at until old new unkept_old unkept_new end is =
      g.further old.board is.gathered.board new.board (gathered s at until old is.gathered is.gathers) (bound_by s k body at end is.gathered.board new.board is.binds)
  greeted (Err cause) k body at until old new unkept_old unkept_new end is = g.happens (ends_unbound k cause) old.board new.board refl is.ends

  ticked : (s at until : ℕ) (old new : LeaseDesk) (end : Option Cause) → Ticks s at until old new end → R old.board new.board
  ticked s at until old new end is =
      let reserved = (state_of (book_at is.gathered.board s).entries).reserved in
      let last = ending s (place_at is.lapsed s) end in
      g.further old.board is.gathered.board new.board (gathered s at until old is.gathered is.gathers)
      (g.further is.gathered.board is.lapsed new.board (reached (lapsing s reserved at) is.gathered.board is.lapsed (lapsing_quiet s reserved at) is.lapses)
      (reached (ticks s at ∷ last) is.lapsed new.board (All-cons IsQuiet (ticks s at) last refl (ending_quiet s (place_at is.lapsed s) end)) is.follows))

  parted : (session : Option ℕ) (k : ℕ) (cause : Cause) (old new : Board) → Happens (parting session k cause) old new → R old new
  parted session k cause old new is = g.happens (parting session k cause) old new (parting_quiet session k cause) is

  -- a move as a connection is read, and as connections are written to
  read_moved : (routes : Routes) (k at until : ℕ) (old new : ReadSoFar) → ReadMove routes k at until old new → R old.desk.board new.desk.board
  read_moved routes k at until _ _ (walk.bytes_come bytes old new is) = g.happens (takes k bytes) old.board new.board refl is.0
  read_moved routes k at until _ _ (walk.garbled_out size old new next is) = g.happens (gives k) old.board new.board refl is.0
  read_moved routes k at until _ _ (walk.body_out body old new next is) = g.happens (gives k) old.board new.board refl is.0
  read_moved routes k at until _ _ (walk.heard s body end old new named is) = heard s k body at until old.desk new.desk old.unkept new.unkept end is
  read_moved routes k at until _ _ (walk.greeted body end old new unnamed is) =
      greeted (greeting old.desk.board routes (result_ok (fields_of body))) k body at until old.desk new.desk old.unkept new.unkept end is
  read_moved routes k at until _ _ (walk.none_out old new none is) = g.happens (gives k) old.board new.board refl is.0
  read_moved routes k at until _ _ (walk.had_ended desk ended) = g.itself desk.board
  read_moved routes k at until _ _ (walk.parted cause old new ends is) = parted (connection_at old.board k).session k cause old.board new.board is.0

  pub reads_walked : (routes : Routes) (k at until : ℕ) (old new : ReadSoFar) → Walk (ReadMove routes k at until) old new → R old.desk.board new.desk.board
  reads_walked routes k at until =
      walked (ReadMove routes k at until) (λ a b. R a.desk.board b.desk.board) (λ a. g.itself a.desk.board) (λ a b c. g.further a.desk.board b.desk.board c.desk.board) (read_moved routes k at until)

  write_moved : (old new : LeaseDesk) → WriteMove old new → R old.board new.board
  write_moved _ _ (walk.made s k old new is) = g.happens (prepares s k) old.board new.board refl is.0
  write_moved _ _ (walk.wrote k n old new is) = g.happens (writes k n) old.board new.board refl is.0
  write_moved _ _ (walk.left k stop cause old new ends is) = parted (connection_at old.board k).session k cause old.board new.board is.0
  write_moved _ _ (walk.stayed old new board seat) = unchanged old.board new.board board

  pub writes_walked : (old new : LeaseDesk) → Walk WriteMove old new → R old.board new.board
  writes_walked = walked WriteMove (λ a b. R a.board b.board) (λ a. g.itself a.board) (λ a b c. g.further a.board b.board c.board) write_moved

  -- each session is gathered, one after another
  pub gathered_in_turn : (count at until : ℕ) (old new : LeaseDesk) → InTurn (λ s. Gathers s at until) count old new → R old.board new.board
  gathered_in_turn count at until old new gathers =
      each_in_turn (λ s. Gathers s at until) (λ a b. R a.board b.board) (λ desk. g.itself desk.board) (λ a b c. g.further a.board b.board c.board) (λ s a b. gathered s at until a b) count old new gathers

  -- the steps of a turn, but for those by which a connection comes, keep the counts of those that came, and how many may
  pub record EngineKeeps (old new : Engine) : Type 0 where
    pub board : R old.sessions.desk.board new.sessions.desk.board
    pub accepted : new.accepted ≡ old.accepted
    pub connections : new.connections ≡ old.connections
    pub dials : HasSameDials old.dialler new.dialler

  engine_itself : (e : Engine) → EngineKeeps e e
  engine_itself e = record { board = g.itself e.sessions.desk.board; accepted = refl; connections = refl; dials = same_dials e.dialler e.dialler refl }

  pub engine_further : (first second third : Engine) → EngineKeeps first second → EngineKeeps second third → EngineKeeps first third
  engine_further first second third one two = record {
    board = g.further first.sessions.desk.board second.sessions.desk.board third.sessions.desk.board one.board two.board;
    accepted = two.accepted ∙ one.accepted;
    connections = two.connections ∙ one.connections;
    dials = further_dials first.dialler second.dialler third.dialler one.dials two.dials;
  }

  -- where only sessions, lines and room are other ones
  engine_kept : (old new : Engine) → R old.sessions.desk.board new.sessions.desk.board → new.accepted ≡ old.accepted → new.connections ≡ old.connections → new.dialler ≡ old.dialler → EngineKeeps old new
  engine_kept old new board accepted connections dialler = record { board = board; accepted = accepted; connections = connections; dials = same_dials old.dialler new.dialler dialler }

  engine_in_turn : (Step : ℕ → Engine → Engine → Type 0) (count : ℕ) (old new : Engine) → ((i : ℕ) (a b : Engine) → Step i a b → EngineKeeps a b) → InTurn Step count old new → EngineKeeps old new
  engine_in_turn Step count old new each steps = each_in_turn Step EngineKeeps engine_itself engine_further each count old new steps

  module _ (walks : WalkLaws) where
    one_read : (k : ℕ) (old new : Reading) → ReadsIfStands k old new → EngineKeeps old.engine new.engine
    one_read k old new is = elim is [
      | inl reads ↦ engine_kept old.engine new.engine (reads_walked _ k old.engine.moment (until_of old.engine) _ _ (walks.reads reads.answer _ k _ old.engine.moment (until_of old.engine) _ _ reads.reads))
          (ap (λ (e : Engine). e.accepted) reads.rest) (ap (λ (e : Engine). e.connections) reads.rest) (ap (λ (e : Engine). e.dialler) reads.rest)
      | inr none ↦ subst (λ (r : Reading). EngineKeeps old.engine r.engine) (sym none.1) (engine_itself old.engine)
    ]

    pub all_read : (places : List ℕ) (count : ℕ) (old new : Reading) → InTurn (λ i. ReadsIfStands (slice_index_or places i 0)) count old new → EngineKeeps old.engine new.engine
    all_read places count old new reads =
        each_in_turn (λ i. ReadsIfStands (slice_index_or places i 0)) (λ (a b : Reading). EngineKeeps a.engine b.engine) (λ a. engine_itself a.engine)
        (λ a b c. engine_further a.engine b.engine c.engine) (λ i a b. one_read (slice_index_or places i 0) a b) count old new reads

    session_ticked : (s : ℕ) (old new : Engine) → TicksSession s old new → EngineKeeps old new
    session_ticked s old new is =
        engine_kept old new (ticked s old.moment (until_of old) old.sessions.desk new.sessions.desk is.end is.ticks)
        (ap (λ (e : Engine). e.accepted) is.rest) (ap (λ (e : Engine). e.connections) is.rest) (ap (λ (e : Engine). e.dialler) is.rest)

    pub all_ticked : (count : ℕ) (old new : Engine) → InTurn TicksSession count old new → EngineKeeps old new
    all_ticked count old new ticks_are = engine_in_turn TicksSession count old new session_ticked ticks_are

    session_noted : (s : ℕ) (old new : Engine) → NotesSession s old new → EngineKeeps old new
    session_noted s old new is =
        engine_kept old new (unchanged old.sessions.desk.board new.sessions.desk.board (ap (λ (e : Engine). e.sessions.desk.board) is.1))
        (ap (λ (e : Engine). e.accepted) is.1) (ap (λ (e : Engine). e.connections) is.1) (ap (λ (e : Engine). e.dialler) is.1)

    session_published : (s : ℕ) (old new : Engine) → PublishesSession s old new → EngineKeeps old new
    session_published s old new is =
        engine_kept old new (unchanged old.sessions.desk.board new.sessions.desk.board is.board)
        (ap (λ (e : Engine). e.accepted) is.rest) (ap (λ (e : Engine). e.connections) is.rest) (ap (λ (e : Engine). e.dialler) is.rest)

    pub all_published : (count : ℕ) (old new : Engine) → InTurn PublishesSession count old new → EngineKeeps old new
    all_published count old new publishes = engine_in_turn PublishesSession count old new session_published publishes

    all_written : (links_old links_new : ℕ → Link) (old new : Engine) (bytes : ℕ) → WritesAll links_old links_new old new bytes → EngineKeeps old new
    all_written links_old links_new old new bytes is =
        let places = open_places old.lines in
        record {
          board = writes_walked _ _ (walks.writes places (length places) (written_so_far old.sessions.desk old.lines.unkept.items links_old 0) (written_so_far new.sessions.desk old.lines.unkept.items links_new bytes) is.writes);
          accepted = ap (λ (e : Engine). e.accepted) is.rest;
          connections = ap (λ (e : Engine). e.connections) is.rest;
          dials = waits_in_turn new.sessions.desk.board old.lines.dialled.items old.moment (length old.lines.dialled.items) old.dialler new.dialler is.waits;
        }

    module _ (serves : (library at until : ℕ) (old new : LibraryDesk) (turn : LibTurn) → Serves library at until old new turn → RunsFor at old.desk.board new.desk.board) where
      one_served : (library : ℕ) (old new : Serving) → ServesOne library old new → EngineKeeps old.engine new.engine
      one_served library old new is =
          let at = old.engine.moment in
          let runs = serves library at (until_of old.engine) old.engine.sessions new.engine.sessions is.turn is.serves in
          engine_kept old.engine new.engine (reached runs.happenings old.engine.sessions.desk.board new.engine.sessions.desk.board (All-weaker (IsOfLibraries at) IsQuiet (library_quiet at) runs.happenings runs.all) runs.reaches)
          (ap (λ (e : Engine). e.accepted) is.rest) (ap (λ (e : Engine). e.connections) is.rest) (ap (λ (e : Engine). e.dialler) is.rest)

      pub all_served : (count : ℕ) (old new : Serving) → InTurn (λ i. ServesOne (i + 1)) count old new → EngineKeeps old.engine new.engine
      all_served count old new served =
          each_in_turn (λ i. ServesOne (i + 1)) (λ (a b : Serving). EngineKeeps a.engine b.engine) (λ a. engine_itself a.engine)
          (λ a b c. engine_further a.engine b.engine c.engine) (λ i a b. one_served (i + 1) a b) count old new served

      pub quiet_step : (old new : AtWire) → QuietStep old new → EngineKeeps old.engine new.engine
      quiet_step _ _ (walk.read k door old new is) = one_read k old new is
      quiet_step _ _ (walk.ticked s door links old new is) = session_ticked s old new is
      quiet_step _ _ (walk.served i door links old new is) = one_served (i + 1) old new is
      quiet_step _ _ (walk.noted s door links old new is) = session_noted s old new is
      quiet_step _ _ (walk.published s door links old new is) = session_published s old new is
      quiet_step _ _ (walk.written door links_old links_new old new bytes is) = all_written links_old links_new old new bytes is
