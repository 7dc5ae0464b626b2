-- The steps of a turn, and the moves of a read and of writing, one behind another; and what each of them keeps, all of them keep.
use Rattle.std.proofs.Common.{◌≡◌, inl, inr, ℕ, zero, suc, ◌+◌, ◌<◌, ◌≤◌, List, [], ◌∷◌, length, Option, None, Some, refl, sym, subst, arith}
use Rattle.std.specs.Prelude.{slice_index_or}
use Rattle.engine_laws.specs.Account.{Progress, cutting, done, handling}
use Rattle.engine_laws.specs.walks.Walks as walk
use Rattle.engine_laws.specs.walks.Walks.{EndsReading, HappensAlone, QuietStep, ReadMove, ReadSoFar, TurnStep, Walk, WriteMove, read_so_far}
use Rattle.engine_loop.specs.Turns.{AtWire, DialsSession, GivesTurn, MakesTurn, NotesSession, PublishesSession, Reading, ReadsIfStands, ServesOne, Serving, TakesTurn, TicksSession, at_wire, reading_of, serving_of, with_moment}
use Rattle.engine_loop.specs.declared.engine.Engine.{Engine}
use Rattle.engine_loop.specs.declared.records.Taken.{Taken}
use Rattle.engine_loop.specs.declared.records.Turn.{Turn}
use Rattle.fix_frame.specs.Cut.{CutPiece, garbled, good}
use Rattle.gate_io.specs.Wire.{Link}
use Rattle.gate_io.specs.declared.wires.WireGot.{WireGot}
use Rattle.gate_io.specs.declared.wires.WireGot.TheVariants as got
use Rattle.lease_desk.specs.Desk.{InTurn}
use Rattle.lease_desk.specs.declared.desk.LeaseDesk.{LeaseDesk}
use Rattle.session_core.specs.declared.causes.Cause.{Cause}
use Rattle.session_core.specs.declared.causes.Cause.TheVariants.{End, ReadFault, Silent}
use Rattle.session_desk.specs.declared.routes.Routes.{Routes}
use Rattle.switchboard.specs.Board.{connection_at}
use Rattle.switchboard.specs.Happenings.{gives, next_pieces}
use Rattle.wire_desk.specs.Places.{open_places}
use Rattle.wire_desk.specs.Steps.{Handles, HandlesAll, HandlesBody, HandlesNext, LeavesIfTardy, PartsBy, PartsIfNeeded, PreparesTo, Reads, ReadsAs, Sessions, StopsAt, Writes, WritesAt, WritesInTurn, WritesSome, WrittenSoFar, cause_behind, sessions_of}
use Rattle.wire_desk.specs.declared.written.Stop.{Stop}
use Rattle.wire_desk.specs.declared.written.Written.{Written}

-- what each step of a walk keeps, the whole keeps
pub walked : {T : Type 0} (Step Keeps : T → T → Type 0) → ((t : T) → Keeps t t) → ((a b c : T) → Keeps a b → Keeps b c → Keeps a c) → ((a b : T) → Step a b → Keeps a b)
    → (old new : T) → Walk Step old new → Keeps old new
walked Step Keeps itself further each _ _ (walk.nothing at) = itself at
walked Step Keeps itself further each _ _ (walk.one old new is) = each old new is
walked Step Keeps itself further each _ _ (walk.further first second third a b) =
    further first second third (walked Step Keeps itself further each first second a) (walked Step Keeps itself further each second third b)

-- steps of one kind, one after another, of something
pub each_in_turn : {T : Type 0} (Step : ℕ → T → T → Type 0) (Keeps : T → T → Type 0) → ((t : T) → Keeps t t) → ((a b c : T) → Keeps a b → Keeps b c → Keeps a c) → ((i : ℕ) (a b : T) → Step i a b → Keeps a b)
    → (n : ℕ) (old new : T) → InTurn Step n old new → Keeps old new
each_in_turn Step Keeps itself further each zero old new same = subst (λ t. Keeps old t) (sym same) (itself old)
each_in_turn Step Keeps itself further each (suc n) old new steps =
    further old steps.0 new (each_in_turn Step Keeps itself further each n old steps.0 steps.1) (each n steps.0 new steps.2)

-- and where each step's place is below a count
pub small_in_turn : {T : Type 0} (Step : ℕ → T → T → Type 0) (Keeps : T → T → Type 0) → ((t : T) → Keeps t t) → ((a b c : T) → Keeps a b → Keeps b c → Keeps a c) → (count : ℕ) → ((i : ℕ) (a b : T) → i < count → Step i a b → Keeps a b)
    → (n : ℕ) → n ≤ count → (old new : T) → InTurn Step n old new → Keeps old new
small_in_turn Step Keeps itself further count each zero within old new same = subst (λ t. Keeps old t) (sym same) (itself old)
small_in_turn Step Keeps itself further count each (suc n) within old new steps =
    further old steps.0 new (small_in_turn Step Keeps itself further count each n (omega arith) old steps.0 steps.1) (each n steps.0 new (omega arith) steps.2)

-- such steps are a walk of what each of them is
in_turn : {T U : Type 0} (Way : U → U → Type 0) (at : T → U) (Step : ℕ → T → T → Type 0) → ((i : ℕ) (a b : T) → Step i a b → Walk Way (at a) (at b)) → (n : ℕ) (old new : T) → InTurn Step n old new → Walk Way (at old) (at new)
in_turn Way at Step each n old new steps =
    each_in_turn Step (λ a b. Walk Way (at a) (at b)) (λ a. walk.nothing (at a)) (λ a b c. walk.further (at a) (at b) (at c)) each n old new steps

-- what each step of a turn keeps of the engine, a turn keeps
pub turn_walked : (Keeps : Engine → Engine → Type 0) → ((e : Engine) → Keeps e e) → ((a b c : Engine) → Keeps a b → Keeps b c → Keeps a c) → ((a b : AtWire) → TurnStep a b → Keeps a.engine b.engine)
    → (old new : AtWire) → Walk TurnStep old new → Keeps old.engine new.engine
turn_walked Keeps itself further each = walked TurnStep (λ a b. Keeps a.engine b.engine) (λ a. itself a.engine) (λ a b c. further a.engine b.engine c.engine) each

-- The pieces of one connection.
module _ (routes : Routes) (k at until : ℕ) where
  abbrev Goes : Progress → LeaseDesk → Progress → LeaseDesk → Type 0
  Goes before old behind new = Walk (ReadMove routes k at until) (read_so_far before old) (read_so_far behind new)

  moved : (before behind : Progress) (old new : LeaseDesk) → ReadMove routes k at until (read_so_far before old) (read_so_far behind new) → Goes before old behind new
  moved before behind old new is = walk.one (read_so_far before old) (read_so_far behind new) is

  chained : (one two three : Progress) (first second third : LeaseDesk) → Goes one first two second → Goes two second three third → Goes one first three third
  chained one two three first second third = walk.further (read_so_far one first) (read_so_far two second) (read_so_far three third)

  rests : (progress : Progress) (old new : Sessions) → new ≡ old → Goes progress old.desk progress new.desk
  rests progress old new same = subst (λ (sessions : Sessions). Goes progress old.desk progress sessions.desk) (sym same) (walk.nothing (read_so_far progress old.desk))

  body_handled : (session : Option ℕ) (body : List ℕ) (old new : Sessions) → (connection_at old.desk.board k).session ≡ session → HandlesBody session routes k body at until old new
      → Goes (handling body) old.desk cutting new.desk
  body_handled (Some s) body old new named is = moved (handling body) cutting old.desk new.desk (walk.heard s body is.0 old new named is.1)
  body_handled None body old new named is = moved (handling body) cutting old.desk new.desk (walk.greeted body is.0 old new named is.1)

  piece_handled : (piece : CutPiece) (old given new : Sessions) → next_pieces (connection_at old.desk.board k) ≡ piece ∷ [] → HappensAlone (gives k) old.desk given.desk → Handles piece routes k at until given new
      → Goes cutting old.desk cutting new.desk
  piece_handled (garbled size) old given new next gave same =
      chained cutting cutting cutting old.desk given.desk new.desk (moved cutting cutting old.desk given.desk (walk.garbled_out size old.desk given.desk next gave)) (rests cutting given new same)
  piece_handled (good body) old given new next gave handles =
      chained cutting (handling body) cutting old.desk given.desk new.desk (moved cutting (handling body) old.desk given.desk (walk.body_out body old.desk given.desk next gave))
      (body_handled (connection_at given.desk.board k).session body given new refl handles)

  pub next_handled : (old new : Sessions) → HandlesNext routes k at until old new → Goes cutting old.desk cutting new.desk
  next_handled old new is = piece_handled is.piece old (sessions_of is.given old.unkept) new is.is_next (is.gives, is.seat) is.handles

  pub some_handled : (count : ℕ) (old new : Sessions) → InTurn (λ i. HandlesNext routes k at until) count old new → Goes cutting old.desk cutting new.desk
  some_handled count old new steps =
      in_turn (ReadMove routes k at until) (λ (sessions : Sessions). read_so_far cutting sessions.desk) (λ i. HandlesNext routes k at until) (λ i a b. next_handled a b) count old new steps

  stopped : (old new : Sessions) → StopsAt k old new → Goes cutting old.desk done new.desk
  stopped old new stops = elim stops [
    | inl ended ↦ chained cutting done done old.desk old.desk new.desk (moved cutting done old.desk old.desk (walk.had_ended old.desk ended.0)) (rests done old new ended.1)
    | inr finds ↦ moved cutting done old.desk new.desk (walk.none_out old.desk new.desk finds.none (finds.gives, finds.seat))
  ]

  pub all_handled : (old new : Sessions) → HandlesAll routes k at until old new → Goes cutting old.desk done new.desk
  all_handled old new is = chained cutting cutting done old.desk is.between.desk new.desk (some_handled is.count old is.between is.handles) (stopped is.between new is.stops)

  parted_by : (cause : Cause) (old new : Sessions) → EndsReading old.desk.board k at cause → PartsBy k cause old new → Goes done old.desk done new.desk
  parted_by cause old new ends is = moved done done old.desk new.desk (walk.parted cause old.desk new.desk ends (is.parts, is.seat))

  pub read_as : (answer : WireGot) (buffer : List ℕ) (old new : Sessions) → ReadsAs answer routes k buffer at until old new → Goes done old.desk done new.desk
  read_as (got.Bytes n) buffer old new is =
      chained done cutting done old.desk is.taken new.desk (moved done cutting old.desk is.taken (walk.bytes_come _ old.desk is.taken (is.takes, is.seat))) (all_handled (sessions_of is.taken old.unkept) new is.handles)
  read_as got.End buffer old new is = parted_by End old new (inl refl) is
  read_as got.Failed buffer old new is = parted_by ReadFault old new (inr (inl refl)) is
  read_as got.Blocked buffer old new is = rests done old new is

  tardy_left : (old new : Sessions) → LeavesIfTardy k at old new → Goes done old.desk done new.desk
  tardy_left old new leaves = elim leaves [
    | inl tardy ↦ parted_by (Silent (connection_at old.desk.board k).since) old new (inr (inr (tardy.0, refl))) tardy.1
    | inr same ↦ rests done old new same.1
  ]

  pub read : (answer : WireGot) (buffer : List ℕ) (old new : Sessions) → Reads answer routes k buffer at until old new → Goes done old.desk done new.desk
  read answer buffer old new is = chained done done done old.desk is.between.desk new.desk (read_as answer buffer old is.between is.reads) (tardy_left is.between new is.tardy)

-- A connection is written to.
prepared_to : (session : Option ℕ) (k : ℕ) (old new : LeaseDesk) → PreparesTo session k old.board new.board → new.seat ≡ old.seat → WriteMove old new
prepared_to None k old new same seat = walk.stayed old new same seat
prepared_to (Some s) k old new is seat = walk.made s k old new (is.0, seat)

written_some : (k n : ℕ) (old new : LeaseDesk) → WritesSome k n old.board new.board → new.seat ≡ old.seat → WriteMove old new
written_some k n old new writes_some seat = elim writes_some [
  | inl none ↦ walk.stayed old new none.1 seat
  | inr some ↦ walk.wrote k n old new (some, seat)
]

parted_if_needed : (k : ℕ) (stop : Stop) (cause : Option Cause) (old new : LeaseDesk) → cause_behind stop (connection_at old.board k) ≡ cause → PartsIfNeeded cause k old.board new.board → new.seat ≡ old.seat → WriteMove old new
parted_if_needed k stop None old new ends same seat = walk.stayed old new same seat
parted_if_needed k stop (Some cause) old new ends is seat = walk.left k stop cause old new ends (is, seat)

pub written : (of : Written) (k : ℕ) (link_old link_new : Link) (old new : Sessions) → Writes of k link_old link_new old new → Walk WriteMove old.desk new.desk
written of k link_old link_new old new is =
    let desk = old.desk in
    let last = new.desk in
    let prepared = record desk { board = is.prepared } in
    walk.further desk prepared last (walk.one desk prepared (prepared_to (connection_at desk.board k).session k desk prepared is.prepares refl))
    (walk.further prepared is.wrote last (walk.one prepared is.wrote (written_some k of.bytes prepared is.wrote is.writes is.seat))
    (walk.one is.wrote last (parted_if_needed k of.stop (cause_behind of.stop (connection_at is.wrote.board k)) is.wrote last refl is.ends is.seat_behind)))

pub written_in_turn : (places : List ℕ) (count : ℕ) (old new : WrittenSoFar) → WritesInTurn places count old new → Walk WriteMove old.sessions.desk new.sessions.desk
written_in_turn places count old new steps =
    in_turn WriteMove (λ (so_far : WrittenSoFar). so_far.sessions.desk) (λ i. WritesAt (slice_index_or places i 0)) (λ i a b is. written is.written (slice_index_or places i 0) _ _ a.sessions b.sessions is.writes) count old new steps

-- The steps of a turn.
quiet : (old new : AtWire) → QuietStep old new → Walk TurnStep old new
quiet old new is = walk.one old new (walk.quiet old new is)

-- the first half, from its moment on
pub turn_taken : (reading : ℕ) (old new : AtWire) (taken : Taken) → TakesTurn reading old new taken → Walk TurnStep (at_wire (with_moment reading old.engine) old.door old.links) new
turn_taken reading old new taken is =
    let begun = at_wire (with_moment reading old.engine) old.door old.links in
    let accepted = is.accepted in
    let dialled = is.dialled in
    let door = dialled.door in
    let links = new.links in
    let places = open_places dialled.engine.lines in
    let last = at_wire new.engine door links in
    subst (λ d. Walk TurnStep begun (at_wire new.engine d links)) (sym is.door)
    (walk.further begun accepted last (walk.one begun accepted (walk.accepted taken.accepted begun accepted is.accepts))
    (walk.further accepted dialled last
    (in_turn TurnStep (λ (a : AtWire). a) DialsSession (λ s a b dials. walk.one a b (walk.dialled s a b dials)) (length accepted.engine.sessions.desk.board.sessions) accepted dialled is.dials)
    (walk.further dialled (at_wire is.read door links) last
    (in_turn TurnStep (λ (r : Reading). at_wire r.engine door r.links) (λ i. ReadsIfStands (slice_index_or places i 0))
    (λ i a b reads. quiet (at_wire a.engine door a.links) (at_wire b.engine door b.links) (walk.read (slice_index_or places i 0) door a b reads)) (length places)
    (reading_of dialled.engine dialled.links []) (reading_of is.read links taken.reads) is.reads)
    (walk.further (at_wire is.read door links) (at_wire is.ticked door links) last
    (in_turn TurnStep (λ (e : Engine). at_wire e door links) TicksSession (λ s a b ticks. quiet (at_wire a door links) (at_wire b door links) (walk.ticked s door links a b ticks))
    (length is.read.sessions.desk.board.sessions) is.read is.ticked is.ticks)
    (walk.further (at_wire is.ticked door links) (at_wire is.served door links) last
    (in_turn TurnStep (λ (s : Serving). at_wire s.engine door links) (λ i. ServesOne (i + 1)) (λ i a b serves. quiet (at_wire a.engine door links) (at_wire b.engine door links) (walk.served i door links a b serves))
    (length is.ticked.sessions.ends.items) (serving_of is.ticked []) (serving_of is.served taken.libs) is.serves)
    (in_turn TurnStep (λ (e : Engine). at_wire e door links) NotesSession (λ s a b notes. quiet (at_wire a door links) (at_wire b door links) (walk.noted s door links a b notes))
    (length is.served.sessions.desk.board.sessions) is.served new.engine is.notes))))))

-- the second
pub turn_given : (old new : AtWire) (taken : Taken) (turn : Turn) → GivesTurn old new taken turn → Walk TurnStep old new
turn_given old new taken turn is =
    let all = is.gives in
    let door = old.door in
    let published = at_wire all.published door old.links in
    let last = at_wire new.engine door new.links in
    subst (λ d. Walk TurnStep old (at_wire new.engine d new.links)) (sym is.door)
    (walk.further old published last
    (in_turn TurnStep (λ (e : Engine). at_wire e door old.links) PublishesSession (λ s a b publishes. quiet (at_wire a door old.links) (at_wire b door old.links) (walk.published s door old.links a b publishes))
    (length old.engine.sessions.desk.board.sessions) old.engine all.published all.publishes)
    (quiet published last (walk.written door old.links new.links all.published new.engine turn.written all.writes)))

pub turn_made : (reading : ℕ) (old new : AtWire) (turn : Turn) → MakesTurn reading old new turn → Walk TurnStep (at_wire (with_moment reading old.engine) old.door old.links) new
turn_made reading old new turn is =
    walk.further (at_wire (with_moment reading old.engine) old.door old.links) is.middle new (turn_taken reading old is.middle is.taken is.takes) (turn_given is.middle new is.taken turn is.gives)
