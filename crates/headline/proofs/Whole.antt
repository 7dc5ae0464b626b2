-- Of a connection that ended from outside each whole piece was handed out before.
use Rattle.std.proofs.Common.{◌≡◌, inl, inr, ℕ, zero, suc, ◌+◌, ◌<◌, ◌≤◌, Bool, true, false, List, [], ◌∷◌, ◌++◌, get_or, length, set, Option, None, Some, Result, Ok, Err, refl, sym, ap, subst, ◌∙◌, arith}
use Rattle.std.proofs.lemmas.List.Elements.{All-cons, All-head, All-nil, All-push, All-tail, All-weaker}
use Rattle.std.proofs.lemmas.Option.{none-some, same_Some}
use Rattle.std.specs.List.{All}
use Rattle.std.specs.Prelude.{IsNone, if◌then◌else◌, nat_lt, unwrap_or}
use Rattle.std.specs.Result.{result_ok}
use Rattle.connection_core.specs.Connection.{ConnectionState, after_end, after_next, after_taking, fresh, fresh_dial}
use Rattle.engine_laws.specs.Account.{IsAccountedFor, IsAccountedWith, IsAside, KeepsAccount, Progress, all_done, cutting, handling, only}
use Rattle.engine_laws.specs.walks.Walks as walk
use Rattle.engine_laws.specs.walks.Walks.{QuietStep, ReadMove, ReadSoFar, TurnStep, WriteMove}
use Rattle.engine_laws.specs.Turns.{EngineStaysAccountedFor, board_of}
use Rattle.engine_loop.specs.Engines.{until_of}
use Rattle.engine_loop.specs.Turns.{AcceptsNext, AtWire, DialsSession, MakesTurn, NotesSession, PublishesSession, Reading, ReadsIfStands, ServesOne, Serving, TicksSession, WritesAll, at_wire, with_moment}
use Rattle.engine_loop.specs.declared.engine.Engine.{Engine}
use Rattle.engine_loop.specs.declared.records.Turn.{Turn}
use Rattle.fix_fields.specs.Reading.{fields_of}
use Rattle.fix_frame.specs.Cut.{cut}
use Rattle.fix_frame.specs.declared.layout.TheConstants.{LONGEST_FRAME}
use Rattle.gate_io.specs.Wire.{Link}
use Rattle.gate_io.specs.declared.dials.Dialled.{Dialled}
use Rattle.gate_io.specs.declared.dials.Dialled.TheVariants as dial
use Rattle.gate_io.specs.declared.wires.Accepted.{Accepted}
use Rattle.gate_io.specs.declared.wires.Accepted.TheVariants as accept
use Rattle.gate_io.specs.declared.wires.WireGot.{WireGot}
use Rattle.headline.proofs.Causes.{IsInnerErr, greeting_inner, message_inner}
use Rattle.headline.proofs.Walking.{each_in_turn, so_far, turn_walked, walked}
use Rattle.headline.specs.Ends.{AllEndedWhole, EndedWhole, HoldsNone, is_from_outside}
use Rattle.headline.specs.Needed.{AccountLaws}
use Rattle.lease_core.specs.State.{state_of}
use Rattle.lease_core.specs.declared.entry.Entry.{Entry}
use Rattle.lease_desk.specs.Desk.{Gathers, InTurn, bodies_of}
use Rattle.lease_desk.specs.declared.desk.LeaseDesk.{LeaseDesk}
use Rattle.library_desk.specs.Happening.{IsOfLibraries}
use Rattle.session_book.specs.Book.{Book}
use Rattle.session_book.specs.Records.{Pending}
use Rattle.session_core.specs.State.{State}
use Rattle.session_core.specs.declared.causes.Cause.{Cause}
use Rattle.session_desk.specs.Steps.{GreetsAs, Hears, Ticks, binding, ending, greeting, is_answer, lapsing, parting}
use Rattle.session_desk.specs.declared.routes.Routes.{Routes}
use Rattle.switchboard.specs.Board.{Board, OutboxChanges, book_at, connection_at, no_connection, place_at}
use Rattle.switchboard.specs.Brought.{good_bodies}
use Rattle.switchboard.specs.Happenings.{BindsTo, BookChanges, ConnectionChanges, EndsBound, Happening, Happens, Reaches, SessionGoesOn, accepts, answers, binds, binds_and_ends, dials, ends_bound, ends_unbound, gives, lapses, prepares, receives, requests, reserves, shows, takes, ticks, times_out, writes}
use Rattle.switchboard.specs.Ready.{IsReady}
use Rattle.wire_desk.specs.Dials.{DialsAs}
use Rattle.wire_desk.specs.Places.{open_places}
use Rattle.wire_desk.specs.Steps.{AcceptsAs, Reads, Sessions, WritesInTurn, WrittenSoFar, written_so_far}
use Rattle.wire_desk.specs.declared.dialling.Dialler.{Dialler}

abbrev GoesOnWhole : Board → Board → Type 0
GoesOnWhole old new = AllEndedWhole old → AllEndedWhole new

-- one becomes another
all_set : (cs : List ConnectionState) (k : ℕ) (c : ConnectionState) → (k < length cs → EndedWhole (get_or cs k no_connection) → EndedWhole c) → All EndedWhole cs → All EndedWhole (set cs k c)
all_set [] k c becomes all = all
all_set (x ∷ xs) zero c becomes all = All-cons EndedWhole c xs (becomes (omega arith) (All-head EndedWhole x xs all)) (All-tail EndedWhole x xs all)
all_set (x ∷ xs) (suc k) c becomes all =
    All-cons EndedWhole x (set xs k c) (All-head EndedWhole x xs all) (all_set xs k c (λ within. becomes (omega arith)) (All-tail EndedWhole x xs all))

one_line : (k : ℕ) (c : ConnectionState) (old new : Board) → new.connections ≡ set old.connections k c → (k < length old.connections → EndedWhole (connection_at old k) → EndedWhole c) → GoesOnWhole old new
one_line k c old new changes becomes all = subst (All EndedWhole) (sym changes) (all_set old.connections k c becomes all)

same_lines : (old new : Board) → new.connections ≡ old.connections → GoesOnWhole old new
same_lines old new same all = subst (All EndedWhole) (sym same) all

changing : (k : ℕ) (c : ConnectionState) (old new : Board) → ConnectionChanges k c old new → (EndedWhole (connection_at old k) → EndedWhole c) → GoesOnWhole old new
changing k c old new changes becomes = one_line k c old new (ap (λ (b : Board). b.connections) changes.others) (λ within. becomes)

stands_on : (c : ConnectionState) → IsNone c.cause → EndedWhole c
stands_on c none cause is outside = (let clash = subst IsNone is none in absurd (cc))

alike : (old new : ConnectionState) → new.cause ≡ old.cause → new.held ≡ old.held → EndedWhole old → EndedWhole new
alike old new cause held was why is outside = ap (λ bytes. (cut LONGEST_FRAME bytes).pieces) held ∙ was why (sym cause ∙ is) outside

outboxes : (place : Option ℕ) (old new : Board) → OutboxChanges place old new → GoesOnWhole old new
outboxes None old new changes = same_lines old new changes
outboxes (Some k) old new changes = one_line k (record (connection_at old k) { out = (connection_at new k).out }) old new changes.0 (λ within was. was)

going : (s : ℕ) (old new : Board) → SessionGoesOn s old new → GoesOnWhole old new
going s old new goes = outboxes _ old new goes.others.connections

binding_to : (s k : ℕ) (body : List ℕ) (at : ℕ) (old new : Board) → BindsTo s k body at old new → GoesOnWhole old new
binding_to s k body at old new is =
    one_line k (connection_at new k) old new is.plugged.connections
    (λ within. alike (connection_at old k) (connection_at new k) (ap (λ (c : ConnectionState). c.cause) is.connection) (ap (λ (c : ConnectionState). c.held) is.connection))

alone : (s : ℕ) (book : Book) (old new : Board) → BookChanges s book old new → GoesOnWhole old new
alone s book old new changes = same_lines old new (ap (λ (b : Board). b.connections) changes.others)

-- one ends: by its first cause
ended_by : (c : ConnectionState) (cause : Cause) (first : Option Cause) → c.cause ≡ first → (c.cause ≡ None → is_from_outside cause ≡ true → HoldsNone c) → EndedWhole c → EndedWhole (after_end cause c)
ended_by c cause None stands may was why is outside =
    let same : cause ≡ why = same_Some cause why (ap (λ (o : Option Cause). Some (unwrap_or o cause)) (sym stands) ∙ is) in
    may stands (ap is_from_outside same ∙ outside)
ended_by c cause (Some first) ended may was why is outside =
    let same : first ≡ why = same_Some first why (ap (λ (o : Option Cause). Some (unwrap_or o cause)) (sym ended) ∙ is) in
    was why (ended ∙ ap Some same) outside

-- where a connection may end by this cause
abbrev MayEnd : Board → ℕ → Cause → Type 0
MayEnd board k cause = k < length board.connections → (connection_at board k).cause ≡ None → is_from_outside cause ≡ true → HoldsNone (connection_at board k)

inner_may : (board : Board) (k : ℕ) (cause : Cause) → is_from_outside cause ≡ false → MayEnd board k cause
inner_may board k cause inner within stands outside = (let clash : false ≡ true = sym inner ∙ outside in absurd (cc))

leaving : (s k : ℕ) (cause : Cause) (old new : Board) → MayEnd old k cause → EndsBound s k cause old new → GoesOnWhole old new
leaving s k cause old new may is =
    one_line k (connection_at new k) old new is.unplugged.connections
    (λ within was. subst EndedWhole (sym is.connection) (ended_by (connection_at old k) cause (connection_at old k).cause refl (may within) was))

refused : (k : ℕ) (cause : Cause) (old new : Board) → MayEnd old k cause → Happens (ends_unbound k cause) old new → GoesOnWhole old new
refused k cause old new may is = changing k _ old new is.changes (ended_by (connection_at old k) cause (connection_at old k).cause refl (may is.changes.within))

parted : (session : Option ℕ) (k : ℕ) (cause : Cause) (old new : Board) → MayEnd old k cause → Happens (parting session k cause) old new → GoesOnWhole old new
parted None k cause old new may is = refused k cause old new may is
parted (Some s) k cause old new may is = leaving s k cause old new may is

-- no connection ends by it
abbrev IsCalm : Happening → Type 0
IsCalm (ends_unbound k cause) = ⊥
IsCalm (ends_bound s k cause) = ⊥
IsCalm _ = Unit {0}

calm : (happening : Happening) (old new : Board) → IsCalm happening → Happens happening old new → GoesOnWhole old new
calm (accepts number at) old new quiet is = λ all.
    subst (All EndedWhole) (sym (ap (λ (b : Board). b.connections) is.connection)) (All-push EndedWhole old.connections (fresh number at (connection_at new (length old.connections)).out) all (λ cause none. absurd (none-some cause none)))
calm (dials s number at) old new quiet is = λ all.
    subst (All EndedWhole) (sym is.connection) (All-push EndedWhole old.connections (fresh_dial number at s (connection_at new (length old.connections)).out) all (λ cause none. absurd (none-some cause none)))
calm (takes k bytes) old new quiet is = changing k _ old new is.changes (λ was. stands_on (after_taking bytes (connection_at old k)) is.stands)
calm (gives k) old new quiet is = changing k _ old new is.changes (λ was. stands_on (after_next (connection_at old k)) is.stands)
calm (binds s k body at) old new quiet is = binding_to s k body at old new is.binding
calm (binds_and_ends s k body at cause) old new quiet is = λ all.
    leaving s k cause is.between new (inner_may is.between k cause (message_inner (book_at old s).machine body at cause is.ends)) is.leaves (binding_to s k body at old is.between is.binding all)
calm (receives s k body at) old new quiet is = going s old new is.goes_on
calm (answers k) old new quiet is = changing k _ old new is (λ was. was)
calm (ticks s at) old new quiet is = going s old new is.goes_on
calm (shows s w bodies at until) old new quiet is = going s old new is.goes_on
calm (times_out s w bodies at until) old new quiet is = going s old new is.goes_on
calm (requests s library nr from) old new quiet is = alone s _ old new is
calm (lapses s) old new quiet is = alone s _ old new is
calm (ends_unbound k cause) old new quiet is = absurd quiet
calm (ends_bound s k cause) old new quiet is = absurd quiet
calm (prepares s k) old new quiet is = changing k _ old new is.changes (λ was. was)
calm (writes k n) old new quiet is = changing k _ old new is.changes (λ was. was)
calm (reserves s) old new quiet is = going s old new is.goes_on

reached : (happenings : List Happening) (old new : Board) → All IsCalm happenings → Reaches happenings old new → GoesOnWhole old new
reached [] old new all same = same_lines old new (ap (λ (b : Board). b.connections) same)
reached (happening ∷ happenings) old new all steps = λ was.
    reached happenings steps.0 new (All-tail IsCalm happening happenings all) steps.1.1 (calm happening old steps.0 (All-head IsCalm happening happenings all) steps.1.0 was)

one_calm : (happening : Happening) → IsCalm happening → All IsCalm (happening ∷ [])
one_calm happening is = All-cons IsCalm happening [] is (All-nil IsCalm)

gathered : (s at until : ℕ) (old new : LeaseDesk) → Gathers s at until old new → GoesOnWhole old.board new.board
gathered s at until old new is =
    let shown = shows s is.word (bodies_of is.items) at until in
    reached (reserves s ∷ shown ∷ []) old.board new.board (All-cons IsCalm (reserves s) (shown ∷ []) tt (one_calm shown tt)) is.reaches

-- behind a message
answered_then : (s k : ℕ) (body : List ℕ) (at : ℕ) (is_one : Bool) (end : Option Cause) (old new : Board) → ((cause : Cause) → end ≡ Some cause → is_from_outside cause ≡ false)
    → Reaches (receives s k body at ∷ ((if is_one then answers k ∷ [] else []) ++ ending s (Some k) end)) old new → GoesOnWhole old new
answered_then s k body at true None old new inner is = reached (receives s k body at ∷ answers k ∷ []) old new (All-cons IsCalm (receives s k body at) (answers k ∷ []) tt (one_calm (answers k) tt)) is
answered_then s k body at false None old new inner is = reached (receives s k body at ∷ []) old new (one_calm (receives s k body at) tt) is
answered_then s k body at true (Some cause) old new inner is = λ was.
    let heard = is.0 in
    let told = is.1.1.0 in
    let last = is.1.1.1.1 in
    same_lines last.0 new (ap (λ (b : Board). b.connections) last.1.1)
    (leaving s k cause told last.0 (inner_may told k cause (inner cause refl)) last.1.0 (calm (answers k) heard told tt is.1.1.1.0 (calm (receives s k body at) old heard tt is.1.0 was)))
answered_then s k body at false (Some cause) old new inner is = λ was.
    let heard = is.0 in
    let last = is.1.1 in
    same_lines last.0 new (ap (λ (b : Board). b.connections) last.1.1)
    (leaving s k cause heard last.0 (inner_may heard k cause (inner cause refl)) last.1.0 (calm (receives s k body at) old heard tt is.1.0 was))

heard : (s k : ℕ) (body : List ℕ) (at until : ℕ) (old new : LeaseDesk) (unkept_old unkept_new : List Pending) (end : Option Cause) → Hears s k body at until old new unkept_old unkept_new end → GoesOnWhole old.board new.board
heard s k body at until old new unkept_old unkept_new end is = λ was.
    answered_then s k body at (is_answer end) end is.gathered.board new.board
    (λ cause ends. message_inner (book_at is.gathered.board s).machine body at cause (sym is.end_is ∙ ends)) is.follows
    (gathered s at until old is.gathered is.gathers was)

bound_by : (s k : ℕ) (body : List ℕ) (at : ℕ) (end : Option Cause) (old new : Board) → Happens (binding s k body at end) old new → GoesOnWhole old new
bound_by s k body at None old new is = calm (binds s k body at) old new tt is
bound_by s k body at (Some cause) old new is = calm (binds_and_ends s k body at cause) old new tt is

greeted : (found : Result ℕ Cause) (k : ℕ) (body : List ℕ) (at until : ℕ) (old new : LeaseDesk) (unkept_old unkept_new : List Pending) (end : Option Cause) → IsInnerErr found
    → GreetsAs found k body at until old new unkept_old unkept_new end → GoesOnWhole old.board new.board
greeted (Ok s) k body at until old new unkept_old unkept_new end inner is = λ was.
    bound_by s k body at end is.gathered.board new.board is.binds (gathered s at until old is.gathered is.gathers was)
greeted (Err cause) k body at until old new unkept_old unkept_new end inner is = refused k cause old.board new.board (inner_may old.board k cause inner) is.ends

module _ (before : ℕ → List Entry) (start : ℕ → State) (g : AccountLaws) where
  -- Sessions and connections are accounted for at a moment, and those that ended from outside had each piece that is whole handed out.
  record IsWholeSo (progress : ℕ → Progress) (at : ℕ) (board : Board) : Type 0 where
    ready : IsReady before board
    account : IsAccountedWith progress before start at board
    ended : AllEndedWhole board

  abbrev IsWholeAt : ℕ → Board → Type 0
  IsWholeAt at board = IsWholeSo all_done at board

  abbrev Keeps : ℕ → Board → Board → Type 0
  Keeps at old new = IsWholeAt at old → IsWholeAt at new

  by_account : (one two : ℕ → Progress) (at : ℕ) (old new : Board) → KeepsAccount one two at old new → (IsWholeSo one at old → AllEndedWhole new) → IsWholeSo one at old → IsWholeSo two at new
  by_account one two at old new stays ended was = record {
    ready = stays.ready before was.ready;
    account = stays.account before start at (omega arith) was.ready was.account;
    ended = ended was;
  }

  -- one that stands holds none
  may_end : (at : ℕ) (board : Board) (k : ℕ) (cause : Cause) → IsWholeAt at board → MayEnd board k cause
  may_end at board k cause is within stands outside = (is.account.handled k within).whole refl stands

  parts_at : (session : Option ℕ) (k : ℕ) (cause : Cause) (at : ℕ) (old new : Board) → Happens (parting session k cause) old new → Keeps at old new
  parts_at session k cause at old new is =
      by_account all_done all_done at old new (g.parts session k cause at old new is) (λ was. parted session k cause old new (may_end at old k cause was) is was.ended)

  unchanged : (at : ℕ) (old new : Board) → new ≡ old → Keeps at old new
  unchanged at old new same was = subst (IsWholeAt at) (sym same) was

  -- happenings aside, by which no connection ends
  aside_at : (at : ℕ) (happenings : List Happening) (old new : Board) → All (IsAside at) happenings → All IsCalm happenings → Reaches happenings old new → Keeps at old new
  aside_at at happenings old new aside calm_all is = by_account all_done all_done at old new (g.aside all_done at happenings old new aside is) (λ was. reached happenings old new calm_all is was.ended)

  alone_at : (at : ℕ) (happening : Happening) (old new : Board) → IsAside at happening → IsCalm happening → Happens happening old new → Keeps at old new
  alone_at at happening old new aside is_calm is =
      aside_at at (happening ∷ []) old new (All-cons (IsAside at) happening [] aside (All-nil (IsAside at))) (one_calm happening is_calm) (new, (is, refl))

  gathered_at : (s at until : ℕ) (old new : LeaseDesk) → Gathers s at until old new → Keeps at old.board new.board
  gathered_at s at until old new is = by_account all_done all_done at old.board new.board (g.gathers all_done s at until old new is) (λ was. gathered s at until old new is was.ended)

  lapsed_once : (lapses_not : Bool) (s at : ℕ) (old new : Board) → Reaches (if lapses_not then [] else lapses s ∷ []) old new → Keeps at old new
  lapsed_once true s at old new is = unchanged at old new is
  lapsed_once false s at old new is = aside_at at (lapses s ∷ []) old new (All-cons (IsAside at) (lapses s) [] tt (All-nil (IsAside at))) (one_calm (lapses s) tt) is

  lapsed_at : (s : ℕ) (reserved : Option (ℕ × ℕ)) (at : ℕ) (old new : Board) → Reaches (lapsing s reserved at) old new → Keeps at old new
  lapsed_at s None at old new is = unchanged at old new is
  lapsed_at s (Some reserved) at old new is = lapsed_once (nat_lt at reserved.1) s at old new is

  ticks_alone : (s at : ℕ) (old new : Board) → Reaches (ticks s at ∷ []) old new → Keeps at old new
  ticks_alone s at old new is = aside_at at (ticks s at ∷ []) old new (All-cons (IsAside at) (ticks s at) [] refl (All-nil (IsAside at))) (one_calm (ticks s at) tt) is

  ticked_then : (s at : ℕ) (place : Option ℕ) (end : Option Cause) (old new : Board) → Reaches (ticks s at ∷ ending s place end) old new → Keeps at old new
  ticked_then s at None None old new is = ticks_alone s at old new is
  ticked_then s at None (Some cause) old new is = ticks_alone s at old new is
  ticked_then s at (Some k) None old new is = ticks_alone s at old new is
  ticked_then s at (Some k) (Some cause) old new is = λ was.
      let last = is.1.1 in
      unchanged at last.0 new last.1.1 (parts_at (Some s) k cause at is.0 last.0 last.1.0 (alone_at at (ticks s at) old is.0 refl tt is.1.0 was))

  ticked_at : (s at until : ℕ) (old new : LeaseDesk) (end : Option Cause) → Ticks s at until old new end → Keeps at old.board new.board
  ticked_at s at until old new end is = λ was.
      ticked_then s at (place_at is.lapsed s) end is.lapsed new.board is.follows
      (lapsed_at s (state_of (book_at is.gathered.board s).entries).reserved at is.gathered.board is.lapsed is.lapses (gathered_at s at until old is.gathered is.gathers was))

  -- a move as a connection is read, and as connections are written to
  abbrev KeepsSoFar : ℕ → ℕ → ReadSoFar → ReadSoFar → Type 0
  KeepsSoFar k at old new = IsWholeSo (so_far k old.progress) at old.desk.board → IsWholeSo (so_far k new.progress) at new.desk.board

  given_at : (two : ℕ → Progress) (k at : ℕ) (old new : Board) → Happens (gives k) old new → KeepsAccount (only k cutting) two at old new → IsWholeSo (only k cutting) at old → IsWholeSo two at new
  given_at two k at old new is stays = by_account (only k cutting) two at old new stays (λ was. calm (gives k) old new tt is was.ended)

  read_moved : (routes : Routes) (k at until : ℕ) (old new : ReadSoFar) → ReadMove routes k at until old new → KeepsSoFar k at old new
  read_moved routes k at until _ _ (walk.bytes_come bytes old new is) =
      by_account all_done (only k cutting) at old.board new.board (g.takes k bytes at old.board new.board is.0) (λ was. calm (takes k bytes) old.board new.board tt is.0 was.ended)
  read_moved routes k at until _ _ (walk.garbled_out size old new next is) = given_at (only k cutting) k at old.board new.board is.0 (g.gives_none k at old.board new.board is.0 (ap good_bodies next))
  read_moved routes k at until _ _ (walk.body_out body old new next is) = given_at (only k (handling body)) k at old.board new.board is.0 (g.gives_one k at body old.board new.board is.0 (ap good_bodies next))
  read_moved routes k at until _ _ (walk.heard s body end old new named is) =
      by_account (only k (handling body)) (only k cutting) at old.desk.board new.desk.board (g.hears s k body at until old.desk new.desk old.unkept new.unkept end is)
      (λ was. heard s k body at until old.desk new.desk old.unkept new.unkept end is was.ended)
  read_moved routes k at until _ _ (walk.greeted body end old new unnamed is) =
      let fields = result_ok (fields_of body) in
      let found = greeting old.desk.board routes fields in
      by_account (only k (handling body)) (only k cutting) at old.desk.board new.desk.board (g.greets found k body at until old.desk new.desk old.unkept new.unkept end is)
      (λ was. greeted found k body at until old.desk new.desk old.unkept new.unkept end (greeting_inner old.desk.board routes fields) is was.ended)
  read_moved routes k at until _ _ (walk.none_out old new none is) = given_at all_done k at old.board new.board is.0 (g.gives_last k at old.board new.board is.0 none)
  read_moved routes k at until _ _ (walk.had_ended desk ended) = by_account (only k cutting) all_done at desk.board desk.board (g.stops k at desk.board ended) (λ was. was.ended)
  read_moved routes k at until _ _ (walk.parted cause old new ends is) = parts_at (connection_at old.board k).session k cause at old.board new.board is.0

  read_at : (answer : WireGot) (routes : Routes) (k : ℕ) (buffer : List ℕ) (at until : ℕ) (old new : Sessions) → Reads answer routes k buffer at until old new → Keeps at old.desk.board new.desk.board
  read_at answer routes k buffer at until old new is =
      walked (ReadMove routes k at until) (KeepsSoFar k at) (λ a was. was) (λ a b c one two was. two (one was)) (read_moved routes k at until) _ _ (g.walks.reads answer routes k buffer at until old new is)

  write_moved : (at : ℕ) (old new : LeaseDesk) → WriteMove old new → Keeps at old.board new.board
  write_moved at _ _ (walk.made s k old new is) = alone_at at (prepares s k) old.board new.board tt tt is.0
  write_moved at _ _ (walk.wrote k n old new is) = alone_at at (writes k n) old.board new.board tt tt is.0
  write_moved at _ _ (walk.left k stop cause old new ends is) = parts_at (connection_at old.board k).session k cause at old.board new.board is.0
  write_moved at _ _ (walk.stayed old new board seat) = unchanged at old.board new.board board

  written_in_turn : (at : ℕ) (places : List ℕ) (count : ℕ) (old new : WrittenSoFar) → WritesInTurn places count old new → Keeps at old.sessions.desk.board new.sessions.desk.board
  written_in_turn at places count old new is = walked WriteMove (λ a b. Keeps at a.board b.board) (λ a was. was) (λ a b c one two was. two (one was)) (write_moved at) _ _ (g.walks.writes places count old new is)

  -- a step of the engine, at its moment
  record Moves (old new : Engine) : Type 0 where
    moment : new.moment ≡ old.moment
    keeps : (at : ℕ) → old.moment ≡ at → Keeps at (board_of old) (board_of new)

  moves_itself : (e : Engine) → Moves e e
  moves_itself e = record { moment = refl; keeps = λ at is was. was }

  moves_further : (first second third : Engine) → Moves first second → Moves second third → Moves first third
  moves_further first second third one two = record {
    moment = two.moment ∙ one.moment;
    keeps = λ at is was. two.keeps at (one.moment ∙ is) (one.keeps at is was);
  }

  calmly : (old new : Engine) → EngineStaysAccountedFor old new → GoesOnWhole (board_of old) (board_of new) → Moves old new
  calmly old new stays goes = record {
    moment = stays.moment;
    keeps = λ at is. subst (λ n. Keeps n (board_of old) (board_of new)) is (by_account all_done all_done old.moment (board_of old) (board_of new) stays.board (λ was. goes was.ended));
  }

  accepted_as : (answer : Accepted) (at : ℕ) (old new : LeaseDesk) → AcceptsAs answer at old new → GoesOnWhole old.board new.board
  accepted_as (accept.New c) at old new is = calm (accepts c at) old.board new.board tt is.0
  accepted_as accept.Nothing at old new same = same_lines old.board new.board (ap (λ (desk : LeaseDesk). desk.board.connections) same)
  accepted_as accept.Failed at old new same = same_lines old.board new.board (ap (λ (desk : LeaseDesk). desk.board.connections) same)

  next_accepted : (answer : Accepted) (old new : AtWire) → AcceptsNext answer old new → Moves old.engine new.engine
  next_accepted answer old new is = calmly old.engine new.engine (g.accepts answer old new is) (elim is [
    | inl asks ↦ accepted_as answer old.engine.moment old.engine.sessions.desk new.engine.sessions.desk asks.accepts
    | inr none ↦ same_lines (board_of old.engine) (board_of new.engine) (ap (λ (a : AtWire). a.engine.sessions.desk.board.connections) none.1.1)
  ])

  dialled_as : (answer : Option Dialled) (s at until : ℕ) (old new : LeaseDesk) (d_old d_new : Dialler) → DialsAs answer s at until old new d_old d_new → GoesOnWhole old.board new.board
  dialled_as None s at until old new d_old d_new is = same_lines old.board new.board (ap (λ (desk : LeaseDesk). desk.board.connections) is.1.0)
  dialled_as (Some dial.Failed) s at until old new d_old d_new is = same_lines old.board new.board (ap (λ (desk : LeaseDesk). desk.board.connections) is.1.0)
  dialled_as (Some (dial.New number)) s at until old new d_old d_new is = λ was.
      let to = is.1.0 in
      calm (dials s number at) to.gathered.board new.board tt to.dials (gathered s at until old to.gathered to.gathers was)

  session_dialled : (s : ℕ) (old new : AtWire) → DialsSession s old new → Moves old.engine new.engine
  session_dialled s old new is = calmly old.engine new.engine (g.dials s old new is)
      (dialled_as is.answer s old.engine.moment (until_of old.engine) old.engine.sessions.desk new.engine.sessions.desk old.engine.dialler new.engine.dialler is.dials)

  one_read : (k : ℕ) (old new : Reading) → ReadsIfStands k old new → Moves old.engine new.engine
  one_read k old new is = record { moment = (g.reads k old new is).moment; keeps = keeps_read is } where
    keeps_read : ReadsIfStands k old new → (at : ℕ) → old.engine.moment ≡ at → Keeps at (board_of old.engine) (board_of new.engine)
    keeps_read (inl reads) at is_at = subst (λ n. Keeps n (board_of old.engine) (board_of new.engine)) is_at (read_at reads.answer _ k _ old.engine.moment (until_of old.engine) _ _ reads.reads)
    keeps_read (inr none) at is_at = unchanged at (board_of old.engine) (board_of new.engine) (ap (λ (r : Reading). board_of r.engine) none.1)

  session_ticked : (s : ℕ) (old new : Engine) → TicksSession s old new → Moves old new
  session_ticked s old new is = record {
    moment = (g.ticks s old new is).moment;
    keeps = λ at is_at. subst (λ n. Keeps n (board_of old) (board_of new)) is_at (ticked_at s old.moment (until_of old) old.sessions.desk new.sessions.desk is.end is.ticks);
  }

  library_calm : (at : ℕ) (happening : Happening) → IsOfLibraries at happening → IsCalm happening
  library_calm at (times_out s w bodies moment until) is = tt
  library_calm at (requests s library nr from) is = tt
  library_calm at (reserves s) is = tt
  library_calm at other is = absurd is

  one_served : (library : ℕ) (old new : Serving) → ServesOne library old new → Moves old.engine new.engine
  one_served library old new is =
      let at = old.engine.moment in
      let runs = g.serving library at (until_of old.engine) old.engine.sessions new.engine.sessions is.turn is.serves in
      calmly old.engine new.engine (g.serves library old new is)
      (reached runs.happenings (board_of old.engine) (board_of new.engine) (All-weaker (IsOfLibraries at) IsCalm (library_calm at) runs.happenings runs.all) runs.reaches)

  session_noted : (s : ℕ) (old new : Engine) → NotesSession s old new → Moves old new
  session_noted s old new is = calmly old new (g.notes s old new is) (same_lines (board_of old) (board_of new) (ap (λ (e : Engine). e.sessions.desk.board.connections) is.1))

  session_published : (s : ℕ) (old new : Engine) → PublishesSession s old new → Moves old new
  session_published s old new is = calmly old new (g.publishes s old new is) (same_lines (board_of old) (board_of new) (ap (λ (b : Board). b.connections) is.board))

  all_written : (links_old links_new : ℕ → Link) (old new : Engine) (bytes : ℕ) → WritesAll links_old links_new old new bytes → Moves old new
  all_written links_old links_new old new bytes is =
      let places = open_places old.lines in
      record {
        moment = ap (λ (e : Engine). e.moment) is.rest;
        keeps = λ at is_at. written_in_turn at places (length places) (written_so_far old.sessions.desk old.lines.unkept.items links_old 0) (written_so_far new.sessions.desk old.lines.unkept.items links_new bytes) is.writes;
      }

  quiet_step : (old new : AtWire) → QuietStep old new → Moves old.engine new.engine
  quiet_step _ _ (walk.read k door old new is) = one_read k old new is
  quiet_step _ _ (walk.ticked s door links old new is) = session_ticked s old new is
  quiet_step _ _ (walk.served i door links old new is) = one_served (i + 1) old new is
  quiet_step _ _ (walk.noted s door links old new is) = session_noted s old new is
  quiet_step _ _ (walk.published s door links old new is) = session_published s old new is
  quiet_step _ _ (walk.written door links_old links_new old new bytes is) = all_written links_old links_new old new bytes is

  step : (old new : AtWire) → TurnStep old new → Moves old.engine new.engine
  step _ _ (walk.accepted answer old new is) = next_accepted answer old new is
  step _ _ (walk.dialled s old new is) = session_dialled s old new is
  step _ _ (walk.quiet old new is) = quiet_step old new is

  pub turn_whole : (reading : ℕ) (old new : AtWire) (turn : Turn) → MakesTurn reading old new turn → IsReady before (board_of old.engine) → IsAccountedFor before start old.engine.moment (board_of old.engine)
      → AllEndedWhole (board_of old.engine) → AllEndedWhole (board_of new.engine)
  turn_whole reading old new turn is ready account ended =
      let begun = with_moment reading old.engine in
      let moves : Moves begun new.engine = turn_walked Moves moves_itself moves_further step (at_wire begun old.door old.links) new (g.walks.turn reading old new turn is) in
      let later : old.engine.moment ≤ begun.moment = omega arith in
      (moves.keeps begun.moment refl (record {
        ready = ready;
        account = (g.itself all_done begun.moment (board_of old.engine)).account before start old.engine.moment later ready account;
        ended = ended;
      })).ended

-- as each session is gathered at the end
pub gathered_whole : (count at until : ℕ) (old new : LeaseDesk) → InTurn (λ s. Gathers s at until) count old new → AllEndedWhole old.board → AllEndedWhole new.board
gathered_whole count at until old new gathers =
    each_in_turn (λ s. Gathers s at until) (λ a b. GoesOnWhole a.board b.board) (λ desk was. was) (λ a b c one two was. two (one was)) (λ s a b. gathered s at until a b) count old new gathers
