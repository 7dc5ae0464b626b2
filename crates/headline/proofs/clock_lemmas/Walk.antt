-- Over the steps of a turn sessions and connections stay in time, and the libraries are watched.
use Rattle.std.proofs.Common.{◌≡◌, inl, inr, ℕ, ◌+◌, ◌<◌, ◌≤◌, Bool, true, false, List, [], ◌∷◌, ◌++◌, get_or, length, Option, None, Some, Result, Ok, Err, refl, sym, ap, subst, ◌∙◌, arith}
use Rattle.std.proofs.lemmas.Bool.{eq-eqb}
use Rattle.std.proofs.lemmas.List.{get_or-set_same, length-set}
use Rattle.std.proofs.lemmas.List.Elements.{All-cons, All-get_or, All-nil, All-weaker}
use Rattle.std.proofs.lemmas.Option.{none-some, same_Some}
use Rattle.std.specs.List.{All}
use Rattle.std.specs.Prelude.{IsNone, if◌then◌else◌, nat_lt}
use Rattle.std.specs.Result.{result_ok}
use Rattle.headline.proofs.clock_lemmas.Books.{IsSameButSent, binding_same}
use Rattle.headline.proofs.clock_lemmas.Causes.{IsInnerErr, greeting_inner, is_silent, message_inner}
use Rattle.headline.proofs.Walking.{each_in_turn, so_far, turn_walked, walked}
use Rattle.headline.proofs.clock_lemmas.Libraries.{AreWatched, IsWatchedAlike, desk_alike, same_alike, served_in_time, served_watched, watched_alike}
use Rattle.headline.proofs.clock_lemmas.Lines as lines
use Rattle.headline.proofs.clock_lemmas.Lines.{AreInTime, GoesOnInTime, IsCalm, IsInTime, MayEnd, later_all}
use Rattle.headline.proofs.clock_lemmas.Opened as opening
use Rattle.headline.proofs.clock_lemmas.Opened.{AreOpened, BindsNone, GoesOnOpened, IsOff, IsOpenedAt, opened_calm, opened_reached}
use Rattle.headline.proofs.clock_lemmas.Phases.{HasHeard, binds_on, tick_ends, wait_in}
use Rattle.headline.proofs.clock_lemmas.Waits as waiting
use Rattle.headline.specs.clock.Waited.{HasWaited, messages_of, wait_by}
use Rattle.headline.specs.Needed.{AccountLaws}
use Rattle.connection_core.specs.Connection.{ConnectionState, IsGiven}
use Rattle.connection_core.specs.Outgoing.{waiting_count}
use Rattle.connection_core.specs.declared.limits.TheConstants.{LOGON_WAIT, MOST_WAITING}
use Rattle.engine_laws.specs.Account.{IsAccountedFor, IsAccountedWith, IsAside, KeepsAccount, Progress, all_done, cutting, done, handling, in_hand_at, only}
use Rattle.engine_laws.specs.Turns.{EngineStaysAccountedFor, board_of}
use Rattle.engine_laws.specs.walks.Walks as walk
use Rattle.engine_laws.specs.walks.Walks.{EndsReading, QuietStep, ReadMove, ReadSoFar, TurnStep, WriteMove}
use Rattle.engine_loop.specs.Engines.{until_of}
use Rattle.engine_loop.specs.Turns.{AcceptsNext, AtWire, DialsSession, MakesTurn, NotesSession, PublishesSession, Reading, ReadsIfStands, ServesOne, Serving, TicksSession, WritesAll, with_moment}
use Rattle.engine_loop.specs.declared.engine.Engine.{Engine}
use Rattle.engine_loop.specs.declared.records.Turn.{Turn}
use Rattle.fix_fields.specs.Reading.{fields_of}
use Rattle.fix_frame.specs.Cut.{cut}
use Rattle.fix_frame.specs.declared.layout.TheConstants.{LONGEST_FRAME}
use Rattle.gate_io.specs.Wire.{Link}
use Rattle.gate_io.specs.declared.dials.Dialled.{Dialled}
use Rattle.gate_io.specs.declared.dials.Dialled.TheVariants as dial
use Rattle.gate_io.specs.declared.wires.Accepted.{Accepted}
use Rattle.gate_io.specs.declared.wires.Accepted.TheVariants as accept
use Rattle.gate_io.specs.declared.wires.WireGot.{WireGot}
use Rattle.lease_core.specs.State.{state_of}
use Rattle.lease_core.specs.declared.entry.Entry.{Entry}
use Rattle.lease_desk.specs.Desk.{Gathers, InTurn, bodies_of}
use Rattle.lease_desk.specs.declared.desk.LeaseDesk.{LeaseDesk}
use Rattle.library_desk.specs.Happening.{IsOfLibraries}
use Rattle.session_book.specs.Book.{Book, Desk}
use Rattle.session_book.specs.Kept.{Kept}
use Rattle.session_book.specs.Records.{Pending}
use Rattle.session_core.specs.Receive.{after_receive}
use Rattle.session_core.specs.State.{State}
use Rattle.session_core.specs.Tick.{tick}
use Rattle.session_core.specs.declared.causes.Cause.{Cause}
use Rattle.session_core.specs.declared.causes.Cause.TheVariants.{End, ReadFault, Silent, SlowConsumer, WriteFault}
use Rattle.session_desk.specs.Steps.{GreetsAs, Hears, Ticks, answering, binding, ending, greeting, is_answer, lapsing, parting}
use Rattle.session_desk.specs.declared.routes.Routes.{Routes}
use Rattle.switchboard.specs.Board.{Board, OutboxChanges, book_at, connection_at, desk_with, no_connection, no_session, place_at}
use Rattle.switchboard.specs.Brought.{HasHandled, good_bodies}
use Rattle.switchboard.specs.Happenings.{Binds, Happening, Happens, Reaches, answers, binds, binds_and_ends, dials, ends_bound, ends_unbound, gives, lapses, accepts, prepares, receives, requests, reserves, shows, takes, ticks, times_out, writes}
use Rattle.switchboard.specs.Ready.{IsReady}
use Rattle.switchboard.specs.Sound.{bound_of}
use Rattle.wire_desk.specs.Dials.{DialsAs}
use Rattle.wire_desk.specs.Places.{open_places}
use Rattle.wire_desk.specs.Steps.{AcceptsAs, Reads, Sessions, WritesInTurn, WrittenSoFar, cause_behind, cause_by, unless_ended, written_so_far}
use Rattle.wire_desk.specs.declared.dialling.Dialler.{Dialler}
use Rattle.wire_desk.specs.declared.written.Stop.{Stop}
use Rattle.wire_desk.specs.declared.written.Stop.TheVariants.{AllTaken, Blocked, Failed, MostWritten}

-- what the laws say of accounts, and of what they come to
pub record ClockLaws (before : ℕ → List Entry) (start : ℕ → State) : Type 0 where
  pub accounts : AccountLaws
  pub open accounts use *
  pub stands : (at : ℕ) (board : Board) (accounted : IsAccountedFor before start at board) (k : ℕ) → k < length board.connections → (connection_at board k).cause ≡ None
      → (accounted.brought k).pieces ≡ (cut LONGEST_FRAME (connection_at board k).taken).pieces
  pub named : (at : ℕ) (board : Board) (accounted : IsAccountedFor before start at board) (k s : ℕ) → k < length board.connections → (connection_at board k).session ≡ Some s
      → HasHandled (bound_of (book_at board s)) (connection_at board k).number (good_bodies (accounted.brought k).pieces) (accounted.history.handled s)

stands_none : (cause : Option Cause) → IsNone cause → cause ≡ None
stands_none None is = refl
stands_none (Some cause) is = absurd (cc)

unnamed : (session : Option ℕ) → IsNone session → session ≡ None
unnamed None is = refl
unnamed (Some s) is = absurd (cc)

only_here : (k : ℕ) (progress : Progress) → only k progress k ≡ progress
only_here k progress = ap (λ b. if b then progress else done) (eq-eqb k k refl)

-- no connection ends since nothing came as it is written to
slow_inner : (b : Bool) (count : ℕ) (why : Cause) → (if b then Some (SlowConsumer count) else None) ≡ Some why → is_silent why ≡ false
slow_inner true count why is = ap is_silent (sym (same_Some (SlowConsumer count) why is))
slow_inner false count why is = absurd (none-some why is)

stop_inner : (stop : Stop) (c : ConnectionState) (why : Cause) → cause_by stop c ≡ Some why → is_silent why ≡ false
stop_inner AllTaken c why is = slow_inner (nat_lt MOST_WAITING (waiting_count c.out.outgoing)) (waiting_count c.out.outgoing) why is
stop_inner MostWritten c why is = slow_inner (nat_lt MOST_WAITING (waiting_count c.out.outgoing)) (waiting_count c.out.outgoing) why is
stop_inner Blocked c why is = slow_inner (nat_lt MOST_WAITING (waiting_count c.out.outgoing)) (waiting_count c.out.outgoing) why is
stop_inner Failed c why is = ap is_silent (sym (same_Some WriteFault why is))

behind_inner : (before : Option Cause) (stop : Stop) (c : ConnectionState) (why : Cause) → unless_ended before (cause_by stop c) ≡ Some why → is_silent why ≡ false
behind_inner None stop c why is = stop_inner stop c why is
behind_inner (Some cause) stop c why is = absurd (none-some why is)

written_inner : (stop : Stop) (c : ConnectionState) (why : Cause) → cause_behind stop c ≡ Some why → is_silent why ≡ false
written_inner stop c why is = behind_inner c.cause stop c why is

none_bind : (happening : Happening) → BindsNone happening → All BindsNone (happening ∷ [])
none_bind happening is = All-cons BindsNone happening [] is (All-nil BindsNone)

module _ (before : ℕ → List Entry) (start : ℕ → State) (first timeout : ℕ) (g : ClockLaws before start) where
  -- Sessions and connections are accounted for up to a moment, and in time.
  pub record IsClocked (progress : ℕ → Progress) (at : ℕ) (board : Board) : Type 0 where
    pub ready : IsReady before board
    pub account : IsAccountedWith progress before start at board
    pub in_time : AreInTime start first timeout at board
    pub opened : AreOpened board

  abbrev pub IsClockedAt : ℕ → Board → Type 0
  IsClockedAt at board = IsClocked all_done at board

  pub later_clocked : (at later : ℕ) (board : Board) → at ≤ later → IsClockedAt at board → IsClockedAt later board
  later_clocked at later board up_to was = record {
    ready = was.ready;
    account = (g.itself all_done later board).account before start at up_to was.ready was.account;
    in_time = later_all start first timeout at later board up_to was.in_time;
    opened = was.opened;
  }

  module _ (at : ℕ) (within : first ≤ at) where
    abbrev Keeps : (ℕ → Progress) → (ℕ → Progress) → Board → Board → Type 0
    Keeps one two old new = IsClocked one at old → IsClocked two at new

    abbrev pub Stays : Board → Board → Type 0
    Stays old new = Keeps all_done all_done old new

    abbrev InTime : Board → Board → Type 0
    InTime old new = GoesOnInTime start first timeout at within old new

    by_account : (one two : ℕ → Progress) (old new : Board) → KeepsAccount one two at old new → (IsClocked one at old → AreInTime start first timeout at new) → (IsClocked one at old → AreOpened new) → Keeps one two old new
    by_account one two old new stays in_time opened was = record {
      ready = stays.ready before was.ready;
      account = stays.account before start at (omega arith) was.ready was.account;
      in_time = in_time was;
      opened = opened was;
    }

    unchanged : (progress : ℕ → Progress) (old new : Board) → new ≡ old → Keeps progress progress old new
    unchanged progress old new same was = subst (IsClocked progress at) (sym same) was

    abbrev Calm : Happening → Type 0
    Calm happening = IsCalm start first timeout at within happening

    one_calm : (happening : Happening) → Calm happening → All Calm (happening ∷ [])
    one_calm happening is = All-cons Calm happening [] is (All-nil Calm)

    -- happenings by which no connection ends and no session is bound
    calm_at : (one two : ℕ → Progress) (happenings : List Happening) (old new : Board) → KeepsAccount one two at old new → All Calm happenings → All BindsNone happenings → Reaches happenings old new → Keeps one two old new
    calm_at one two happenings old new stays calm none is =
        by_account one two old new stays (λ was. lines.reached start first timeout at within happenings old new calm is was.in_time) (λ was. opened_reached happenings old new none is was.opened)

    aside_at : (happenings : List Happening) (old new : Board) → All (IsAside at) happenings → All Calm happenings → All BindsNone happenings → Reaches happenings old new → Stays old new
    aside_at happenings old new aside calm none is = calm_at all_done all_done happenings old new (g.aside all_done at happenings old new aside is) calm none is

    alone_at : (happening : Happening) (old new : Board) → IsAside at happening → Calm happening → BindsNone happening → Happens happening old new → Stays old new
    alone_at happening old new aside calm none is =
        aside_at (happening ∷ []) old new (All-cons (IsAside at) happening [] aside (All-nil (IsAside at))) (one_calm happening calm) (none_bind happening none) (new, (is, refl))

    -- what a gathering makes of them
    gathered_in_time : (s until : ℕ) (old new : LeaseDesk) → Gathers s at until old new → InTime old.board new.board
    gathered_in_time s until old new is =
        let shown = shows s is.word (bodies_of is.items) at until in
        lines.reached start first timeout at within (reserves s ∷ shown ∷ []) old.board new.board (All-cons Calm (reserves s) (shown ∷ []) tt (one_calm shown tt)) is.reaches

    gathered_opened : (s until : ℕ) (old new : LeaseDesk) → Gathers s at until old new → GoesOnOpened old.board new.board
    gathered_opened s until old new is =
        let shown = shows s is.word (bodies_of is.items) at until in
        opened_reached (reserves s ∷ shown ∷ []) old.board new.board (All-cons BindsNone (reserves s) (shown ∷ []) tt (none_bind shown tt)) is.reaches

    pub gathered_at : (progress : ℕ → Progress) (s until : ℕ) (old new : LeaseDesk) → Gathers s at until old new → Keeps progress progress old.board new.board
    gathered_at progress s until old new is =
        by_account progress progress old.board new.board (g.gathers progress s at until old new is) (λ was. gathered_in_time s until old new is was.in_time) (λ was. gathered_opened s until old new is was.opened)

    -- a connection ends
    parted_in_time : (session : Option ℕ) (k : ℕ) (cause : Cause) (old new : Board) → MayEnd start first timeout at within old k cause → Happens (parting session k cause) old new → InTime old new
    parted_in_time None k cause old new may is = lines.refused start first timeout at within k cause old new may is
    parted_in_time (Some s) k cause old new may is = lines.leaving start first timeout at within s k cause old new may is

    parted_opened : (session : Option ℕ) (k : ℕ) (cause : Cause) (old new : Board) → Happens (parting session k cause) old new → GoesOnOpened old new
    parted_opened None k cause old new is = opened_calm (ends_unbound k cause) old new tt is
    parted_opened (Some s) k cause old new is = opened_calm (ends_bound s k cause) old new tt is

    parts_at : (session : Option ℕ) (k : ℕ) (cause : Cause) (old new : Board) → (IsClockedAt at old → MayEnd start first timeout at within old k cause) → Happens (parting session k cause) old new → Stays old new
    parts_at session k cause old new may is =
        by_account all_done all_done old new (g.parts session k cause at old new is) (λ was. parted_in_time session k cause old new (may was) is was.in_time) (λ was. parted_opened session k cause old new is was.opened)

    inner_may : (board : Board) (k : ℕ) (cause : Cause) → is_silent cause ≡ false → MayEnd start first timeout at within board k cause
    inner_may board k cause inner = lines.inner_may start first timeout at within board k cause inner

    -- the clock
    lapsed_once : (lapses_not : Bool) (s : ℕ) (old new : Board) → Reaches (if lapses_not then [] else lapses s ∷ []) old new → Stays old new
    lapsed_once true s old new is = unchanged all_done old new is
    lapsed_once false s old new is = aside_at (lapses s ∷ []) old new (All-cons (IsAside at) (lapses s) [] tt (All-nil (IsAside at))) (one_calm (lapses s) tt) (none_bind (lapses s) tt) is

    lapsed_at : (s : ℕ) (reserved : Option (ℕ × ℕ)) (old new : Board) → Reaches (lapsing s reserved at) old new → Stays old new
    lapsed_at s None old new is = unchanged all_done old new is
    lapsed_at s (Some reserved) old new is = lapsed_once (nat_lt at reserved.1) s old new is

    ticks_alone : (s : ℕ) (old new : Board) → Reaches (ticks s at ∷ []) old new → Stays old new
    ticks_alone s old new is = aside_at (ticks s at ∷ []) old new (All-cons (IsAside at) (ticks s at) [] refl (All-nil (IsAside at))) (one_calm (ticks s at) refl) (none_bind (ticks s at) tt) is

    -- a tick changes nothing of a connection but what waits on it
    ticked_line : (s k : ℕ) (old new : Board) → k < length old.connections → place_at old s ≡ Some k → Happens (ticks s at) old new
        → connection_at new k ≡ record (connection_at old k) { out = (connection_at new k).out }
    ticked_line s k old new there placed is =
        let changes = subst (λ place. OutboxChanges place old new) placed is.goes_on.others.connections in
        ap (λ (cs : List ConnectionState). get_or cs k no_connection) changes.0 ∙ get_or-set_same old.connections k (record (connection_at old k) { out = (connection_at new k).out }) no_connection there

    tick_waited : (s k : ℕ) (cause : Cause) (old new : Board) → place_at old s ≡ Some k → (tick (book_at old s).machine at).end ≡ Some cause → Happens (ticks s at) old new → IsClockedAt at old → MayEnd start first timeout at within new k cause
    tick_waited s k cause old new placed ends is was there stands since silent =
        let machine = (book_at old s).machine in
        let here : s < length old.sessions = is.goes_on.within in
        let heard : HasHeard first at machine = All-get_or (λ (kept : Kept). HasHeard first at kept.book.machine) old.sessions s no_session here was.in_time.machines in
        let by_silence = tick_ends first machine at cause heard ends in
        let bound = waiting.plugged before start at old was.ready was.account was.opened (g.stands at old was.account) (g.named at old was.account) s k here placed in
        let wait = waiting.waits before start at old was.ready was.account was.opened (g.stands at old was.account) (g.named at old was.account) s k here placed in
        let line = ticked_line s k old new bound.within placed is in
        let same : Silent machine.received ≡ Silent since = sym by_silence.is ∙ silent in
        let received : machine.received ≡ since = cc in
        let on : first ≤ machine.received = heard.heard (was.ready.on s k here placed) in
        subst (λ (c : ConnectionState). HasWaited first at since (wait_by start c.session (messages_of c.taken))) (sym line)
        (subst (HasWaited first at since) wait
        (subst (λ n. HasWaited first at n (wait_in machine.phase)) received (record { begun = on; waited = by_silence.long; some = by_silence.some })))

    ticked_then : (s : ℕ) (place : Option ℕ) (end : Option Cause) (old new : Board) → place_at old s ≡ place → (tick (book_at old s).machine at).end ≡ end → Reaches (ticks s at ∷ ending s place end) old new → Stays old new
    ticked_then s None None old new placed ends is = ticks_alone s old new is
    ticked_then s None (Some cause) old new placed ends is = ticks_alone s old new is
    ticked_then s (Some k) None old new placed ends is = ticks_alone s old new is
    ticked_then s (Some k) (Some cause) old new placed ends is = λ was.
        let last = is.1.1 in
        unchanged all_done last.0 new last.1.1
        (parts_at (Some s) k cause is.0 last.0 (λ now. tick_waited s k cause old is.0 placed ends is.1.0 was) last.1.0 (alone_at (ticks s at) old is.0 refl refl tt is.1.0 was))

    ticked_at : (s until : ℕ) (old new : LeaseDesk) (end : Option Cause) → Ticks s at until old new end → Stays old.board new.board
    ticked_at s until old new end is = λ was.
        ticked_then s (place_at is.lapsed s) end is.lapsed new.board refl (sym is.end_is) is.follows
        (lapsed_at s (state_of (book_at is.gathered.board s).entries).reserved is.gathered.board is.lapsed is.lapses (gathered_at all_done s until old is.gathered is.gathers was))

    -- a message on a bound session
    heard_list : (s k : ℕ) (body : List ℕ) (answered : Bool) (end : Option Cause) → All BindsNone (receives s k body at ∷ ((if answered then answers k ∷ [] else []) ++ ending s (Some k) end))
    heard_list s k body true None = All-cons BindsNone (receives s k body at) (answers k ∷ []) tt (none_bind (answers k) tt)
    heard_list s k body false None = none_bind (receives s k body at) tt
    heard_list s k body true (Some cause) = All-cons BindsNone (receives s k body at) (answers k ∷ ends_bound s k cause ∷ []) tt (All-cons BindsNone (answers k) (ends_bound s k cause ∷ []) tt (none_bind (ends_bound s k cause) tt))
    heard_list s k body false (Some cause) = All-cons BindsNone (receives s k body at) (ends_bound s k cause ∷ []) tt (none_bind (ends_bound s k cause) tt)

    answered_then : (s k : ℕ) (body : List ℕ) (is_one : Bool) (end : Option Cause) (old new : Board) → ((cause : Cause) → end ≡ Some cause → is_silent cause ≡ false)
        → Reaches (receives s k body at ∷ ((if is_one then answers k ∷ [] else []) ++ ending s (Some k) end)) old new → InTime old new
    answered_then s k body true None old new inner is = lines.reached start first timeout at within (receives s k body at ∷ answers k ∷ []) old new (All-cons Calm (receives s k body at) (answers k ∷ []) refl (one_calm (answers k) tt)) is
    answered_then s k body false None old new inner is = lines.reached start first timeout at within (receives s k body at ∷ []) old new (one_calm (receives s k body at) refl) is
    answered_then s k body true (Some cause) old new inner is = λ was.
        let heard = is.0 in
        let told = is.1.1.0 in
        let last = is.1.1.1.1 in
        lines.unchanged start first timeout at within last.0 new last.1.1
        (lines.leaving start first timeout at within s k cause told last.0 (inner_may told k cause (inner cause refl)) last.1.0
        (lines.calm start first timeout at within (answers k) heard told tt is.1.1.1.0 (lines.calm start first timeout at within (receives s k body at) old heard refl is.1.0 was)))
    answered_then s k body false (Some cause) old new inner is = λ was.
        let heard = is.0 in
        let last = is.1.1 in
        lines.unchanged start first timeout at within last.0 new last.1.1
        (lines.leaving start first timeout at within s k cause heard last.0 (inner_may heard k cause (inner cause refl)) last.1.0 (lines.calm start first timeout at within (receives s k body at) old heard refl is.1.0 was))

    heard_at : (s k : ℕ) (body : List ℕ) (until : ℕ) (old new : LeaseDesk) (unkept_old unkept_new : List Pending) (end : Option Cause) → Hears s k body at until old new unkept_old unkept_new end
        → Keeps (only k (handling body)) (only k cutting) old.board new.board
    heard_at s k body until old new unkept_old unkept_new end is =
        by_account (only k (handling body)) (only k cutting) old.board new.board (g.hears s k body at until old new unkept_old unkept_new end is)
        (λ was. answered_then s k body (is_answer end) end is.gathered.board new.board
        (λ cause ends. message_inner (book_at is.gathered.board s).machine body at cause (sym is.end_is ∙ ends)) is.follows (gathered_in_time s until old is.gathered is.gathers was.in_time))
        (λ was. opened_reached (receives s k body at ∷ (answering k end ++ ending s (Some k) end)) is.gathered.board new.board (heard_list s k body (is_answer end) end) is.follows (gathered_opened s until old is.gathered is.gathers was.opened))

    -- a first message
    bound_in_time : (s k : ℕ) (body : List ℕ) (end : Option Cause) (old new : Board) → Happens (binding s k body at end) old new → InTime old new
    bound_in_time s k body None old new is = lines.calm start first timeout at within (binds s k body at) old new refl is
    bound_in_time s k body (Some cause) old new is = lines.calm start first timeout at within (binds_and_ends s k body at cause) old new refl is

    -- the Logon is all that was handed out of the connection so far
    bound_here : (s k : ℕ) (body : List ℕ) (old new : Board) → Binds s k body at old new → IsReady before old → IsAccountedWith (only k (handling body)) before start at old → AreOpened old → IsOpenedAt new s k
    bound_here s k body old new is ready account was =
        let to = is.binding in
        let c = connection_at old k in
        let handled = account.handled k to.connection_within in
        let none_handled = account.given.none k to.connection_within (unnamed c.session to.unbound) in
        let in_hand : (account.brought k).in_hand ≡ body ∷ [] = handled.in_hand (inl (stands_none c.cause to.stands)) ∙ ap in_hand_at (only_here k (handling body)) in
        let good : good_bodies (account.brought k).pieces ≡ body ∷ [] =
        account.given.good k to.connection_within ∙ ap (λ bodies. bodies ++ (account.brought k).in_hand) none_handled ∙ in_hand in
        let given = account.given.given k to.connection_within in
        let machine = (book_at old s).machine in
        let same : IsSameButSent (book_at new s).machine (after_receive machine body at) =
        subst (λ (book : Book). IsSameButSent book.machine (after_receive machine body at)) (sym (ap (λ (d : Desk). d.book) to.desk)) (binding_same at c.number body (desk_with old s (Some k))) in
        let off = All-get_or IsOff old.sessions s no_session to.within was.off to.free in
        record {
          within = (let count = ap length to.plugged.connections ∙ length-set old.connections k (connection_at new k) in let there = to.connection_within in omega arith);
          opened = λ none. record {
            body = body;
            rest = [];
            pieces = (account.brought k).pieces;
            given = subst (λ (d : ConnectionState). IsGiven d (account.brought k).pieces) (sym to.connection) (record { so_far = given.so_far; counted = given.counted });
            good = good;
            on = same.phase ∙ binds_on machine body at off to.accepts (λ is_off. is.on (same.phase ∙ is_off));
          };
        }

    bound_opened : (s k : ℕ) (body : List ℕ) (end : Option Cause) (old new : Board) → Happens (binding s k body at end) old new → IsReady before old → IsAccountedWith (only k (handling body)) before start at old → GoesOnOpened old new
    bound_opened s k body None old new is ready account was = opening.binding_to s k body at old new is.binding (bound_here s k body old new is ready account was) was
    bound_opened s k body (Some cause) old new is ready account was = opened_calm (binds_and_ends s k body at cause) old new tt is was

    greeted_in_time : (found : Result ℕ Cause) (k : ℕ) (body : List ℕ) (until : ℕ) (old new : LeaseDesk) (unkept_old unkept_new : List Pending) (end : Option Cause) → IsInnerErr found
        → GreetsAs found k body at until old new unkept_old unkept_new end → InTime old.board new.board
    greeted_in_time (Ok s) k body until old new unkept_old unkept_new end inner is = λ was.
        bound_in_time s k body end is.gathered.board new.board is.binds (gathered_in_time s until old is.gathered is.gathers was)
    greeted_in_time (Err cause) k body until old new unkept_old unkept_new end inner is = lines.refused start first timeout at within k cause old.board new.board (inner_may old.board k cause inner) is.ends

    greeted_opened : (found : Result ℕ Cause) (k : ℕ) (body : List ℕ) (until : ℕ) (old new : LeaseDesk) (unkept_old unkept_new : List Pending) (end : Option Cause)
        → GreetsAs found k body at until old new unkept_old unkept_new end → IsClocked (only k (handling body)) at old.board → AreOpened new.board
    greeted_opened (Ok s) k body until old new unkept_old unkept_new end is was =
        let gathered = gathered_at (only k (handling body)) s until old is.gathered is.gathers was in
        bound_opened s k body end is.gathered.board new.board is.binds gathered.ready gathered.account gathered.opened
    greeted_opened (Err cause) k body until old new unkept_old unkept_new end is was = opened_calm (ends_unbound k cause) old.board new.board tt is.ends was.opened

    greeted_at : (found : Result ℕ Cause) (k : ℕ) (body : List ℕ) (until : ℕ) (old new : LeaseDesk) (unkept_old unkept_new : List Pending) (end : Option Cause) → IsInnerErr found
        → GreetsAs found k body at until old new unkept_old unkept_new end → Keeps (only k (handling body)) (only k cutting) old.board new.board
    greeted_at found k body until old new unkept_old unkept_new end inner is =
        by_account (only k (handling body)) (only k cutting) old.board new.board (g.greets found k body at until old new unkept_old unkept_new end is)
        (λ was. greeted_in_time found k body until old new unkept_old unkept_new end inner is was.in_time) (greeted_opened found k body until old new unkept_old unkept_new end is)

    -- a piece is handed out
    given_at : (two : ℕ → Progress) (k : ℕ) (old new : Board) → Happens (gives k) old new → KeepsAccount (only k cutting) two at old new → Keeps (only k cutting) two old new
    given_at two k old new is stays =
        by_account (only k cutting) two old new stays (λ was. lines.calm start first timeout at within (gives k) old new tt is was.in_time) (λ was. opened_calm (gives k) old new tt is was.opened)

    -- no Logon came in time
    tardy_waited : (old : Board) (k : ℕ) → (connection_at old k).session ≡ None → (connection_at old k).since + LOGON_WAIT ≤ at → IsClockedAt at old → MayEnd start first timeout at within old k (Silent (connection_at old k).since)
    tardy_waited old k unbound waited was there stands since silent =
        let c = connection_at old k in
        let came = (All-get_or (IsInTime start first timeout at) old.connections k no_connection there was.in_time.lines).came in
        let same : c.since ≡ since = cc in
        subst (λ session. HasWaited first at since (wait_by start session (messages_of c.taken))) (sym unbound)
        (subst (λ n. HasWaited first at n LOGON_WAIT) same (record { begun = came; waited = waited; some = omega arith }))

    -- a connection may end by the wire's answer, or since no Logon came
    read_ended : (old : Board) (k : ℕ) (cause : Cause) → EndsReading old k at cause → IsClockedAt at old → MayEnd start first timeout at within old k cause
    read_ended old k cause (inl is) was = subst (λ (why : Cause). MayEnd start first timeout at within old k why) (sym is) (inner_may old k End refl)
    read_ended old k cause (inr (inl is)) was = subst (λ (why : Cause). MayEnd start first timeout at within old k why) (sym is) (inner_may old k ReadFault refl)
    read_ended old k cause (inr (inr tardy)) was =
        subst (λ (why : Cause). MayEnd start first timeout at within old k why) (sym tardy.1) (tardy_waited old k tardy.0.late.unbound tardy.0.late.waited was)

    -- a move as a connection is read, and as connections are written to
    abbrev KeepsSoFar : ℕ → ReadSoFar → ReadSoFar → Type 0
    KeepsSoFar k old new = Keeps (so_far k old.progress) (so_far k new.progress) old.desk.board new.desk.board

    read_moved : (routes : Routes) (k until : ℕ) (old new : ReadSoFar) → ReadMove routes k at until old new → KeepsSoFar k old new
    read_moved routes k until _ _ (walk.bytes_come bytes old new is) =
        by_account all_done (only k cutting) old.board new.board (g.takes k bytes at old.board new.board is.0)
        (λ was. lines.calm start first timeout at within (takes k bytes) old.board new.board tt is.0 was.in_time) (λ was. opened_calm (takes k bytes) old.board new.board tt is.0 was.opened)
    read_moved routes k until _ _ (walk.garbled_out size old new next is) = given_at (only k cutting) k old.board new.board is.0 (g.gives_none k at old.board new.board is.0 (ap good_bodies next))
    read_moved routes k until _ _ (walk.body_out body old new next is) = given_at (only k (handling body)) k old.board new.board is.0 (g.gives_one k at body old.board new.board is.0 (ap good_bodies next))
    read_moved routes k until _ _ (walk.heard s body end old new named is) = heard_at s k body until old.desk new.desk old.unkept new.unkept end is
    read_moved routes k until _ _ (walk.greeted body end old new unnamed is) =
        let fields = result_ok (fields_of body) in
        greeted_at (greeting old.desk.board routes fields) k body until old.desk new.desk old.unkept new.unkept end (greeting_inner old.desk.board routes fields) is
    read_moved routes k until _ _ (walk.none_out old new none is) = given_at all_done k old.board new.board is.0 (g.gives_last k at old.board new.board is.0 none)
    read_moved routes k until _ _ (walk.had_ended desk ended) = by_account (only k cutting) all_done desk.board desk.board (g.stops k at desk.board ended) (λ was. was.in_time) (λ was. was.opened)
    read_moved routes k until _ _ (walk.parted cause old new ends is) = parts_at (connection_at old.board k).session k cause old.board new.board (read_ended old.board k cause ends) is.0

    read_at : (answer : WireGot) (routes : Routes) (k : ℕ) (buffer : List ℕ) (until : ℕ) (old new : Sessions) → Reads answer routes k buffer at until old new → Stays old.desk.board new.desk.board
    read_at answer routes k buffer until old new is =
        walked (ReadMove routes k at until) (KeepsSoFar k) (λ a was. was) (λ a b c one two was. two (one was)) (read_moved routes k until) _ _ (g.walks.reads answer routes k buffer at until old new is)

    write_moved : (old new : LeaseDesk) → WriteMove old new → Stays old.board new.board
    write_moved _ _ (walk.made s k old new is) = alone_at (prepares s k) old.board new.board tt tt tt is.0
    write_moved _ _ (walk.wrote k n old new is) = alone_at (writes k n) old.board new.board tt tt tt is.0
    write_moved _ _ (walk.left k stop cause old new ends is) = parts_at (connection_at old.board k).session k cause old.board new.board (λ was. inner_may old.board k cause (written_inner stop (connection_at old.board k) cause ends)) is.0
    write_moved _ _ (walk.stayed old new board seat) = unchanged all_done old.board new.board board

    written_in_turn : (places : List ℕ) (count : ℕ) (old new : WrittenSoFar) → WritesInTurn places count old new → Stays old.sessions.desk.board new.sessions.desk.board
    written_in_turn places count old new is = walked WriteMove (λ a b. Stays a.board b.board) (λ a was. was) (λ a b c one two was. two (one was)) write_moved _ _ (g.walks.writes places count old new is)

  -- of an engine that is so of sessions and connections, and its libraries are watched
  pub record IsClockedEngine (at : ℕ) (e : Engine) : Type 0 where
    pub board : IsClockedAt at (board_of e)
    pub watched : AreWatched first timeout e.sessions

  -- a step of the engine, at its moment
  record Moves (old new : Engine) : Type 0 where
    moment : new.moment ≡ old.moment
    keeps : (at : ℕ) → old.moment ≡ at → first ≤ at → IsClockedEngine at old → IsClockedEngine at new

  moves_itself : (e : Engine) → Moves e e
  moves_itself e = record { moment = refl; keeps = λ at is within was. was }

  moves_further : (one two three : Engine) → Moves one two → Moves two three → Moves one three
  moves_further one two three first_moves second_moves = record {
    moment = second_moves.moment ∙ first_moves.moment;
    keeps = λ at is within was. second_moves.keeps at (first_moves.moment ∙ is) within (first_moves.keeps at is within was);
  }

  -- it is so at the engine's own moment
  at_moment : (old new : Engine) → new.moment ≡ old.moment → (first ≤ old.moment → IsClockedEngine old.moment old → IsClockedEngine old.moment new) → Moves old new
  at_moment old new moment keeps = record {
    moment = moment;
    keeps = λ at is. subst (λ n. first ≤ n → IsClockedEngine n old → IsClockedEngine n new) is keeps;
  }

  -- no library is served
  unserved : (old new : Engine) → new.moment ≡ old.moment → IsWatchedAlike old.sessions new.sessions → (first ≤ old.moment → IsClockedAt old.moment (board_of old) → IsClockedAt old.moment (board_of new)) → Moves old new
  unserved old new moment alike keeps = at_moment old new moment
      (λ within was. record { board = keeps within was.board; watched = watched_alike first timeout old.sessions new.sessions alike was.watched })

  calmly : (old new : Engine) → EngineStaysAccountedFor old new → IsWatchedAlike old.sessions new.sessions → ((within : first ≤ old.moment) → GoesOnInTime start first timeout old.moment within (board_of old) (board_of new))
      → GoesOnOpened (board_of old) (board_of new) → Moves old new
  calmly old new stays alike in_time opened = unserved old new stays.moment alike
      (λ within. by_account old.moment within all_done all_done (board_of old) (board_of new) stays.board (λ was. in_time within was.in_time) (λ was. opened was.opened))

  same_board : (old new : Engine) → EngineStaysAccountedFor old new → IsWatchedAlike old.sessions new.sessions → board_of new ≡ board_of old → Moves old new
  same_board old new stays alike same = calmly old new stays alike (λ within was. subst (AreInTime start first timeout old.moment) (sym same) was) (λ was. subst AreOpened (sym same) was)

  accepted_in_time : (answer : Accepted) (at : ℕ) (within : first ≤ at) (old new : LeaseDesk) → AcceptsAs answer at old new → GoesOnInTime start first timeout at within old.board new.board
  accepted_in_time (accept.New c) at within old new is = lines.calm start first timeout at within (accepts c at) old.board new.board refl is.0
  accepted_in_time accept.Nothing at within old new same = lines.unchanged start first timeout at within old.board new.board (ap (λ (desk : LeaseDesk). desk.board) same)
  accepted_in_time accept.Failed at within old new same = lines.unchanged start first timeout at within old.board new.board (ap (λ (desk : LeaseDesk). desk.board) same)

  accepted_opened : (answer : Accepted) (at : ℕ) (old new : LeaseDesk) → AcceptsAs answer at old new → GoesOnOpened old.board new.board
  accepted_opened (accept.New c) at old new is = opened_calm (accepts c at) old.board new.board tt is.0
  accepted_opened accept.Nothing at old new same = λ was. subst AreOpened (sym (ap (λ (desk : LeaseDesk). desk.board) same)) was
  accepted_opened accept.Failed at old new same = λ was. subst AreOpened (sym (ap (λ (desk : LeaseDesk). desk.board) same)) was

  next_accepted : (answer : Accepted) (old new : AtWire) → AcceptsNext answer old new → EngineStaysAccountedFor old.engine new.engine → Moves old.engine new.engine
  next_accepted answer old new (inl asks) stays = calmly old.engine new.engine stays (desk_alike old.engine.sessions new.engine.sessions (ap (λ (e : Engine). e.sessions) asks.rest))
      (λ within. accepted_in_time answer old.engine.moment within old.engine.sessions.desk new.engine.sessions.desk asks.accepts) (accepted_opened answer old.engine.moment old.engine.sessions.desk new.engine.sessions.desk asks.accepts)
  next_accepted answer old new (inr none) stays =
      same_board old.engine new.engine stays (same_alike old.engine.sessions new.engine.sessions (ap (λ (a : AtWire). a.engine.sessions) none.1.1)) (ap (λ (a : AtWire). board_of a.engine) none.1.1)

  dialled_in_time : (answer : Option Dialled) (s at until : ℕ) (within : first ≤ at) (old new : LeaseDesk) (d_old d_new : Dialler) → DialsAs answer s at until old new d_old d_new → GoesOnInTime start first timeout at within old.board new.board
  dialled_in_time None s at until within old new d_old d_new is = lines.unchanged start first timeout at within old.board new.board (ap (λ (desk : LeaseDesk). desk.board) is.1.0)
  dialled_in_time (Some dial.Failed) s at until within old new d_old d_new is = lines.unchanged start first timeout at within old.board new.board (ap (λ (desk : LeaseDesk). desk.board) is.1.0)
  dialled_in_time (Some (dial.New number)) s at until within old new d_old d_new is = λ was.
      let to = is.1.0 in
      lines.calm start first timeout at within (dials s number at) to.gathered.board new.board refl to.dials (gathered_in_time at within s until old to.gathered to.gathers was)

  dialled_opened : (answer : Option Dialled) (s at until : ℕ) (within : first ≤ at) (old new : LeaseDesk) (d_old d_new : Dialler) → DialsAs answer s at until old new d_old d_new → GoesOnOpened old.board new.board
  dialled_opened None s at until within old new d_old d_new is = λ was. subst AreOpened (sym (ap (λ (desk : LeaseDesk). desk.board) is.1.0)) was
  dialled_opened (Some dial.Failed) s at until within old new d_old d_new is = λ was. subst AreOpened (sym (ap (λ (desk : LeaseDesk). desk.board) is.1.0)) was
  dialled_opened (Some (dial.New number)) s at until within old new d_old d_new is = λ was.
      let to = is.1.0 in
      opened_calm (dials s number at) to.gathered.board new.board tt to.dials (gathered_opened at within s until old to.gathered to.gathers was)

  session_dialled : (s : ℕ) (old new : AtWire) → DialsSession s old new → Moves old.engine new.engine
  session_dialled s old new is =
      let stays = g.dials s old new is in
      unserved old.engine new.engine stays.moment (desk_alike old.engine.sessions new.engine.sessions (ap (λ (e : Engine). e.sessions) is.rest))
      (λ within. by_account old.engine.moment within all_done all_done (board_of old.engine) (board_of new.engine) stays.board
      (λ was. dialled_in_time is.answer s old.engine.moment (until_of old.engine) within old.engine.sessions.desk new.engine.sessions.desk old.engine.dialler new.engine.dialler is.dials was.in_time)
      (λ was. dialled_opened is.answer s old.engine.moment (until_of old.engine) within old.engine.sessions.desk new.engine.sessions.desk old.engine.dialler new.engine.dialler is.dials was.opened))

  one_read : (k : ℕ) (old new : Reading) → ReadsIfStands k old new → EngineStaysAccountedFor old.engine new.engine → Moves old.engine new.engine
  one_read k old new (inl reads) stays = unserved old.engine new.engine stays.moment (desk_alike old.engine.sessions new.engine.sessions (ap (λ (e : Engine). e.sessions) reads.rest))
      (λ within. read_at old.engine.moment within reads.answer _ k _ (until_of old.engine) _ _ reads.reads)
  one_read k old new (inr none) stays =
      same_board old.engine new.engine stays (same_alike old.engine.sessions new.engine.sessions (ap (λ (r : Reading). r.engine.sessions) none.1)) (ap (λ (r : Reading). board_of r.engine) none.1)

  session_ticked : (s : ℕ) (old new : Engine) → TicksSession s old new → Moves old new
  session_ticked s old new is = unserved old new (g.ticks s old new is).moment (desk_alike old.sessions new.sessions (ap (λ (e : Engine). e.sessions) is.rest))
      (λ within. ticked_at old.moment within s (until_of old) old.sessions.desk new.sessions.desk is.end is.ticks)

  library_binds : (at : ℕ) (happening : Happening) → IsOfLibraries at happening → BindsNone happening
  library_binds at (times_out s w bodies moment until) is = tt
  library_binds at (requests s library nr from) is = tt
  library_binds at (reserves s) is = tt
  library_binds at other is = absurd is

  one_served : (i : ℕ) (old new : Serving) → ServesOne (i + 1) old new → Moves old.engine new.engine
  one_served i old new is =
      let at = old.engine.moment in
      let until = until_of old.engine in
      let stays = g.serves (i + 1) old new is in
      let runs = g.serving (i + 1) at until old.engine.sessions new.engine.sessions is.turn is.serves in
      at_moment old.engine new.engine stays.moment
      (λ within was. record {
        board = by_account at within all_done all_done (board_of old.engine) (board_of new.engine) stays.board
            (λ now. served_in_time start first timeout at within (i + 1) until old.engine.sessions new.engine.sessions is.turn (omega arith) is.serves was.watched now.in_time)
            (λ now. opened_reached runs.happenings (board_of old.engine) (board_of new.engine) (All-weaker (IsOfLibraries at) BindsNone (library_binds at) runs.happenings runs.all) runs.reaches now.opened)
            was.board;
        watched = served_watched first timeout (i + 1) at until old.engine.sessions new.engine.sessions is.turn within is.serves was.watched;
      })

  session_noted : (s : ℕ) (old new : Engine) → NotesSession s old new → Moves old new
  session_noted s old new is = same_board old new (g.notes s old new is) (same_alike old.sessions new.sessions (ap (λ (e : Engine). e.sessions) is.1)) (ap (λ (e : Engine). board_of e) is.1)

  session_published : (s : ℕ) (old new : Engine) → PublishesSession s old new → Moves old new
  session_published s old new is = same_board old new (g.publishes s old new is) (desk_alike old.sessions new.sessions (ap (λ (e : Engine). e.sessions) is.rest)) is.board

  all_written : (links_old links_new : ℕ → Link) (old new : Engine) (bytes : ℕ) → WritesAll links_old links_new old new bytes → Moves old new
  all_written links_old links_new old new bytes is =
      let places = open_places old.lines in
      unserved old new (ap (λ (e : Engine). e.moment) is.rest) (desk_alike old.sessions new.sessions (ap (λ (e : Engine). e.sessions) is.rest))
      (λ within. written_in_turn old.moment within places (length places) (written_so_far old.sessions.desk old.lines.unkept.items links_old 0) (written_so_far new.sessions.desk old.lines.unkept.items links_new bytes) is.writes)

  quiet_step : (old new : AtWire) → QuietStep old new → Moves old.engine new.engine
  quiet_step _ _ (walk.read k door old new is) = one_read k old new is (g.reads k old new is)
  quiet_step _ _ (walk.ticked s door links old new is) = session_ticked s old new is
  quiet_step _ _ (walk.served i door links old new is) = one_served i old new is
  quiet_step _ _ (walk.noted s door links old new is) = session_noted s old new is
  quiet_step _ _ (walk.published s door links old new is) = session_published s old new is
  quiet_step _ _ (walk.written door links_old links_new old new bytes is) = all_written links_old links_new old new bytes is

  step : (old new : AtWire) → TurnStep old new → Moves old.engine new.engine
  step _ _ (walk.accepted answer old new is) = next_accepted answer old new is (g.accepts answer old new is)
  step _ _ (walk.dialled s old new is) = session_dialled s old new is
  step _ _ (walk.quiet old new is) = quiet_step old new is

  turn_moves : (reading : ℕ) (old new : AtWire) (turn : Turn) → MakesTurn reading old new turn → Moves (with_moment reading old.engine) new.engine
  turn_moves reading old new turn is = turn_walked Moves moves_itself moves_further step _ new (g.walks.turn reading old new turn is)

  -- behind a turn, whose moment this is
  pub turn_moment : (reading : ℕ) (old new : AtWire) (turn : Turn) → MakesTurn reading old new turn → new.engine.moment ≡ (with_moment reading old.engine).moment
  turn_moment reading old new turn is = (turn_moves reading old new turn is).moment

  pub turn_clocked : (reading : ℕ) (old new : AtWire) (turn : Turn) → MakesTurn reading old new turn → first ≤ old.engine.moment → IsClockedEngine old.engine.moment old.engine → IsClockedEngine new.engine.moment new.engine
  turn_clocked reading old new turn is within was =
      let begun = with_moment reading old.engine in
      let moves = turn_moves reading old new turn is in
      let later : old.engine.moment ≤ begun.moment = omega arith in
      subst (λ n. IsClockedEngine n new.engine) (sym moves.moment)
      (moves.keeps begun.moment refl (omega arith) (record { board = later_clocked old.engine.moment begun.moment (board_of old.engine) later was.board; watched = was.watched }))

  -- as each session is gathered at the end
  pub gathered_clocked : (count at until : ℕ) (old new : LeaseDesk) → first ≤ at → InTurn (λ s. Gathers s at until) count old new → IsClockedAt at old.board → IsClockedAt at new.board
  gathered_clocked count at until old new within gathers =
      each_in_turn (λ s. Gathers s at until) (λ a b. IsClockedAt at a.board → IsClockedAt at b.board) (λ desk was. was) (λ a b c one two was. two (one was)) (λ s a b. gathered_at at within all_done s until a b) count old new gathers
