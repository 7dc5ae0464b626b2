-- What each happening makes of sessions and connections: each connection came at a moment that isn't before the first one, and one that ended since nothing came
-- was waited for; and no journal tells too early of a lease that was taken back.
use Rattle.std.proofs.Common.{◌≡◌, ℕ, zero, suc, ◌+◌, ◌<◌, ◌≤◌, true, false, List, [], ◌∷◌, get_or, length, set, Option, None, Some, refl, sym, ap, subst, ◌∙◌, arith}
use Rattle.std.proofs.lemmas.List.Elements.{All-cons, All-head, All-nil, All-push, All-tail, All-weaker}
use Rattle.std.proofs.lemmas.Option.{none-some, same_Some}
use Rattle.std.specs.List.{All}
use Rattle.std.specs.Prelude.{IsNone, unwrap_or}
use Rattle.headline.proofs.clock_lemmas.Books.{IsSameButSent, binding_same, dial_same, message_same, same_heard, same_itself, ticking_same, timeout_same, word_same}
use Rattle.headline.proofs.clock_lemmas.Causes.{is_silent, message_inner}
use Rattle.headline.proofs.clock_lemmas.Journals.{AreTimely, IsTimely, binding_timely, dial_timely, end_timely, lapse_timely, later_entry, message_timely, request_timely, ticking_timely, timeout_timely, word_shown_timely}
use Rattle.headline.proofs.clock_lemmas.Phases.{HasHeard, ask_heard, later_heard, leave_heard, receive_heard, tick_heard}
use Rattle.headline.specs.clock.Waited.{HasWaited, messages_of, wait_by}
use Rattle.connection_core.specs.Connection.{ConnectionState, after_end, after_next, after_taking, fresh, fresh_dial}
use Rattle.connection_core.specs.Outgoing.{no_outgoing}
use Rattle.lease_core.specs.declared.entry.Entry.{Entry}
use Rattle.session_book.specs.Acts.{after_binding, after_dial}
use Rattle.session_book.specs.Book.{Book, Desk, with_outbox}
use Rattle.session_book.specs.Kept.{Kept}
use Rattle.session_core.specs.Ask.{after_ask}
use Rattle.session_core.specs.Receive.{after_receive}
use Rattle.session_core.specs.State.{State}
use Rattle.session_core.specs.Tick.{after_tick}
use Rattle.session_core.specs.declared.causes.Cause.{Cause}
use Rattle.session_core.specs.declared.causes.Cause.TheVariants.{Silent}
use Rattle.switchboard.specs.Board.{Board, OutboxChanges, book_at, connection_at, desk_at, desk_with, no_connection, no_session, session_at}
use Rattle.switchboard.specs.Happenings.{BindsTo, BookChanges, ConnectionChanges, EndsBound, EndsUnbound, Happening, Happens, Reaches, SessionGoesOn, accepts, answers, binds, binds_and_ends, dials, ends_bound, ends_unbound, gives, lapses, prepares, receives, requests, reserves, shows, takes, ticks, times_out, writes}

-- one of some becomes another
pub all_set : {X : Type 0} (P : X → Type 0) (none : X) (xs : List X) (k : ℕ) (x : X) → (k < length xs → P (get_or xs k none) → P x) → All P xs → All P (set xs k x)
all_set P none [] k x becomes all = all
all_set P none (y ∷ ys) zero x becomes all = All-cons P x ys (becomes (omega arith) (All-head P y ys all)) (All-tail P y ys all)
all_set P none (y ∷ ys) (suc k) x becomes all = All-cons P y (set ys k x) (All-head P y ys all) (all_set P none ys k x (λ within. becomes (omega arith)) (All-tail P y ys all))

pub later_waited : (first at later since wait : ℕ) → at ≤ later → HasWaited first at since wait → HasWaited first later since wait
later_waited first at later since wait up_to was = record { begun = was.begun; waited = (let waited = was.waited in omega arith); some = was.some }

module _ (start : ℕ → State) (first timeout : ℕ) where
  -- where the connection ends by this cause, it was waited for
  abbrev pub EndsInTime : ℕ → Cause → ConnectionState → Type 0
  EndsInTime at cause c = (since : ℕ) → cause ≡ Silent since → HasWaited first at since (wait_by start c.session (messages_of c.taken))

  pub record IsInTime (at : ℕ) (c : ConnectionState) : Type 0 where
    pub came : first ≤ c.since
    pub ended : (cause : Cause) → c.cause ≡ Some cause → EndsInTime at cause c

  -- no entry of the session's journal tells too early of a lease that was taken back
  abbrev pub IsTold : ℕ → Kept → Type 0
  IsTold at kept = AreTimely first timeout at kept.book.entries

  -- so it is of each connection, each session has heard, and so is each journal
  pub record AreInTime (at : ℕ) (board : Board) : Type 0 where
    pub lines : All (IsInTime at) board.connections
    pub machines : All (λ (kept : Kept). HasHeard first at kept.book.machine) board.sessions
    pub journals : All (IsTold at) board.sessions

  pub later_line : (at later : ℕ) → at ≤ later → (c : ConnectionState) → IsInTime at c → IsInTime later c
  later_line at later up_to c was = record { came = was.came; ended = λ cause is since silent. later_waited first at later since _ up_to (was.ended cause is since silent) }

  later_told : (at later : ℕ) → at ≤ later → (kept : Kept) → IsTold at kept → IsTold later kept
  later_told at later up_to kept = All-weaker (IsTimely first timeout at) (IsTimely first timeout later) (later_entry first timeout at later up_to) kept.book.entries

  pub later_all : (at later : ℕ) (board : Board) → at ≤ later → AreInTime at board → AreInTime later board
  later_all at later board up_to was = record {
    lines = All-weaker (IsInTime at) (IsInTime later) (later_line at later up_to) board.connections was.lines;
    machines = All-weaker (λ (kept : Kept). HasHeard first at kept.book.machine) (λ (kept : Kept). HasHeard first later kept.book.machine) (λ kept. later_heard first at later kept.book.machine up_to) board.sessions was.machines;
    journals = All-weaker (IsTold at) (IsTold later) (later_told at later up_to) board.sessions was.journals;
  }

  module _ (at : ℕ) (within : first ≤ at) where
    abbrev pub GoesOnInTime : Board → Board → Type 0
    GoesOnInTime old new = AreInTime at old → AreInTime at new

    abbrev LinesGoOn : Board → Board → Type 0
    LinesGoOn old new = All (IsInTime at) old.connections → All (IsInTime at) new.connections

    abbrev Heard : Board → Type 0
    Heard board = All (λ (kept : Kept). HasHeard first at kept.book.machine) board.sessions

    abbrev MachinesGoOn : Board → Board → Type 0
    MachinesGoOn old new = Heard old → Heard new

    abbrev JournalsGoOn : Board → Board → Type 0
    JournalsGoOn old new = All (IsTold at) old.sessions → All (IsTold at) new.sessions

    all_three : (old new : Board) → LinesGoOn old new → MachinesGoOn old new → JournalsGoOn old new → GoesOnInTime old new
    all_three old new lines machines journals was = record { lines = lines was.lines; machines = machines was.machines; journals = journals was.journals }

    pub unchanged : (old new : Board) → new ≡ old → GoesOnInTime old new
    unchanged old new same was = subst (AreInTime at) (sym same) was

    -- connections
    one_line : (k : ℕ) (c : ConnectionState) (old new : Board) → new.connections ≡ set old.connections k c → (k < length old.connections → IsInTime at (connection_at old k) → IsInTime at c) → LinesGoOn old new
    one_line k c old new changes becomes all = subst (All (IsInTime at)) (sym changes) (all_set (IsInTime at) no_connection old.connections k c becomes all)

    same_lines : (old new : Board) → new.connections ≡ old.connections → LinesGoOn old new
    same_lines old new same all = subst (All (IsInTime at)) (sym same) all

    stands_on : (c : ConnectionState) → first ≤ c.since → IsNone c.cause → IsInTime at c
    stands_on c came none = record { came = came; ended = λ cause is. (let clash = subst IsNone is none in absurd (cc)) }

    same_but_out : (k : ℕ) (old new : Board) → IsInTime at (connection_at old k) → IsInTime at (record (connection_at old k) { out = (connection_at new k).out })
    same_but_out k old new was = record { came = was.came; ended = was.ended }

    outboxes : (place : Option ℕ) (old new : Board) → OutboxChanges place old new → LinesGoOn old new
    outboxes None old new changes = same_lines old new changes
    outboxes (Some k) old new changes = one_line k (record (connection_at old k) { out = (connection_at new k).out }) old new changes.0 (λ within_it. same_but_out k old new)

    one_ends : (c : ConnectionState) (cause : Cause) (before : Option Cause) → c.cause ≡ before → (c.cause ≡ None → EndsInTime at cause c) → IsInTime at c → IsInTime at (after_end cause c)
    one_ends c cause None stands may was = record {
      came = was.came;
      ended = λ why is since silent. may stands since (same_Some cause why (ap (λ (o : Option Cause). Some (unwrap_or o cause)) (sym stands) ∙ is) ∙ silent);
    }
    one_ends c cause (Some before) ended may was = record {
      came = was.came;
      ended = λ why is. was.ended why (ended ∙ ap (λ (o : Option Cause). Some (unwrap_or o cause)) (sym ended) ∙ is);
    }

    -- sessions
    one_session : (s : ℕ) (old new : Board) → new.sessions ≡ set old.sessions s (session_at new s) → (HasHeard first at (book_at old s).machine → HasHeard first at (book_at new s).machine) → MachinesGoOn old new
    one_session s old new changes becomes all =
        subst (All (λ (kept : Kept). HasHeard first at kept.book.machine)) (sym changes)
        (all_set (λ (kept : Kept). HasHeard first at kept.book.machine) no_session old.sessions s (session_at new s) (λ within_it. becomes) all)

    same_sessions : (old new : Board) → new.sessions ≡ old.sessions → MachinesGoOn old new
    same_sessions old new same all = subst (All (λ (kept : Kept). HasHeard first at kept.book.machine)) (sym same) all

    -- entries stay timely, where they are these
    abbrev pub StayTimely : List Entry → List Entry → Type 0
    StayTimely entries more = AreTimely first timeout at entries → AreTimely first timeout at more

    one_journal : (s : ℕ) (old new : Board) (book : Book) → new.sessions ≡ set old.sessions s (session_at new s) → book_at new s ≡ book → StayTimely (book_at old s).entries book.entries → JournalsGoOn old new
    one_journal s old new book changes is stay all =
        subst (All (IsTold at)) (sym changes)
        (all_set (IsTold at) no_session old.sessions s (session_at new s) (λ within_it was. subst (λ (b : Book). AreTimely first timeout at b.entries) (sym is) (stay was)) all)

    same_journals : (old new : Board) → new.sessions ≡ old.sessions → JournalsGoOn old new
    same_journals old new same all = subst (All (IsTold at)) (sym same) all

    -- the book of a session becomes this one, whose machine is so but for the last sending
    becomes : (s : ℕ) (old new : Board) (desk : Desk) (machine : State) → book_at new s ≡ desk.book → IsSameButSent desk.book.machine machine → HasHeard first at machine → HasHeard first at (book_at new s).machine
    becomes s old new desk machine is same heard = subst (λ (book : Book). HasHeard first at book.machine) (sym is) (same_heard first at desk.book.machine machine same heard)

    changing : (k : ℕ) (c : ConnectionState) (old new : Board) → ConnectionChanges k c old new → (IsInTime at (connection_at old k) → IsInTime at c) → GoesOnInTime old new
    changing k c old new changes line =
        all_three old new (one_line k c old new (ap (λ (b : Board). b.connections) changes.others) (λ within_it. line)) (same_sessions old new (ap (λ (b : Board). b.sessions) changes.others))
        (same_journals old new (ap (λ (b : Board). b.sessions) changes.others))

    going : (s : ℕ) (desk : Desk) (machine : State) (old new : Board) → SessionGoesOn s old new → desk_at new s ≡ desk → IsSameButSent desk.book.machine machine
        → (HasHeard first at (book_at old s).machine → HasHeard first at machine) → StayTimely (book_at old s).entries desk.book.entries → GoesOnInTime old new
    going s desk machine old new goes is same heard stay =
        all_three old new (outboxes _ old new goes.others.connections)
        (one_session s old new goes.others.sessions (λ was. becomes s old new desk machine (ap (λ (d : Desk). d.book) is) same (heard was)))
        (one_journal s old new desk.book goes.others.sessions (ap (λ (d : Desk). d.book) is) stay)

    alone : (s : ℕ) (book : Book) (old new : Board) → BookChanges s book old new → book.machine ≡ (book_at old s).machine → StayTimely (book_at old s).entries book.entries → GoesOnInTime old new
    alone s book old new changes same stay =
        all_three old new (same_lines old new (ap (λ (b : Board). b.connections) changes.others))
        (one_session s old new (ap (λ (b : Board). b.sessions) changes.others)
        (λ was. subst (HasHeard first at) (sym (ap (λ (b : Book). b.machine) changes.becomes ∙ same)) was))
        (one_journal s old new book (ap (λ (b : Board). b.sessions) changes.others) changes.becomes stay)

    binding_to : (s k : ℕ) (body : List ℕ) (old new : Board) → BindsTo s k body at old new → GoesOnInTime old new
    binding_to s k body old new is =
        all_three old new
        (one_line k (connection_at new k) old new is.plugged.connections
        (λ within_it was. stands_on (connection_at new k) (subst (λ n. first ≤ n) (sym (ap (λ (c : ConnectionState). c.since) is.connection)) was.came)
        (subst IsNone (sym (ap (λ (c : ConnectionState). c.cause) is.connection)) is.stands)))
        (one_session s old new is.plugged.sessions
        (λ was. becomes s old new (after_binding at (connection_at old k).number body (desk_with old s (Some k))) (after_receive (book_at old s).machine body at) (ap (λ (d : Desk). d.book) is.desk) (binding_same at (connection_at old k).number body (desk_with old s (Some k)))
        (receive_heard first at within (book_at old s).machine body was)))
        (one_journal s old new (after_binding at (connection_at old k).number body (desk_with old s (Some k))).book is.plugged.sessions (ap (λ (d : Desk). d.book) is.desk)
        (binding_timely first timeout at at (connection_at old k).number body (desk_with old s (Some k))))

    -- where a connection may end by this cause
    abbrev pub MayEnd : Board → ℕ → Cause → Type 0
    MayEnd board k cause = k < length board.connections → (connection_at board k).cause ≡ None → EndsInTime at cause (connection_at board k)

    pub inner_may : (board : Board) (k : ℕ) (cause : Cause) → is_silent cause ≡ false → MayEnd board k cause
    inner_may board k cause inner within_it stands since silent = (let clash : false ≡ true = sym inner ∙ ap is_silent silent in absurd (cc))

    pub leaving : (s k : ℕ) (cause : Cause) (old new : Board) → MayEnd old k cause → EndsBound s k cause old new → GoesOnInTime old new
    leaving s k cause old new may is =
        all_three old new
        (one_line k (connection_at new k) old new is.unplugged.connections
        (λ within_it was. subst (IsInTime at) (sym is.connection) (one_ends (connection_at old k) cause (connection_at old k).cause refl (may within_it) was)))
        (one_session s old new is.unplugged.sessions
        (λ was. subst (λ (book : Book). HasHeard first at book.machine) (sym is.book) (leave_heard first at within (book_at old s).machine was)))
        (one_journal s old new _ is.unplugged.sessions is.book (end_timely first timeout at (connection_at old k).number (book_at old s)))

    pub refused : (k : ℕ) (cause : Cause) (old new : Board) → MayEnd old k cause → EndsUnbound k cause old new → GoesOnInTime old new
    refused k cause old new may is = changing k _ old new is.changes (one_ends (connection_at old k) cause (connection_at old k).cause refl (may is.changes.within))

    -- No connection ends by it, its moment is this one, and no session is taken back before the timeout has passed.
    abbrev pub IsCalm : Happening → Type 0
    IsCalm (accepts number moment) = moment ≡ at
    IsCalm (dials s number moment) = moment ≡ at
    IsCalm (binds s k body moment) = moment ≡ at
    IsCalm (binds_and_ends s k body moment cause) = moment ≡ at
    IsCalm (receives s k body moment) = moment ≡ at
    IsCalm (ticks s moment) = moment ≡ at
    IsCalm (times_out s w bodies moment until) = first + timeout ≤ at
    IsCalm (ends_unbound k cause) = ⊥
    IsCalm (ends_bound s k cause) = ⊥
    IsCalm _ = Unit {0}

    accepted : (number : ℕ) (old new : Board) → Happens (accepts number at) old new → GoesOnInTime old new
    accepted number old new is =
        all_three old new
        (λ all. subst (All (IsInTime at)) (sym (ap (λ (b : Board). b.connections) is.connection))
        (All-push (IsInTime at) old.connections (fresh number at (connection_at new (length old.connections)).out) all (record { came = within; ended = λ cause none. absurd (none-some cause none) })))
        (same_sessions old new (ap (λ (b : Board). b.sessions) is.connection))
        (same_journals old new (ap (λ (b : Board). b.sessions) is.connection))

    dialled : (s number : ℕ) (old new : Board) → Happens (dials s number at) old new → GoesOnInTime old new
    dialled s number old new is =
        all_three old new
        (λ all. subst (All (IsInTime at)) (sym is.connection)
        (All-push (IsInTime at) old.connections (fresh_dial number at s (connection_at new (length old.connections)).out) all (record { came = within; ended = λ cause none. absurd (none-some cause none) })))
        (one_session s old new is.sessions
        (λ was. becomes s old new (after_dial at number (with_outbox (book_at old s) no_outgoing)) (after_ask (book_at old s).machine at) (ap (λ (d : Desk). d.book) is.desk) (dial_same at number (with_outbox (book_at old s) no_outgoing))
        (ask_heard first at within (book_at old s).machine was)))
        (one_journal s old new (after_dial at number (with_outbox (book_at old s) no_outgoing)).book is.sessions (ap (λ (d : Desk). d.book) is.desk)
        (dial_timely first timeout at at number (with_outbox (book_at old s) no_outgoing)))

    ended_bound : (s k : ℕ) (body : List ℕ) (cause : Cause) (old new : Board) → Happens (binds_and_ends s k body at cause) old new → GoesOnInTime old new
    ended_bound s k body cause old new is was =
        leaving s k cause is.between new (inner_may is.between k cause (message_inner (book_at old s).machine body at cause is.ends)) is.leaves (binding_to s k body old is.between is.binding was)

    received : (s k : ℕ) (body : List ℕ) (old new : Board) → Happens (receives s k body at) old new → GoesOnInTime old new
    received s k body old new is =
        going s _ (after_receive (book_at old s).machine body at) old new is.goes_on is.desk (message_same at body (desk_at old s)) (receive_heard first at within (book_at old s).machine body)
        (message_timely first timeout at at body (desk_at old s))

    ticked : (s : ℕ) (old new : Board) → Happens (ticks s at) old new → GoesOnInTime old new
    ticked s old new is =
        going s _ (after_tick (book_at old s).machine at) old new is.goes_on is.desk (ticking_same at (desk_at old s)) (tick_heard first at within (book_at old s).machine)
        (ticking_timely first timeout at at (desk_at old s))

    pub calm : (happening : Happening) (old new : Board) → IsCalm happening → Happens happening old new → GoesOnInTime old new
    calm (accepts number moment) old new now is = accepted number old new (subst (λ n. Happens (accepts number n) old new) now is)
    calm (dials s number moment) old new now is = dialled s number old new (subst (λ n. Happens (dials s number n) old new) now is)
    calm (takes k bytes) old new now is = changing k _ old new is.changes (λ was. stands_on (after_taking bytes (connection_at old k)) was.came is.stands)
    calm (gives k) old new now is = changing k _ old new is.changes (λ was. stands_on (after_next (connection_at old k)) was.came is.stands)
    calm (binds s k body moment) old new now is = binding_to s k body old new (subst (λ n. Happens (binds s k body n) old new) now is).binding
    calm (binds_and_ends s k body moment cause) old new now is = ended_bound s k body cause old new (subst (λ n. Happens (binds_and_ends s k body n cause) old new) now is)
    calm (receives s k body moment) old new now is = received s k body old new (subst (λ n. Happens (receives s k body n) old new) now is)
    calm (answers k) old new now is = changing k _ old new is (λ was. record { came = was.came; ended = was.ended })
    calm (ticks s moment) old new now is = ticked s old new (subst (λ n. Happens (ticks s n) old new) now is)
    calm (shows s w bodies moment until) old new now is =
        going s _ (book_at old s).machine old new is.goes_on is.desk (word_same moment until w bodies (desk_at old s)) (λ was. was)
        (word_shown_timely first timeout at moment until w bodies (desk_at old s))
    calm (times_out s w bodies moment until) old new now is =
        going s _ (book_at old s).machine old new is.goes_on is.desk (timeout_same moment until w bodies (desk_at old s)) (λ was. was)
        (timeout_timely first timeout at now moment until w bodies (desk_at old s))
    calm (requests s library nr from) old new now is = alone s _ old new is refl (request_timely first timeout at library nr from (book_at old s))
    calm (lapses s) old new now is = alone s _ old new is refl (lapse_timely first timeout at (book_at old s))
    calm (ends_unbound k cause) old new now is = absurd now
    calm (ends_bound s k cause) old new now is = absurd now
    calm (prepares s k) old new now is = changing k _ old new is.changes (same_but_out k old new)
    calm (writes k n) old new now is = changing k _ old new is.changes (same_but_out k old new)
    calm (reserves s) old new now is = going s _ (book_at old s).machine old new is.goes_on is.desk (same_itself (book_at old s).machine) (λ was. was) (λ all. all)

    pub reached : (happenings : List Happening) (old new : Board) → All IsCalm happenings → Reaches happenings old new → GoesOnInTime old new
    reached [] old new all same = unchanged old new same
    reached (happening ∷ happenings) old new all steps = λ was.
        reached happenings steps.0 new (All-tail IsCalm happening happenings all) steps.1.1 (calm happening old steps.0 (All-head IsCalm happening happenings all) steps.1.0 was)

    pub one_calm : (happening : Happening) → IsCalm happening → All IsCalm (happening ∷ [])
    one_calm happening is = All-cons IsCalm happening [] is (All-nil IsCalm)
