-- Where memory is wanting nothing is told, or a beginning of the acts.
use Rattle.std.proofs.Common.{◌≡◌, ◌⊎◌, inl, inr, ℕ, ◌<◌, List, [], ◌∷◌, ◌++◌, length, get_or, set, Option, None, Some, IsNone, Result, Ok, Err, OnErr, true, refl, sym, ap, subst, ◌∙◌}
use Rattle.std.proofs.lemmas.List.{append-nil, get_or-set_other, length-set}
use Rattle.connection_core.specs.Connection.{ConnectionState, fresh_dial}
use Rattle.connection_core.specs.Outgoing.{Outlet, no_outgoing}
use Rattle.lease_core.specs.declared.event.Event.TheVariants.{Binds}
use Rattle.session_core.specs.Ask.{after_ask, ask}
use Rattle.session_core.specs.Receive.{after_receive, receive}
use Rattle.session_core.specs.Runs.{binds as is_logon}
use Rattle.session_core.specs.Tick.{after_tick, tick}
use Rattle.session_core.specs.declared.acts.Act.{Act}
use Rattle.session_core.specs.declared.names.Names.{Names}
use Rattle.session_book.specs.Acts.{IsBegun, after_acts, after_message}
use Rattle.session_book.specs.Book.{Book, Desk, IsSameSession, with_event, with_machine, with_outbox}
use Rattle.session_book.specs.Leases.{HasSameLeases}
use Rattle.switchboard.specs.Board.{Board, DeskChanges, OutboxChanges, book_at, connection_at, desk_at, desk_with, no_connection, outgoing_at, place_at, session_at, with_session}
use Rattle.switchboard.specs.Happenings.{BindsTo, ConnectionChanges, Happening, Happens, IsNewNumber, Receives, Ticks, accepts, answers, binds, binds_and_ends, dials, ends_bound, ends_unbound, gives, lapses, prepares, receives, requests, reserves, shows, takes, ticks, times_out, writes}
use Rattle.switchboard.specs.Sound.{bound_of}
use Rattle.switchboard.specs.Stops.{ActsAreBegun, HaveSameSessions, IsBegunBy, IsSameStream, NothingIsTold, StopsIn, is_untold}
use Rattle.switchboard.proofs.Bringing.{fresh_given}
use Rattle.switchboard.proofs.Changes.{none_is}
use Rattle.switchboard.proofs.Going.{change_lines, outbox_lines}
use Rattle.switchboard.proofs.Sounds.{same_or_other}
use Rattle.switchboard.proofs.Turns.{set_books, set_sessions}

pub on_err : {T E P : Type 0} (r : Result T E) → P → OnErr r P
on_err (Ok x) p = tt
on_err (Err e) p = p

-- of a connection nothing comes: what waits on it may change, and whether it is answered
still : (c : ConnectionState) → IsSameStream c c
still c = record { number = refl; dialled = refl; session = refl; came = record { taken = refl; held = refl; garbled = refl } }

with_out : (c : ConnectionState) (out : Outlet) → IsSameStream c (record c { out = out })
with_out c out = record { number = refl; dialled = refl; session = refl; came = record { taken = refl; held = refl; garbled = refl } }

further : (a b c : ConnectionState) → IsSameStream a b → IsSameStream b c → IsSameStream a c
further a b c one two = record {
  number = two.number ∙ one.number;
  dialled = two.dialled ∙ one.dialled;
  session = two.session ∙ one.session;
  came = record { taken = two.came.taken ∙ one.came.taken; held = two.came.held ∙ one.came.held; garbled = two.came.garbled ∙ one.came.garbled };
}

-- the same connections, of which nothing comes
record StayStill (old new : Board) : Type 0 where
  count : length new.connections ≡ length old.connections
  each : (k : ℕ) → k < length old.connections → IsSameStream (connection_at old k) (connection_at new k)

outbox_count : (place : Option ℕ) (old new : Board) → OutboxChanges place old new → length new.connections ≡ length old.connections
outbox_count None old new changes = ap length changes
outbox_count (Some k) old new changes = ap length changes.0 ∙ length-set old.connections k (record (connection_at old k) { out = (connection_at new k).out })

desk_lines : (s : ℕ) (place : Option ℕ) (old new : Board) → DeskChanges s place old new → StayStill old new
desk_lines s place old new changes =
    let lines = outbox_lines IsSameStream still place old new changes.connections (λ k at. with_out (connection_at old k) (connection_at new k).out) in
    record { count = outbox_count place old new changes.connections; each = lines.each }

nothing_lines : (old new : Board) → NothingIsTold old new → StayStill old new
nothing_lines old new nothing = record { count = nothing.count; each = nothing.streams }

lines_then : (old between new : Board) → StayStill old between → NothingIsTold between new → StayStill old new
lines_then old between new lines nothing = record {
  count = nothing.count ∙ lines.count;
  each = λ k within. further (connection_at old k) (connection_at between k) (connection_at new k) (lines.each k within) (nothing.streams k (subst (λ n. k < n) (sym lines.count) within));
}

-- nothing is told
told_nothing : (old new : Board) → length new.sessions ≡ length old.sessions → ((s : ℕ) → book_at new s ≡ book_at old s) → StayStill old new → NothingIsTold old new
told_nothing old new sessions books lines = record { sessions = sessions; books = books; count = lines.count; streams = lines.each }

pub nothing_itself : (board : Board) → NothingIsTold board board
nothing_itself board = told_nothing board board refl (λ s. refl) (record { count = refl; each = λ k within. still (connection_at board k) })

pub nothing_further : (first second third : Board) → NothingIsTold first second → NothingIsTold second third → NothingIsTold first third
nothing_further first second third one two =
    told_nothing first third (two.sessions ∙ one.sessions) (λ s. two.books s ∙ one.books s) (lines_then first second third (nothing_lines first second one) two)

-- the book of a session is as it was
same_books : (s : ℕ) (old new : Board) → new.sessions ≡ set old.sessions s (session_at new s) → book_at new s ≡ book_at old s → (j : ℕ) → book_at new j ≡ book_at old j
same_books s old new changes same j = elim (same_or_other j s) [
  | inl e ↦ subst (λ n. book_at new n ≡ book_at old n) (sym e) same
  | inr other ↦ set_books s old new changes j other
]

pub desk_nothing : (s : ℕ) (place : Option ℕ) (old new : Board) → DeskChanges s place old new → book_at new s ≡ book_at old s → NothingIsTold old new
desk_nothing s place old new changes same =
    told_nothing old new (set_sessions s old new changes.sessions) (same_books s old new changes.sessions same) (desk_lines s place old new changes)

pub session_nothing : (s : ℕ) (old new : Board) → new ≡ with_session s (session_at new s) old → book_at new s ≡ book_at old s → NothingIsTold old new
session_nothing s old new changes same =
    desk_nothing s None old new
    (record { sessions = ap (λ (b : Board). b.sessions) changes; places = ap (λ (b : Board). b.places) changes; connections = ap (λ (b : Board). b.connections) changes }) same

line_nothing : (k : ℕ) (c : ConnectionState) (old new : Board) → ConnectionChanges k c old new → IsSameStream (connection_at old k) c → NothingIsTold old new
line_nothing k c old new changes same =
    let lines = change_lines IsSameStream still k c old new changes same in
    told_nothing old new (ap (λ (b : Board). length b.sessions) changes.others) (λ s. ap (λ (b : Board). book_at b s) changes.others)
    (record { count = ap (λ (b : Board). length b.connections) changes.others ∙ length-set old.connections k c; each = lines.each })

pub happened_untold : (happening : Happening) (old new : Board) → is_untold happening ≡ true → Happens happening old new → NothingIsTold old new
happened_untold (answers k) old new untold is =
    line_nothing k (record (connection_at old k) { answered = true }) old new is (record { number = refl; dialled = refl; session = refl; came = record { taken = refl; held = refl; garbled = refl } })
happened_untold (prepares s k) old new untold is = line_nothing k _ old new is.changes (with_out (connection_at old k) (connection_at new k).out)
happened_untold (writes k n) old new untold is = line_nothing k _ old new is.changes (with_out (connection_at old k) (connection_at new k).out)
happened_untold (reserves s) old new untold is = desk_nothing s (place_at old s) old new is.goes_on.others (ap (λ (d : Desk). d.book) is.desk)
happened_untold (accepts number at) old new untold is = absurd (cc)
happened_untold (dials s number at) old new untold is = absurd (cc)
happened_untold (takes k bytes) old new untold is = absurd (cc)
happened_untold (gives k) old new untold is = absurd (cc)
happened_untold (binds s k body at) old new untold is = absurd (cc)
happened_untold (binds_and_ends s k body at cause) old new untold is = absurd (cc)
happened_untold (receives s k body at) old new untold is = absurd (cc)
happened_untold (ticks s at) old new untold is = absurd (cc)
happened_untold (shows s w bodies at until) old new untold is = absurd (cc)
happened_untold (times_out s w bodies at until) old new untold is = absurd (cc)
happened_untold (requests s library nr from) old new untold is = absurd (cc)
happened_untold (lapses s) old new untold is = absurd (cc)
happened_untold (ends_unbound k cause) old new untold is = absurd (cc)
happened_untold (ends_bound s k cause) old new untold is = absurd (cc)

-- some of the acts are carried out on a session, and behind them nothing is told
module _ (s at : ℕ) (acts : List Act) (start : Desk) (old new : Board) where
  acts_begun : (stopped : Desk) → s < length old.sessions → new.sessions ≡ set old.sessions s (session_at new s) → IsSameSession (book_at old s) (book_at new s)
      → book_at new s ≡ stopped.book → IsBegun at acts start stopped → ActsAreBegun s at acts start old new
  acts_begun stopped within changes same book begun =
      record { within = within; stopped = stopped; begun = begun; book = book; count = set_sessions s old new changes; others = set_books s old new changes; same = same }

  -- all of them
  acts_done : (stopped : Desk) → s < length old.sessions → new.sessions ≡ set old.sessions s (session_at new s) → IsSameSession (book_at old s) (book_at new s)
      → book_at new s ≡ stopped.book → stopped ≡ after_acts at acts start → ActsAreBegun s at acts start old new
  acts_done stopped within changes same book done =
      acts_begun stopped within changes same book (record { done = acts; left = []; acts_are = sym (append-nil acts); new_is = done })

  acts_then : (later : Board) → ActsAreBegun s at acts start old new → NothingIsTold new later → ActsAreBegun s at acts start old later
  acts_then later begun nothing = record {
    within = begun.within;
    stopped = begun.stopped;
    begun = begun.begun;
    book = nothing.books s ∙ begun.book;
    count = nothing.sessions ∙ begun.count;
    others = λ j other. nothing.books j ∙ begun.others j other;
    same = subst (λ book. IsSameSession (book_at old s) book) (sym (nothing.books s)) begun.same;
  }

-- a message comes, or the clock ticks, whole, and behind it nothing is told
pub received_then : (s k : ℕ) (body : List ℕ) (at : ℕ) (old between new : Board) → Receives s k body at old between → NothingIsTold between new → StopsIn (receives s k body at) old new
received_then s k body at old between new is nothing =
    let goes = is.goes_on in
    let lines = lines_then old between new (desk_lines s (place_at old s) old between goes.others) nothing in
    inr (record {
      placed = is.placed;
      begun = acts_then s at _ _ old between new
          (acts_done s at _ _ old between (desk_at between s) goes.within goes.others.sessions goes.lawful.same refl
          (subst (λ place. desk_at between s ≡ after_message at body (desk_with old s place)) is.placed is.desk)) nothing;
      count = lines.count;
      streams = lines.each;
    })

pub ticked_then : (s at : ℕ) (old between new : Board) → Ticks s at old between → NothingIsTold between new → StopsIn (ticks s at) old new
ticked_then s at old between new is nothing =
    let goes = is.goes_on in
    let lines = lines_then old between new (desk_lines s (place_at old s) old between goes.others) nothing in
    inr (record {
      begun = acts_then s at _ _ old between new (acts_done s at _ _ old between (desk_at between s) goes.within goes.others.sessions goes.lawful.same refl is.desk) nothing;
      count = lines.count;
      streams = lines.each;
    })

-- a session is bound, whole, and behind it nothing is told
pub bound_then : (s k : ℕ) (body : List ℕ) (at : ℕ) (old between new : Board) → BindsTo s k body at old between → NothingIsTold between new → StopsIn (binds s k body at) old new
bound_then s k body at old between new is nothing =
    let count : length between.connections ≡ length old.connections = ap length is.plugged.connections ∙ length-set old.connections k (connection_at between k) in
    let here = nothing.streams k (subst (λ n. k < n) (sym count) is.connection_within) in
    let names = is.connection in
    inr (record {
      connection_within = is.connection_within;
      names = is.names;
      logon = is.logon;
      accepts = is.accepts;
      free = is.free;
      unbound = is.unbound;
      stands = is.stands;
      begun = acts_then s at _ _ old between new (acts_done s at _ _ old between (desk_with between s (Some k)) is.within is.plugged.sessions is.lawful.same refl is.desk) nothing;
      count = nothing.count ∙ count;
      here = record {
        number = here.number ∙ ap (λ (c : ConnectionState). c.number) names;
        dialled = here.dialled ∙ ap (λ (c : ConnectionState). c.dialled) names;
        session = inr (here.session ∙ ap (λ (c : ConnectionState). c.session) names);
        came = record {
          taken = here.came.taken ∙ ap (λ (c : ConnectionState). c.taken) names;
          held = here.came.held ∙ ap (λ (c : ConnectionState). c.held) names;
          garbled = here.came.garbled ∙ ap (λ (c : ConnectionState). c.garbled) names;
        };
      };
      others = λ j other within.
          subst (λ c. IsSameStream c (connection_at new j))
          (ap (λ (cs : List ConnectionState). get_or cs j no_connection) is.plugged.connections ∙ get_or-set_other old.connections k j (connection_at between k) no_connection other)
          (nothing.streams j (subst (λ n. j < n) (sym count) within));
    })

-- the session's own call stopped: nothing happened, or the acts are begun
pub receipt_stops : (s k : ℕ) (body : List ℕ) (at : ℕ) (old new : Board) → s < length old.sessions → place_at old s ≡ Some k → DeskChanges s (Some k) old new → IsSameSession (book_at old s) (book_at new s)
    → (desk_with new s (Some k) ≡ desk_with old s (Some k))
    ⊎ IsBegun at (receive (book_at old s).machine body at).acts (with_outbox (with_machine (after_receive (book_at old s).machine body at) (book_at old s)) (outgoing_at old (Some k))) (desk_with new s (Some k))
    → StopsIn (receives s k body at) old new
receipt_stops s k body at old new within placed changes same stopped = elim stopped [
  | inl rests ↦ inl (desk_nothing s (Some k) old new changes (ap (λ (d : Desk). d.book) rests))
  | inr begun ↦ (let lines = desk_lines s (Some k) old new changes in
      inr (record { placed = placed; begun = acts_begun s at _ _ old new (desk_with new s (Some k)) within changes.sessions same refl begun; count = lines.count; streams = lines.each }))
]

pub tick_stops : (s at : ℕ) (old new : Board) → s < length old.sessions → DeskChanges s (place_at old s) old new → IsSameSession (book_at old s) (book_at new s)
    → (desk_at new s ≡ desk_at old s)
    ⊎ IsBegun at (tick (book_at old s).machine at).acts (with_outbox (with_machine (after_tick (book_at old s).machine at) (book_at old s)) (outgoing_at old (place_at old s))) (desk_at new s)
    → StopsIn (ticks s at) old new
tick_stops s at old new within changes same stopped = elim stopped [
  | inl rests ↦ inl (desk_nothing s (place_at old s) old new changes (ap (λ (d : Desk). d.book) rests))
  | inr begun ↦ (let lines = desk_lines s (place_at old s) old new changes in
      inr (record { begun = acts_begun s at _ _ old new (desk_at new s) within changes.sessions same refl begun; count = lines.count; streams = lines.each }))
]

pub bind_stops : (s k : ℕ) (body : List ℕ) (at : ℕ) (old new : Board) → s < length old.sessions → k < length old.connections → IsNone (connection_at old k).session → bound_of (book_at old s) ≡ None
    → DeskChanges s (Some k) old new → IsSameSession (book_at old s) (book_at new s)
    → (desk_with new s (Some k) ≡ desk_with old s (Some k))
    ⊎ IsBegun at (receive (book_at old s).machine body at).acts
    (with_outbox (with_machine (after_receive (book_at old s).machine body at) (with_event (Binds (connection_at old k).number) (book_at old s))) (outgoing_at old (Some k))) (desk_with new s (Some k))
    → (names : List Names) → is_logon names body ≡ true → (book_at old s).machine.dials ≡ None → IsNone (connection_at old k).cause → StopsIn (binds s k body at) old new
bind_stops s k body at old new within there unbound free changes same stopped names logon waits stands = elim stopped [
  | inl rests ↦ inl (desk_nothing s (Some k) old new changes (ap (λ (d : Desk). d.book) rests))
  | inr begun ↦ (let lines = desk_lines s (Some k) old new changes in
      let here = lines.each k there in
      inr (record {
        connection_within = there;
        names = names;
        logon = logon;
        accepts = waits;
        free = free;
        unbound = unbound;
        stands = stands;
        begun = acts_begun s at _ _ old new (desk_with new s (Some k)) within changes.sessions same refl begun;
        count = lines.count;
        here = record { number = here.number; dialled = here.dialled; session = inl (here.session ∙ none_is _ unbound); came = here.came };
        others = λ j other small. lines.each j small;
      }))
]

-- the connection was dialled, and stands behind the others
pub dial_stops : (s number at : ℕ) (out : Outlet) (old new : Board) → s < length old.sessions → bound_of (book_at old s) ≡ None → new.sessions ≡ set old.sessions s (session_at new s)
    → IsSameSession (book_at old s) (book_at new s) → new.connections ≡ old.connections ++ fresh_dial number at s out ∷ []
    → (with_outbox (book_at new s) out.outgoing ≡ with_outbox (book_at old s) no_outgoing)
    ⊎ IsBegun at (ask (book_at old s).machine).acts (with_outbox (with_machine (after_ask (book_at old s).machine at) (with_event (Binds number) (book_at old s))) no_outgoing) (with_outbox (book_at new s) out.outgoing)
    → IsNewNumber old number → StopsIn (dials s number at) old new
dial_stops s number at out old new within free changes same connections stopped new_number = inr (record {
  new_number = new_number;
  free = free;
  begun = elim stopped [
    | inl rests ↦ inl (record { count = set_sessions s old new changes; books = same_books s old new changes (ap (λ (d : Desk). d.book) rests) })
    | inr begun ↦ inr (acts_begun s at _ _ old new (with_outbox (book_at new s) out.outgoing) within changes same refl begun)
  ];
  connection = fresh_dial number at s out;
  connections = connections;
  number_is = refl;
  dialled = refl;
  session = refl;
  nothing_came = fresh_given (fresh_dial number at s out) refl refl refl;
})

-- where it stops the sessions are the same
books_sessions : (old new : Board) → length new.sessions ≡ length old.sessions → ((s : ℕ) → book_at new s ≡ book_at old s) → HaveSameSessions old new
books_sessions old new count books = record {
  count = count;
  same = λ s. subst (λ book. IsSameSession (book_at old s) book) (sym (books s)) (record { names = refl; dials = refl });
  leases = λ s. ap (λ (book : Book). book.leases) (books s);
}

module _ (leases_begun : (at : ℕ) (acts : List Act) (start new : Desk) → IsBegun at acts start new → HasSameLeases start.book new.book) where
  begun_sessions : (s at : ℕ) (acts : List Act) (start : Desk) (old new : Board) → start.book.leases ≡ (book_at old s).leases → ActsAreBegun s at acts start old new → HaveSameSessions old new
  begun_sessions s at acts start old new starts begun =
      let each : (j : ℕ) → IsSameSession (book_at old j) (book_at new j) × ((book_at new j).leases ≡ (book_at old j).leases) = λ j. elim (same_or_other j s) [
        | inl e ↦ subst (λ n. IsSameSession (book_at old n) (book_at new n) × ((book_at new n).leases ≡ (book_at old n).leases)) (sym e)
            (begun.same, ap (λ (book : Book). book.leases) begun.book ∙ (leases_begun at acts start begun.stopped begun.begun).leases ∙ starts)
        | inr other ↦ subst (λ (book : Book). IsSameSession (book_at old j) book × (book.leases ≡ (book_at old j).leases)) (sym (begun.others j other)) (record { names = refl; dials = refl }, refl)
      ] in
      record { count = begun.count; same = λ j. (each j).0; leases = λ j. (each j).1 }

  begun_by : (happening : Happening) (old new : Board) → IsBegunBy happening old new → HaveSameSessions old new
  begun_by (receives s k body at) old new is = begun_sessions s at _ _ old new refl is.begun
  begun_by (binds s k body at) old new is = begun_sessions s at _ _ old new refl is.begun
  begun_by (dials s number at) old new is = elim is.begun [ inl none ↦ books_sessions old new none.count none.books | inr begun ↦ begun_sessions s at _ _ old new refl begun ]
  begun_by (ticks s at) old new is = begun_sessions s at _ _ old new refl is.begun
  begun_by (answers k) old new is = absurd is
  begun_by (prepares s k) old new is = absurd is
  begun_by (writes k n) old new is = absurd is
  begun_by (reserves s) old new is = absurd is
  begun_by (accepts number at) old new is = absurd is
  begun_by (takes k bytes) old new is = absurd is
  begun_by (gives k) old new is = absurd is
  begun_by (binds_and_ends s k body at cause) old new is = absurd is
  begun_by (shows s w bodies at until) old new is = absurd is
  begun_by (times_out s w bodies at until) old new is = absurd is
  begun_by (requests s library nr from) old new is = absurd is
  begun_by (lapses s) old new is = absurd is
  begun_by (ends_unbound k cause) old new is = absurd is
  begun_by (ends_bound s k cause) old new is = absurd is

  pub stopped_sessions : (happening : Happening) (old new : Board) → StopsIn happening old new → HaveSameSessions old new
  stopped_sessions happening old new stopped = elim stopped [ inl nothing ↦ books_sessions old new nothing.sessions nothing.books | inr begun ↦ begun_by happening old new begun ]
