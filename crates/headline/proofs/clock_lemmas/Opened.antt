-- The connection to which a session that accepts is bound was opened by a Logon: the first message that was handed out of it, whose HeartBtInt the session goes by.
use Rattle.std.proofs.Common.{◌≡◌, ◌≢◌, ◌⊎◌, inl, inr, ℕ, zero, suc, ◌<◌, ◌≤◌, List, [], ◌∷◌, ◌++◌, get_or, length, set, Option, None, Some, refl, sym, ap, subst, ◌∙◌, arith, append_assoc}
use Rattle.std.proofs.Math.ListN.{get_or-append}
use Rattle.std.proofs.lemmas.Bool.{cases_eq}
use Rattle.std.proofs.lemmas.List.{append-nil, get_or-set_other, get_or-set_same, length-append, length-set}
use Rattle.std.proofs.lemmas.List.Elements.{All-get_or, All-tail, All-head}
use Rattle.std.proofs.lemmas.Option.{none-some, same_Some}
use Rattle.std.specs.List.{All}
use Rattle.headline.proofs.clock_lemmas.Books.{IsSameButSent, dial_same, message_same, same_itself, ticking_same, timeout_same, word_same}
use Rattle.headline.proofs.clock_lemmas.Lines.{all_set}
use Rattle.headline.proofs.clock_lemmas.Phases.{same_behind, same_ticked, stays_on}
use Rattle.headline.specs.clock.Waited.{heart_asked}
use Rattle.connection_core.specs.Connection.{ConnectionState, IsGiven, after_end}
use Rattle.connection_core.specs.Outgoing.{no_outgoing}
use Rattle.fix_frame.specs.Cut.{CutPiece, IsCutSoFar, garbled, good}
use Rattle.fix_frame.specs.declared.layout.TheConstants.{LONGEST_FRAME}
use Rattle.session_book.specs.Book.{Book, Desk, with_outbox}
use Rattle.session_book.specs.Kept.{Kept}
use Rattle.session_core.specs.Ask.{after_ask, after_logon}
use Rattle.session_core.specs.Receive.{after_receive}
use Rattle.session_core.specs.State.{State}
use Rattle.session_core.specs.Tick.{after_tick}
use Rattle.session_core.specs.declared.causes.Cause.{Cause}
use Rattle.session_core.specs.declared.phases.Phase.TheVariants.{Off, On}
use Rattle.switchboard.specs.Board.{Board, OutboxChanges, book_at, connection_at, desk_at, no_connection, no_session, place_at, session_at}
use Rattle.switchboard.specs.Brought.{good_bodies}
use Rattle.switchboard.specs.Happenings.{BindsTo, BookChanges, ConnectionChanges, EndsBound, Happening, Happens, Reaches, SessionGoesOn, StaysLawful, accepts, answers, binds, binds_and_ends, dials, ends_bound, ends_unbound, gives, lapses, next_pieces, prepares, receives, requests, reserves, shows, takes, ticks, times_out, writes}
use Rattle.switchboard.specs.Sound.{bound_of}

pub record HasOpened (machine : State) (c : ConnectionState) : Type 0 where
  pub body : List ℕ
  pub rest : List (List ℕ)
  pub pieces : List CutPiece
  pub given : IsGiven c pieces
  pub good : good_bodies pieces ≡ body ∷ rest
  pub on : machine.phase ≡ On (heart_asked body)

-- the session is bound to the connection at this place
pub record IsOpenedAt (board : Board) (s k : ℕ) : Type 0 where
  pub within : k < length board.connections
  pub opened : (book_at board s).machine.dials ≡ None → HasOpened (book_at board s).machine (connection_at board k)

-- a session that is bound to none is off
abbrev pub IsOff : Kept → Type 0
IsOff kept = bound_of kept.book ≡ None → kept.book.machine.phase ≡ Off

pub record AreOpened (board : Board) : Type 0 where
  pub off : All IsOff board.sessions
  pub opened : (s k : ℕ) → place_at board s ≡ Some k → IsOpenedAt board s k

abbrev pub GoesOnOpened : Board → Board → Type 0
GoesOnOpened old new = AreOpened old → AreOpened new

-- what was handed out stays handed out
pub record GivenFurther (c : ConnectionState) (pieces : List CutPiece) : Type 0 where
  pub more : List CutPiece
  pub given : IsGiven c (pieces ++ more)

abbrev GoesOnGiven : ConnectionState → ConnectionState → Type 0
GoesOnGiven old new = (pieces : List CutPiece) → IsGiven old pieces → GivenFurther new pieces

given_as : (c : ConnectionState) (pieces : List CutPiece) → IsGiven c pieces → GivenFurther c pieces
given_as c pieces given = record { more = []; given = subst (IsGiven c) (sym (append-nil pieces)) given }

-- a machine that is on stays on, with its HeartBtInt
record StaysOn (old new : State) : Type 0 where
  dials : new.dials ≡ old.dials
  on : (heart : ℕ) → old.phase ≡ On heart → new.phase ≡ On heart

stays_itself : (m : State) → StaysOn m m
stays_itself m = record { dials = refl; on = λ heart is. is }

stays_same : (old between new : State) → StaysOn old between → IsSameButSent new between → StaysOn old new
stays_same old between new stays same = record { dials = same.dials ∙ stays.dials; on = λ heart is. same.phase ∙ stays.on heart is }

receive_stays : (m : State) (body : List ℕ) (at : ℕ) → StaysOn m (after_receive m body at)
receive_stays m body at = record { dials = (same_behind m body at).dials; on = λ heart is. stays_on m body at heart is }

tick_stays : (m : State) (at : ℕ) → StaysOn m (after_tick m at)
tick_stays m at = (let same = same_ticked m at in record { dials = same.dials; on = λ heart is. same.phase ∙ is })

pub bodies_append : (first second : List CutPiece) → good_bodies (first ++ second) ≡ good_bodies first ++ good_bodies second
bodies_append [] second = refl
bodies_append (good body ∷ pieces) second = ap (λ bodies. body ∷ bodies) (bodies_append pieces second)
bodies_append (garbled size ∷ pieces) second = bodies_append pieces second

opened_further : (m_old m_new : State) (c_old c_new : ConnectionState) → StaysOn m_old m_new → GoesOnGiven c_old c_new → (m_old.dials ≡ None → HasOpened m_old c_old) → m_new.dials ≡ None → HasOpened m_new c_new
opened_further m_old m_new c_old c_new stays given was none = (
    let opened = was (sym stays.dials ∙ none) in
    let further = given opened.pieces opened.given in
    record {
      body = opened.body;
      rest = opened.rest ++ good_bodies further.more;
      pieces = opened.pieces ++ further.more;
      given = further.given;
      good = bodies_append opened.pieces further.more ∙ ap (λ bodies. bodies ++ good_bodies further.more) opened.good;
      on = stays.on (heart_asked opened.body) opened.on;
    })

-- one of the places changes
set_found : (places : List (Option ℕ)) (s t k : ℕ) (place : Option ℕ) → get_or (set places s place) t None ≡ Some k → ((t ≡ s) × (place ≡ Some k)) ⊎ ((t ≢ s) × (get_or places t None ≡ Some k))
set_found [] s t k place is = absurd (none-some k is)
set_found (p ∷ ps) zero zero k place is = inl (refl, is)
set_found (p ∷ ps) zero (suc t) k place is = inr ((λ e. omega arith), is)
set_found (p ∷ ps) (suc s) zero k place is = inr ((λ e. omega arith), is)
set_found (p ∷ ps) (suc s) (suc t) k place is = elim (set_found ps s t k place is) as (λ _. ((suc t ≡ suc s) × (place ≡ Some k)) ⊎ ((suc t ≢ suc s) × (get_or ps t None ≡ Some k))) [
  | inl here ↦ inl (ap suc here.0, here.1)
  | inr other ↦ inr ((λ e. other.0 (omega arith)), other.1)
]

-- connections
abbrev LinesGiven : Board → Board → Type 0
LinesGiven old new = (k : ℕ) → k < length old.connections → GoesOnGiven (connection_at old k) (connection_at new k)

same_given : (old new : ConnectionState) → new ≡ old → GoesOnGiven old new
same_given old new same pieces given = subst (λ (c : ConnectionState). GivenFurther c pieces) (sym same) (given_as old pieces given)

alike_given : (old new : ConnectionState) → new.taken ≡ old.taken → new.held ≡ old.held → new.garbled ≡ old.garbled → GoesOnGiven old new
alike_given old new taken held garbled_is pieces given = given_as new pieces (record {
  so_far = subst (λ (bytes : List ℕ). IsCutSoFar LONGEST_FRAME bytes pieces new.held) (sym taken) (subst (λ (bytes : List ℕ). IsCutSoFar LONGEST_FRAME old.taken pieces bytes) (sym held) given.so_far);
  counted = garbled_is ∙ given.counted;
})

-- one of them changes, and the others stay
one_given : (k : ℕ) (c : ConnectionState) (old new : Board) → new.connections ≡ set old.connections k c → GoesOnGiven (connection_at old k) (connection_at new k) → LinesGiven old new
one_given k c old new changes given j within = elim (cases_eq j k) [
  | inl here ↦ subst (λ i. GoesOnGiven (connection_at old i) (connection_at new i)) (sym here) given
  | inr other ↦ same_given (connection_at old j) (connection_at new j) (ap (λ (cs : List ConnectionState). get_or cs j no_connection) changes ∙ get_or-set_other old.connections k j c no_connection other)
]

all_given : (old new : Board) → new.connections ≡ old.connections → LinesGiven old new
all_given old new same k within = same_given (connection_at old k) (connection_at new k) (ap (λ (cs : List ConnectionState). get_or cs k no_connection) same)

more_given : (c : ConnectionState) (old new : Board) → new.connections ≡ old.connections ++ c ∷ [] → LinesGiven old new
more_given c old new more k within =
    same_given (connection_at old k) (connection_at new k) (ap (λ (cs : List ConnectionState). get_or cs k no_connection) more ∙ get_or-append old.connections (c ∷ []) no_connection k within)

set_count : (k : ℕ) (c : ConnectionState) (old new : Board) → new.connections ≡ set old.connections k c → length old.connections ≤ length new.connections
set_count k c old new changes = (let count = ap length changes ∙ length-set old.connections k c in omega arith)

same_count : (old new : Board) → new.connections ≡ old.connections → length old.connections ≤ length new.connections
same_count old new same = (let count = ap length same in omega arith)

more_count : (c : ConnectionState) (old new : Board) → new.connections ≡ old.connections ++ c ∷ [] → length old.connections < length new.connections
more_count c old new more = (let count = ap length more ∙ length-append old.connections (c ∷ []) in omega arith)

-- sessions
other_session : (s t : ℕ) (x : Kept) (old new : Board) → new.sessions ≡ set old.sessions s x → t ≢ s → (book_at new t).machine ≡ (book_at old t).machine
other_session s t x old new changes other = ap (λ (kept : Kept). kept.book.machine) (ap (λ (xs : List Kept). get_or xs t no_session) changes ∙ get_or-set_other old.sessions s t x no_session other)

stays_equal : (old new : State) → new ≡ old → StaysOn old new
stays_equal old new same = subst (StaysOn old) (sym same) (stays_itself old)

-- each machine stays on, where that of one session does
one_stays : (s : ℕ) (x : Kept) (old new : Board) → new.sessions ≡ set old.sessions s x → StaysOn (book_at old s).machine (book_at new s).machine → (t : ℕ) → StaysOn (book_at old t).machine (book_at new t).machine
one_stays s x old new changes stays t = elim (cases_eq t s) [
  | inl here ↦ subst (λ i. StaysOn (book_at old i).machine (book_at new i).machine) (sym here) stays
  | inr other ↦ stays_equal (book_at old t).machine (book_at new t).machine (other_session s t x old new changes other)
]

all_stay : (old new : Board) → new.sessions ≡ old.sessions → (t : ℕ) → StaysOn (book_at old t).machine (book_at new t).machine
all_stay old new same t = stays_equal (book_at old t).machine (book_at new t).machine (ap (λ (xs : List Kept). (get_or xs t no_session).book.machine) same)

one_off : (s : ℕ) (old new : Board) → new.sessions ≡ set old.sessions s (session_at new s) → IsOff (session_at new s) → All IsOff old.sessions → All IsOff new.sessions
one_off s old new changes off all = subst (All IsOff) (sym changes) (all_set IsOff no_session old.sessions s (session_at new s) (λ within was. off) all)

same_off : (old new : Board) → new.sessions ≡ old.sessions → All IsOff old.sessions → All IsOff new.sessions
same_off old new same all = subst (All IsOff) (sym same) all

-- places stay, connections keep what was handed out, and machines stay on
by_stay : (old new : Board) → new.places ≡ old.places → length old.connections ≤ length new.connections → LinesGiven old new → ((t : ℕ) → StaysOn (book_at old t).machine (book_at new t).machine)
    → (All IsOff old.sessions → All IsOff new.sessions) → GoesOnOpened old new
by_stay old new places count given stays off was = record {
  off = off was.off;
  opened = λ s k is.
      let before = was.opened s k (ap (λ (ps : List (Option ℕ)). get_or ps s None) (sym places) ∙ is) in
      let within = before.within in
      record {
        within = omega arith;
        opened = opened_further (book_at old s).machine (book_at new s).machine (connection_at old k) (connection_at new k) (stays s) (given k within) before.opened;
      };
}

-- one place changes
by_place : (s : ℕ) (place : Option ℕ) (x : Kept) (old new : Board) → new.places ≡ set old.places s place → new.sessions ≡ set old.sessions s x → length old.connections ≤ length new.connections → LinesGiven old new
    → (All IsOff old.sessions → All IsOff new.sessions) → ((k : ℕ) → place ≡ Some k → IsOpenedAt new s k) → GoesOnOpened old new
by_place s place x old new places sessions count given off here was = record {
  off = off was.off;
  opened = λ t k is. elim (set_found old.places s t k place (ap (λ (ps : List (Option ℕ)). get_or ps t None) (sym places) ∙ is)) [
    | inl at_s ↦ subst (λ i. IsOpenedAt new i k) (sym at_s.0) (here k at_s.1)
    | inr other ↦
        let before = was.opened t k other.1 in
        let within = before.within in
        record {
          within = omega arith;
          opened = opened_further (book_at old t).machine (book_at new t).machine (connection_at old k) (connection_at new k)
              (stays_equal (book_at old t).machine (book_at new t).machine (other_session s t x old new sessions other.0)) (given k within) before.opened;
        }
  ];
}

off_by : (s : ℕ) (old new : Board) → StaysLawful (book_at old s) (book_at new s) → IsOff (session_at new s)
off_by s old new lawful none = lawful.lawful.is_book.off none

changing : (k : ℕ) (c : ConnectionState) (old new : Board) → ConnectionChanges k c old new → GoesOnGiven (connection_at old k) (connection_at new k) → GoesOnOpened old new
changing k c old new changes given =
    let lines = ap (λ (b : Board). b.connections) changes.others in
    let sessions = ap (λ (b : Board). b.sessions) changes.others in
    by_stay old new (ap (λ (b : Board). b.places) changes.others) (set_count k c old new lines) (one_given k c old new lines given) (all_stay old new sessions) (same_off old new sessions)

-- the connection at the place that changes is this one
changed_is : (k : ℕ) (c : ConnectionState) (old new : Board) → ConnectionChanges k c old new → connection_at new k ≡ c
changed_is k c old new changes = ap (λ (b : Board). connection_at b k) changes.others ∙ get_or-set_same old.connections k c no_connection changes.within

alike_changing : (k : ℕ) (c : ConnectionState) (old new : Board) → ConnectionChanges k c old new → c.taken ≡ (connection_at old k).taken → c.held ≡ (connection_at old k).held → c.garbled ≡ (connection_at old k).garbled → GoesOnOpened old new
alike_changing k c old new changes taken held garbled_is =
    changing k c old new changes (subst (GoesOnGiven (connection_at old k)) (sym (changed_is k c old new changes)) (alike_given (connection_at old k) c taken held garbled_is))

outbox_count : (place : Option ℕ) (old new : Board) → OutboxChanges place old new → length old.connections ≤ length new.connections
outbox_count None old new changes = same_count old new changes
outbox_count (Some k) old new changes = set_count k _ old new changes.0

-- what waits on a connection says nothing of what came
outbox_given : (place : Option ℕ) (old new : Board) → OutboxChanges place old new → LinesGiven old new
outbox_given None old new changes j within = all_given old new changes j within
outbox_given (Some k) old new changes j within = elim (cases_eq j k) [
  | inl here ↦ subst (λ i. GoesOnGiven (connection_at old i) (connection_at new i)) (sym here)
      (subst (GoesOnGiven (connection_at old k))
      (sym (ap (λ (cs : List ConnectionState). get_or cs k no_connection) changes.0 ∙ get_or-set_same old.connections k (record (connection_at old k) { out = (connection_at new k).out }) no_connection (subst (λ i. i < length old.connections) here within)))
      (alike_given (connection_at old k) (record (connection_at old k) { out = (connection_at new k).out }) refl refl refl))
  | inr other ↦ same_given (connection_at old j) (connection_at new j)
      (ap (λ (cs : List ConnectionState). get_or cs j no_connection) changes.0 ∙ get_or-set_other old.connections k j (record (connection_at old k) { out = (connection_at new k).out }) no_connection other)
]

going : (s : ℕ) (desk : Desk) (machine : State) (old new : Board) → SessionGoesOn s old new → desk_at new s ≡ desk → IsSameButSent desk.book.machine machine → StaysOn (book_at old s).machine machine → GoesOnOpened old new
going s desk machine old new goes is same stays =
    by_stay old new goes.others.places (outbox_count (place_at old s) old new goes.others.connections) (outbox_given (place_at old s) old new goes.others.connections)
    (one_stays s (session_at new s) old new goes.others.sessions
    (subst (λ (book : Book). StaysOn (book_at old s).machine book.machine) (sym (ap (λ (d : Desk). d.book) is)) (stays_same (book_at old s).machine machine desk.book.machine stays same)))
    (one_off s old new goes.others.sessions (off_by s old new goes.lawful))

alone : (s : ℕ) (book : Book) (old new : Board) → BookChanges s book old new → book.machine ≡ (book_at old s).machine → GoesOnOpened old new
alone s book old new changes same =
    let lines = ap (λ (b : Board). b.connections) changes.others in
    let sessions = ap (λ (b : Board). b.sessions) changes.others in
    by_stay old new (ap (λ (b : Board). b.places) changes.others) (same_count old new lines) (all_given old new lines)
    (one_stays s (session_at new s) old new sessions (stays_equal (book_at old s).machine (book_at new s).machine (ap (λ (b : Book). b.machine) changes.becomes ∙ same)))
    (one_off s old new sessions (off_by s old new changes.lawful))

-- a session that dials
ask_off : (m : State) (at : ℕ) → m.dials ≡ None → m.phase ≡ Off → (after_ask m at).phase ≡ Off
ask_off m at none off = subst (λ d. (after_logon m at d).phase ≡ Off) (sym none) off

logon_dials : (m : State) (at : ℕ) (dials : Option ℕ) → (after_logon m at dials).dials ≡ m.dials
logon_dials m at None = refl
logon_dials m at (Some heart) = refl

dialled : (s number at : ℕ) (old new : Board) → Happens (dials s number at) old new → GoesOnOpened old new
dialled s number at old new is was =
    let same = dial_same at number (with_outbox (book_at old s) no_outgoing) in
    let machine : IsSameButSent (book_at new s).machine (after_ask (book_at old s).machine at) = subst (λ (book : Book). IsSameButSent book.machine (after_ask (book_at old s).machine at)) (sym (ap (λ (d : Desk). d.book) is.desk)) same in
    let off : (book_at old s).machine.phase ≡ Off = All-get_or IsOff old.sessions s no_session is.within was.off is.free in
    by_place s (Some (length old.connections)) (session_at new s) old new is.places is.sessions
    (let more = more_count _ old new is.connection in omega arith) (more_given _ old new is.connection)
    (one_off s old new is.sessions (off_by s old new is.lawful))
    (λ k place. record {
      within = subst (λ n. n < length new.connections) (same_Some (length old.connections) k place) (more_count _ old new is.connection);
      opened = λ none. absurd (is.on (machine.phase ∙ ask_off (book_at old s).machine at (sym (machine.dials ∙ logon_dials (book_at old s).machine at (book_at old s).machine.dials) ∙ none) off));
    }) was

plugged_given : (s k : ℕ) (old new : Board) (c : ConnectionState) → new.connections ≡ set old.connections k (connection_at new k) → connection_at new k ≡ c → c.taken ≡ (connection_at old k).taken → c.held ≡ (connection_at old k).held
    → c.garbled ≡ (connection_at old k).garbled → LinesGiven old new
plugged_given s k old new c changes is taken held garbled_is =
    one_given k (connection_at new k) old new changes (subst (GoesOnGiven (connection_at old k)) (sym is) (alike_given (connection_at old k) c taken held garbled_is))

pub leaving : (s k : ℕ) (cause : Cause) (old new : Board) → EndsBound s k cause old new → GoesOnOpened old new
leaving s k cause old new is =
    by_place s None (session_at new s) old new is.unplugged.places is.unplugged.sessions (set_count k (connection_at new k) old new is.unplugged.connections)
    (plugged_given s k old new (after_end cause (connection_at old k)) is.unplugged.connections is.connection refl refl refl)
    (one_off s old new is.unplugged.sessions (off_by s old new is.lawful)) (λ j none. absurd (none-some j none))

binding_given : (s k : ℕ) (body : List ℕ) (at : ℕ) (old new : Board) → BindsTo s k body at old new → LinesGiven old new
binding_given s k body at old new is =
    plugged_given s k old new (record (connection_at old k) { session = Some s; out = (connection_at new k).out }) is.plugged.connections is.connection refl refl refl

-- a session is bound, where the place behind that is known
pub binding_to : (s k : ℕ) (body : List ℕ) (at : ℕ) (old new : Board) → BindsTo s k body at old new → IsOpenedAt new s k → GoesOnOpened old new
binding_to s k body at old new is opened =
    by_place s (Some k) (session_at new s) old new is.plugged.places is.plugged.sessions (set_count k (connection_at new k) old new is.plugged.connections) (binding_given s k body at old new is)
    (one_off s old new is.plugged.sessions (off_by s old new is.lawful)) (λ j place. subst (IsOpenedAt new s) (same_Some k j place) opened)

given_then : (one two three : ConnectionState) → GoesOnGiven one two → GoesOnGiven two three → GoesOnGiven one three
given_then one two three first second pieces given =
    let further = first pieces given in
    let last = second (pieces ++ further.more) further.given in
    record { more = further.more ++ last.more; given = subst (IsGiven three) (append_assoc pieces further.more last.more) last.given }

-- it leaves at once
ended_bound : (s k : ℕ) (body : List ℕ) (at : ℕ) (cause : Cause) (old new : Board) → Happens (binds_and_ends s k body at cause) old new → GoesOnOpened old new
ended_bound s k body at cause old new is was = record {
  off = one_off s is.between new is.leaves.unplugged.sessions (off_by s is.between new is.leaves.lawful) (one_off s old is.between is.binding.plugged.sessions (off_by s old is.between is.binding.lawful) was.off);
  opened = opened_at;
} where
  bound : LinesGiven old is.between
  bound = binding_given s k body at old is.between is.binding

  bound_count : length old.connections ≤ length is.between.connections
  bound_count = set_count k (connection_at is.between k) old is.between is.binding.plugged.connections

  left_count : length is.between.connections ≤ length new.connections
  left_count = set_count k (connection_at new k) is.between new is.leaves.unplugged.connections

  left : LinesGiven is.between new
  left = plugged_given s k is.between new (after_end cause (connection_at is.between k)) is.leaves.unplugged.connections is.leaves.connection refl refl refl

  machine : (t : ℕ) → t ≢ s → (book_at new t).machine ≡ (book_at old t).machine
  machine t other = other_session s t (session_at new s) is.between new is.leaves.unplugged.sessions other ∙ other_session s t (session_at is.between s) old is.between is.binding.plugged.sessions other

  opened_still : (t j : ℕ) → t ≢ s → place_at old t ≡ Some j → IsOpenedAt new t j
  opened_still t j other placed =
      let before = was.opened t j placed in
      let within = before.within in
      let first = bound_count in
      let second = left_count in
      record {
        within = omega arith;
        opened = opened_further (book_at old t).machine (book_at new t).machine (connection_at old j) (connection_at new j) (stays_equal (book_at old t).machine (book_at new t).machine (machine t other))
            (given_then (connection_at old j) (connection_at is.between j) (connection_at new j) (bound j within) (left j (omega arith))) before.opened;
      }

  opened_between : (t j : ℕ) → t ≢ s → place_at is.between t ≡ Some j → IsOpenedAt new t j
  opened_between t j other placed = elim (set_found old.places s t j (Some k) (ap (λ (ps : List (Option ℕ)). get_or ps t None) (sym is.binding.plugged.places) ∙ placed)) [
    | inl here ↦ absurd (other here.0)
    | inr before ↦ opened_still t j other before.1
  ]

  opened_at : (t j : ℕ) → place_at new t ≡ Some j → IsOpenedAt new t j
  opened_at t j placed = elim (set_found is.between.places s t j None (ap (λ (ps : List (Option ℕ)). get_or ps t None) (sym is.leaves.unplugged.places) ∙ placed)) [
    | inl here ↦ absurd (none-some j here.1)
    | inr before ↦ opened_between t j before.0 before.1
  ]

accepted : (number at : ℕ) (old new : Board) → Happens (accepts number at) old new → GoesOnOpened old new
accepted number at old new is =
    let lines = ap (λ (b : Board). b.connections) is.connection in
    let sessions = ap (λ (b : Board). b.sessions) is.connection in
    by_stay old new (ap (λ (b : Board). b.places) is.connection) (let more = more_count _ old new lines in omega arith) (more_given _ old new lines) (all_stay old new sessions) (same_off old new sessions)

-- no session is bound and goes on
abbrev pub BindsNone : Happening → Type 0
BindsNone (binds s k body at) = ⊥
BindsNone _ = Unit {0}

pub opened_calm : (happening : Happening) (old new : Board) → BindsNone happening → Happens happening old new → GoesOnOpened old new
opened_calm (accepts number at) old new none is = accepted number at old new is
opened_calm (dials s number at) old new none is = dialled s number at old new is
opened_calm (takes k bytes) old new none is = changing k _ old new is.changes (λ pieces given. given_as (connection_at new k) pieces (is.given pieces given))
opened_calm (gives k) old new none is = changing k _ old new is.changes (λ pieces given. record { more = next_pieces (connection_at old k); given = is.given pieces given })
opened_calm (binds s k body at) old new none is = absurd none
opened_calm (binds_and_ends s k body at cause) old new none is = ended_bound s k body at cause old new is
opened_calm (receives s k body at) old new none is =
    going s _ (after_receive (book_at old s).machine body at) old new is.goes_on is.desk (message_same at body (desk_at old s)) (receive_stays (book_at old s).machine body at)
opened_calm (answers k) old new none is = alike_changing k _ old new is refl refl refl
opened_calm (ticks s at) old new none is =
    going s _ (after_tick (book_at old s).machine at) old new is.goes_on is.desk (ticking_same at (desk_at old s)) (tick_stays (book_at old s).machine at)
opened_calm (shows s w bodies at until) old new none is =
    going s _ (book_at old s).machine old new is.goes_on is.desk (word_same at until w bodies (desk_at old s)) (stays_itself (book_at old s).machine)
opened_calm (times_out s w bodies at until) old new none is =
    going s _ (book_at old s).machine old new is.goes_on is.desk (timeout_same at until w bodies (desk_at old s)) (stays_itself (book_at old s).machine)
opened_calm (requests s library nr from) old new none is = alone s _ old new is refl
opened_calm (lapses s) old new none is = alone s _ old new is refl
opened_calm (ends_unbound k cause) old new none is = alike_changing k _ old new is.changes refl refl refl
opened_calm (ends_bound s k cause) old new none is = leaving s k cause old new is
opened_calm (prepares s k) old new none is = alike_changing k _ old new is.changes refl refl refl
opened_calm (writes k n) old new none is = alike_changing k _ old new is.changes refl refl refl
opened_calm (reserves s) old new none is =
    going s _ (book_at old s).machine old new is.goes_on is.desk (same_itself (book_at old s).machine) (stays_itself (book_at old s).machine)

pub opened_reached : (happenings : List Happening) (old new : Board) → All BindsNone happenings → Reaches happenings old new → GoesOnOpened old new
opened_reached [] old new all same was = subst AreOpened (sym same) was
opened_reached (happening ∷ happenings) old new all steps was =
    opened_reached happenings steps.0 new (All-tail BindsNone happening happenings all) steps.1.1 (opened_calm happening old steps.0 (All-head BindsNone happening happenings all) steps.1.0 was)
