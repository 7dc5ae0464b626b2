-- Behind each happening the pieces of each connection are those that its session handled, and those in hand.
use Rattle.std.proofs.Common.{◌≡◌, ◌≢◌, inl, inr, ℕ, suc, ◌<◌, ◌≤◌, List, [], ◌∷◌, ◌++◌, drop, get_or, length, set, take, Option, None, Some, refl, sym, ap, subst, ◌∙◌, append_assoc, arith}
use Rattle.std.proofs.Math.ListN.{get_or-append}
use Rattle.std.proofs.Math.Seq.{get_or-append_seam}
use Rattle.std.proofs.lemmas.List.{append-nil, get_or-set_other, get_or-set_same, length-set, length_push}
use Rattle.connection_core.specs.Connection.{ConnectionState, IsGiven, after_next, after_taking, fresh, fresh_dial}
use Rattle.fix_frame.specs.Cut.{CutPiece, behind, cut, garbled, good}
use Rattle.fix_frame.specs.declared.layout.TheConstants.{LONGEST_FRAME}
use Rattle.lease_core.specs.State.{with_last}
use Rattle.lease_core.specs.declared.entry.Entry.{Entry}
use Rattle.session_core.specs.declared.causes.Cause.{Cause}
use Rattle.session_book.specs.Runs.{Handled, handled_of, with_body}
use Rattle.switchboard.specs.Board.{Board, OutboxChanges, book_at, connection_at, no_connection, place_at, session_at, with_connection}
use Rattle.switchboard.specs.Brought.{Brought, HasHandled, IsBrought, IsInHand, TakeWhatIsInHand, TakesWhatIsInHand, brought_after, brought_over, good_bodies, nothing_brought, with_first_handled, with_pieces}
use Rattle.switchboard.specs.Happenings.{Accepts, BindsTo, ConnectionChanges, Dials, EndsBound, Happening, Happens, Reaches, SessionGoesOn, Takes, accepts, answers, binds, binds_and_ends, dials, ends_bound, ends_unbound, gives, lapses, next_pieces, prepares, receives, requests, reserves, shows, takes, ticks, times_out, writes}
use Rattle.switchboard.specs.Ready.{IsFirst, IsReady}
use Rattle.switchboard.specs.Sound.{bound_of}
use Rattle.switchboard.specs.Told.{History, changed_at, history_after, history_over, no_history, with_handled, with_message}
use Rattle.switchboard.proofs.Changes.{none_is}
use Rattle.switchboard.proofs.Readies.{book_goes_on, no_connections, ready_plugged}
use Rattle.switchboard.proofs.Sounds.{none_some, same_number, same_or_other}
use Rattle.switchboard.proofs.Telling.{changed_here, changed_there}
use Rattle.switchboard.proofs.Turns.{set_books}

-- of a connection stays what it brought
record Stays (old new : ConnectionState) : Type 0 where
  number : new.number ≡ old.number
  session : new.session ≡ old.session
  taken : new.taken ≡ old.taken
  held : new.held ≡ old.held
  garbled_bytes : new.garbled ≡ old.garbled

itself : (c : ConnectionState) → Stays c c
itself c = record { number = refl; session = refl; taken = refl; held = refl; garbled_bytes = refl }

stays_given : (old new : ConnectionState) (pieces : List CutPiece) → Stays old new → IsGiven old pieces → IsGiven new pieces
stays_given old new pieces stays is = record {
  so_far = record { so_far = ap (λ bytes. cut LONGEST_FRAME bytes) stays.taken ∙ is.so_far.so_far ∙ ap (λ bytes. behind pieces (cut LONGEST_FRAME bytes)) (sym stays.held) };
  counted = stays.garbled_bytes ∙ is.counted;
}

pub fresh_given : (c : ConnectionState) → c.taken ≡ [] → c.held ≡ [] → c.garbled ≡ 0 → IsGiven c []
fresh_given c taken held none = record {
  so_far = record { so_far = ap (λ bytes. cut LONGEST_FRAME bytes) taken ∙ ap (λ bytes. behind [] (cut LONGEST_FRAME bytes)) (sym held) };
  counted = none;
}

-- the good ones of two lists of pieces
good_in_parts : (first second : List CutPiece) → good_bodies (first ++ second) ≡ good_bodies first ++ good_bodies second
good_in_parts [] second = refl
good_in_parts (good body ∷ first) second = ap (λ bodies. body ∷ bodies) (good_in_parts first second)
good_in_parts (garbled size ∷ first) second = good_in_parts first second

abbrev IsGood : Brought → Type 0
IsGood brought = good_bodies brought.pieces ≡ brought.handled ++ brought.in_hand

good_given : (brought : Brought) (more : List CutPiece) → IsGood brought → IsGood (with_pieces more brought)
good_given brought more is =
    good_in_parts brought.pieces more ∙ ap (λ bodies. bodies ++ good_bodies more) is ∙ append_assoc brought.handled brought.in_hand (good_bodies more)

first_of : (xs : List (List ℕ)) (x : List ℕ) → take 1 xs ≡ x ∷ [] → xs ≡ x ∷ drop 1 xs
first_of [] x is = (cc)
first_of (y ∷ ys) x is = (cc)

good_handled : (brought : Brought) (body : List ℕ) → IsInHand body brought → IsGood brought → IsGood (with_first_handled body brought)
good_handled brought body first is =
    is ∙ ap (λ bodies. brought.handled ++ bodies) (first_of brought.in_hand body first) ∙ sym (append_assoc brought.handled (body ∷ []) (drop 1 brought.in_hand))

-- the last of a list is changed
last_changed : (f : Handled → Handled) (past : List Handled) (h : Handled) → with_last f (past ++ h ∷ []) ≡ past ++ f h ∷ []
last_changed f [] h = refl
last_changed f (p ∷ []) h = refl
last_changed f (p ∷ (q ∷ past)) h = ap (λ hs. p ∷ hs) (last_changed f (q ∷ past) h)

later_changed : (f : Handled → Handled) (past later : List Handled) (h : Handled) → 1 ≤ length later → with_last f (past ++ (h ∷ later)) ≡ past ++ (h ∷ with_last f later)
later_changed f [] [] h some = absurd (omega arith)
later_changed f [] (l ∷ later) h some = refl
later_changed f (p ∷ []) later h some = ap (λ hs. p ∷ hs) (later_changed f [] later h some)
later_changed f (p ∷ (q ∷ past)) later h some = ap (λ hs. p ∷ hs) (later_changed f (q ∷ past) later h some)

as_many : (f : Handled → Handled) (hs : List Handled) → length (with_last f hs) ≡ length hs
as_many f [] = refl
as_many f (h ∷ []) = refl
as_many f (h ∷ (i ∷ hs)) = ap suc (as_many f (i ∷ hs))

-- the session is bound to another connection from now on, of which this was handled
handled_behind : (bound : Option ℕ) (c d : ℕ) (bodies next : List (List ℕ)) (handled : List Handled) → d ≢ c → HasHandled bound c bodies handled → HasHandled (Some d) c bodies (handled ++ handled_of d next ∷ [])
handled_behind bound c d bodies next handled apart is = record {
  past = is.past;
  later = is.later ++ handled_of d next ∷ [];
  are = ap (λ hs. hs ++ handled_of d next ∷ []) is.are ∙ append_assoc is.past (handled_of c bodies ∷ is.later) (handled_of d next ∷ []);
  stands = λ same. absurd (apart (same_number d c same));
  other = λ e same other. (let more = length_push is.later (handled_of d next) in omega arith);
}

handled_last : (c : ℕ) (bodies : List (List ℕ)) (handled : List Handled) → HasHandled (Some c) c bodies (handled ++ handled_of c bodies ∷ [])
handled_last c bodies handled = record { past = handled; later = []; are = refl; stands = λ same. refl; other = λ d same other. absurd (other (sym (same_number c d same))) }

-- it handles one message more of the connection to which it is bound
handled_here : (bound : Option ℕ) (c : ℕ) (body : List ℕ) (bodies : List (List ℕ)) (handled : List Handled) → bound ≡ Some c → HasHandled bound c bodies handled → HasHandled bound c (bodies ++ body ∷ []) (with_body body handled)
handled_here bound c body bodies handled at is =
    let last = is.are ∙ ap (λ later. is.past ++ (handled_of c bodies ∷ later)) (is.stands at) in
    record {
      past = is.past;
      later = [];
      are = ap (λ hs. with_body body hs) last ∙ last_changed (λ h. record h { bodies = h.bodies ++ body ∷ [] }) is.past (handled_of c bodies);
      stands = λ same. refl;
      other = λ d same other. absurd (other (same_number d c (sym same ∙ at)));
    }

handled_aside : (bound : Option ℕ) (c d : ℕ) (body : List ℕ) (bodies : List (List ℕ)) (handled : List Handled) → bound ≡ Some d → d ≢ c → HasHandled bound c bodies handled → HasHandled bound c bodies (with_body body handled)
handled_aside bound c d body bodies handled at apart is =
    let change = λ (h : Handled). record h { bodies = h.bodies ++ body ∷ [] } in
    record {
      past = is.past;
      later = with_last change is.later;
      are = ap (λ hs. with_body body hs) is.are ∙ later_changed change is.past is.later (handled_of c bodies) (is.other d at apart);
      stands = λ same. absurd (apart (same_number d c (sym at ∙ same)));
      other = λ e same other. subst (λ n. 1 ≤ n) (sym (as_many change is.later)) (is.other e same other);
    }

-- it is bound to none from now on
handled_left : (bound : Option ℕ) (c : ℕ) (bodies : List (List ℕ)) (handled : List Handled) → HasHandled bound c bodies handled → HasHandled None c bodies handled
handled_left bound c bodies handled is =
    record { past = is.past; later = is.later; are = is.are; stands = λ same. absurd (none_some c same); other = λ d same other. absurd (none_some d same) }

-- what was brought is told by its parts
as_brought : (history : History) (brought same : ℕ → Brought) (board : Board) → ((i : ℕ) → brought i ≡ same i) → IsBrought history brought board → IsBrought history same board
as_brought history brought same board are is = record {
  given = λ i within. subst (λ (b : Brought). IsGiven (connection_at board i) b.pieces) (are i) (is.given i within);
  good = λ i within. subst (λ b. IsGood b) (are i) (is.good i within);
  handled = λ s i within names. subst (λ (b : Brought). HasHandled (bound_of (book_at board s)) (connection_at board i).number b.handled (history.handled s)) (are i) (is.handled s i within names);
  none = λ i within none. subst (λ (b : Brought). b.handled ≡ []) (are i) (is.none i within none);
}

no_more : (brought : Brought) → with_pieces [] brought ≡ brought
no_more brought = ap (λ pieces. record brought { pieces = pieces; in_hand = brought.in_hand ++ [] }) (append-nil brought.pieces) ∙ ap (λ bodies. record brought { in_hand = bodies }) (append-nil brought.in_hand)

unchanged : (k : ℕ) (brought : ℕ → Brought) (i : ℕ) → changed_at k (with_pieces []) brought i ≡ brought i
unchanged k brought i = elim (same_or_other i k) [
  | inl e ↦ subst (λ n. changed_at k (with_pieces []) brought n ≡ brought n) (sym e) (changed_here k (with_pieces []) brought ∙ no_more (brought k))
  | inr other ↦ changed_there k (with_pieces []) brought i other
]

-- one session and one connection change, where there are such ones
record Brings (s k : ℕ) (history further : History) (brought more : ℕ → Brought) (old new : Board) : Type 0 where
  bounds : (j : ℕ) → j ≢ s → bound_of (book_at new j) ≡ bound_of (book_at old j)
  lines : (i : ℕ) → i < length new.connections → i ≢ k → (i < length old.connections) × Stays (connection_at old i) (connection_at new i)
  handled_there : (j : ℕ) → j ≢ s → further.handled j ≡ history.handled j
  brought_there : (i : ℕ) → i ≢ k → more i ≡ brought i
  given : k < length new.connections → IsGiven (connection_at new k) (more k).pieces
  good : k < length new.connections → IsGood (more k)
  handled : (j : ℕ) → k < length new.connections → (connection_at new k).session ≡ Some j → HasHandled (bound_of (book_at new j)) (connection_at new k).number (more k).handled (further.handled j)
  none : k < length new.connections → (connection_at new k).session ≡ None → (more k).handled ≡ []
  others : (i : ℕ) → i < length old.connections → i ≢ k → (connection_at old i).session ≡ Some s → HasHandled (bound_of (book_at old s)) (connection_at old i).number (brought i).handled (history.handled s)
      → HasHandled (bound_of (book_at new s)) (connection_at old i).number (brought i).handled (further.handled s)

module _ (s k : ℕ) (history further : History) (brought more : ℕ → Brought) (old new : Board) (brings : Brings s k history further brought more old new) (is : IsBrought history brought old) where
  given_on : (i : ℕ) → i < length new.connections → IsGiven (connection_at new i) (more i).pieces
  given_on i within = elim (same_or_other i k) [
    | inl e ↦ subst (λ n. IsGiven (connection_at new n) (more n).pieces) (sym e) (brings.given (subst (λ n. n < length new.connections) e within))
    | inr other ↦ (let line = brings.lines i within other in
        subst (λ (b : Brought). IsGiven (connection_at new i) b.pieces) (sym (brings.brought_there i other)) (stays_given (connection_at old i) (connection_at new i) (brought i).pieces line.1 (is.given i line.0)))
  ]

  good_on : (i : ℕ) → i < length new.connections → IsGood (more i)
  good_on i within = elim (same_or_other i k) [
    | inl e ↦ subst (λ n. IsGood (more n)) (sym e) (brings.good (subst (λ n. n < length new.connections) e within))
    | inr other ↦ subst (λ b. IsGood b) (sym (brings.brought_there i other)) (is.good i (brings.lines i within other).0)
  ]

  handled_there_on : (j i : ℕ) → i < length old.connections → i ≢ k → (connection_at old i).session ≡ Some j → HasHandled (bound_of (book_at new j)) (connection_at old i).number (brought i).handled (further.handled j)
  handled_there_on j i within other names = elim (same_or_other j s) [
    | inl e ↦ subst (λ n. HasHandled (bound_of (book_at new n)) (connection_at old i).number (brought i).handled (further.handled n)) (sym e)
        (let named = names ∙ ap (λ n. Some n) e in brings.others i within other named (is.handled s i within named))
    | inr apart ↦ subst (λ bound. HasHandled bound (connection_at old i).number (brought i).handled (further.handled j)) (sym (brings.bounds j apart))
        (subst (λ handled. HasHandled (bound_of (book_at old j)) (connection_at old i).number (brought i).handled handled) (sym (brings.handled_there j apart)) (is.handled j i within names))
  ]

  handled_on : (j i : ℕ) → i < length new.connections → (connection_at new i).session ≡ Some j → HasHandled (bound_of (book_at new j)) (connection_at new i).number (more i).handled (further.handled j)
  handled_on j i within names = elim (same_or_other i k) [
    | inl e ↦ subst (λ n. HasHandled (bound_of (book_at new j)) (connection_at new n).number (more n).handled (further.handled j)) (sym e)
        (brings.handled j (subst (λ n. n < length new.connections) e within) (ap (λ n. (connection_at new n).session) (sym e) ∙ names))
    | inr other ↦ (let line = brings.lines i within other in
        subst (λ c. HasHandled (bound_of (book_at new j)) c (more i).handled (further.handled j)) (sym line.1.number)
        (subst (λ (b : Brought). HasHandled (bound_of (book_at new j)) (connection_at old i).number b.handled (further.handled j)) (sym (brings.brought_there i other))
        (handled_there_on j i line.0 other (sym line.1.session ∙ names))))
  ]

  none_on : (i : ℕ) → i < length new.connections → (connection_at new i).session ≡ None → (more i).handled ≡ []
  none_on i within none = elim (same_or_other i k) [
    | inl e ↦ ap (λ n. (more n).handled) e ∙ brings.none (subst (λ n. n < length new.connections) e within) (ap (λ n. (connection_at new n).session) (sym e) ∙ none)
    | inr other ↦ (let line = brings.lines i within other in ap (λ (b : Brought). b.handled) (brings.brought_there i other) ∙ is.none i line.0 (sym line.1.session ∙ none))
  ]

  brought_on : IsBrought further more new
  brought_on = record { given = given_on; good = good_on; handled = handled_on; none = none_on }

-- nothing was brought, handled or let go
same_brought : (history : History) (brought : ℕ → Brought) (old new : Board) → ((j : ℕ) → bound_of (book_at new j) ≡ bound_of (book_at old j))
    → ((i : ℕ) → i < length new.connections → (i < length old.connections) × Stays (connection_at old i) (connection_at new i)) → IsBrought history brought old → IsBrought history brought new
same_brought history brought old new bounds lines is =
    brought_on 0 (length new.connections) history history brought brought old new
    (record {
      bounds = λ j other. bounds j;
      lines = λ i within other. lines i within;
      handled_there = λ j other. refl;
      brought_there = λ i other. refl;
      given = λ within. absurd (omega arith);
      good = λ within. absurd (omega arith);
      handled = λ j within. absurd (omega arith);
      none = λ within. absurd (omega arith);
      others = λ i within other names was. subst (λ bound. HasHandled bound (connection_at old i).number (brought i).handled (history.handled 0)) (sym (bounds 0)) was;
    }) is

-- the sends of libraries have no part in it
same_handled : (further history : History) (brought : ℕ → Brought) (board : Board) → further.handled ≡ history.handled → IsBrought history brought board → IsBrought further brought board
same_handled further history brought board same is = record {
  given = is.given;
  good = is.good;
  handled = λ s k within names. subst (λ handled. HasHandled (bound_of (book_at board s)) (connection_at board k).number (brought k).handled (handled s)) (sym same) (is.handled s k within names);
  none = is.none;
}

-- one connection changes, and brought nothing by it
line_stays : (board : Board) (k : ℕ) (c : ConnectionState) → k < length board.connections → Stays (connection_at board k) c → (i : ℕ) → Stays (connection_at board i) (connection_at (with_connection k c board) i)
line_stays board k c within stays i = elim (same_or_other i k) [
  | inl e ↦ subst (λ n. Stays (connection_at board n) (connection_at (with_connection k c board) n)) (sym e)
      (subst (λ x. Stays (connection_at board k) x) (sym (get_or-set_same board.connections k c no_connection within)) stays)
  | inr other ↦ subst (λ x. Stays (connection_at board i) x) (sym (get_or-set_other board.connections k i c no_connection other)) (itself (connection_at board i))
]

changes_brought : (k : ℕ) (c : ConnectionState) (history : History) (brought : ℕ → Brought) (old new : Board) → ConnectionChanges k c old new → Stays (connection_at old k) c → IsBrought history brought old → IsBrought history brought new
changes_brought k c history brought old new changes stays is =
    subst (λ board. IsBrought history brought board) (sym changes.others)
    (same_brought history brought old (with_connection k c old) (λ j. refl)
    (λ i within. (subst (λ n. i < n) (length-set old.connections k c) within, line_stays old k c changes.within stays i)) is)

-- what is to be written changes on the connection at a place, or on none
outbox_line : (place : Option ℕ) (old new : Board) → OutboxChanges place old new → ((k : ℕ) → place ≡ Some k → k < length old.connections) → (i : ℕ) → Stays (connection_at old i) (connection_at new i)
outbox_line None old new same within i = subst (λ cs. Stays (connection_at old i) (get_or cs i no_connection)) (sym same) (itself (connection_at old i))
outbox_line (Some k) old new same within i =
    let c = record (connection_at old k) { out = (connection_at new k).out } in
    subst (λ cs. Stays (connection_at old i) (get_or cs i no_connection)) (sym same.0)
    (line_stays old k c (within k refl) (record { number = refl; session = refl; taken = refl; held = refl; garbled_bytes = refl }) i)

outbox_count : (place : Option ℕ) (old new : Board) → OutboxChanges place old new → length new.connections ≡ length old.connections
outbox_count None old new same = ap length same
outbox_count (Some k) old new same = ap length same.0 ∙ length-set old.connections k (record (connection_at old k) { out = (connection_at new k).out })

outbox_stays : (place : Option ℕ) (old new : Board) → OutboxChanges place old new → ((k : ℕ) → place ≡ Some k → k < length old.connections)
    → (i : ℕ) → i < length new.connections → (i < length old.connections) × Stays (connection_at old i) (connection_at new i)
outbox_stays place old new same within i small = (subst (λ n. i < n) (outbox_count place old new same) small, outbox_line place old new same within i)

-- a session is bound as before where another book changes, or its own in such a way
bounds_stay : (s : ℕ) (old new : Board) → new.sessions ≡ set old.sessions s (session_at new s) → bound_of (book_at new s) ≡ bound_of (book_at old s) → (j : ℕ) → bound_of (book_at new j) ≡ bound_of (book_at old j)
bounds_stay s old new same bound j = elim (same_or_other j s) [
  | inl e ↦ subst (λ n. bound_of (book_at new n) ≡ bound_of (book_at old n)) (sym e) bound
  | inr other ↦ ap bound_of (set_books s old new same j other)
]

module _ (before : ℕ → List Entry) where
  places_within : (s : ℕ) (old : Board) → IsReady before old → s < length old.sessions → (k : ℕ) → place_at old s ≡ Some k → k < length old.connections
  places_within s old ready within k at = (ready_plugged before old s k ready within at).within

  goes_on_brought : (s : ℕ) (history : History) (brought : ℕ → Brought) (old new : Board) → SessionGoesOn s old new → IsReady before old → IsBrought history brought old → IsBrought history brought new
  goes_on_brought s history brought old new goes ready is =
      same_brought history brought old new (bounds_stay s old new goes.others.sessions goes.bound)
      (outbox_stays (place_at old s) old new goes.others.connections (places_within s old ready goes.within)) is

  -- a message is handled
  receive_brought : (s k : ℕ) (body : List ℕ) (history : History) (brought : ℕ → Brought) (old new : Board) → place_at old s ≡ Some k → SessionGoesOn s old new → IsReady before old → IsInHand body (brought k)
      → IsBrought history brought old → IsBrought (with_message s body history) (changed_at k (with_first_handled body) brought) new
  receive_brought s k body history brought old new placed goes ready first is =
      let plugged = ready_plugged before old s k ready goes.within placed in
      let lines = outbox_stays (place_at old s) old new goes.others.connections (places_within s old ready goes.within) in
      let within = plugged.within in
      let line = outbox_line (place_at old s) old new goes.others.connections (places_within s old ready goes.within) k in
      let here = changed_here k (with_first_handled body) brought in
      let handled = changed_here s (λ handled. with_body body handled) history.handled in
      brought_on s k history (with_message s body history) brought (changed_at k (with_first_handled body) brought) old new
      (record {
        bounds = λ j other. bounds_stay s old new goes.others.sessions goes.bound j;
        lines = λ i small other. lines i small;
        handled_there = changed_there s (λ handled. with_body body handled) history.handled;
        brought_there = changed_there k (with_first_handled body) brought;
        given = λ small. subst (λ (b : Brought). IsGiven (connection_at new k) b.pieces) (sym here) (stays_given (connection_at old k) (connection_at new k) (brought k).pieces line (is.given k within));
        good = λ small. subst (λ b. IsGood b) (sym here) (good_handled (brought k) body first (is.good k within));
        handled = λ j small names.
            subst (λ n. HasHandled (bound_of (book_at new n)) (connection_at new k).number (changed_at k (with_first_handled body) brought k).handled ((with_message s body history).handled n))
            (same_number s j (sym plugged.names ∙ sym line.session ∙ names))
            (subst (λ (b : Brought). HasHandled (bound_of (book_at new s)) (connection_at new k).number b.handled ((with_message s body history).handled s)) (sym here)
            (subst (λ hs. HasHandled (bound_of (book_at new s)) (connection_at new k).number ((brought k).handled ++ body ∷ []) hs) (sym handled)
            (subst (λ c. HasHandled (bound_of (book_at new s)) c ((brought k).handled ++ body ∷ []) (with_body body (history.handled s))) (sym line.number)
            (subst (λ bound. HasHandled bound (connection_at old k).number ((brought k).handled ++ body ∷ []) (with_body body (history.handled s))) (sym goes.bound)
            (handled_here (bound_of (book_at old s)) (connection_at old k).number body (brought k).handled (history.handled s) plugged.bound (is.handled s k within plugged.names))))));
        none = λ small none. absurd (none_some s (sym none ∙ line.session ∙ plugged.names));
        others = λ i small other names was.
            subst (λ hs. HasHandled (bound_of (book_at new s)) (connection_at old i).number (brought i).handled hs) (sym handled)
            (subst (λ bound. HasHandled bound (connection_at old i).number (brought i).handled (with_body body (history.handled s))) (sym goes.bound)
            (handled_aside (bound_of (book_at old s)) (connection_at old i).number (connection_at old k).number body (brought i).handled (history.handled s) plugged.bound
            (λ e. other (ready.numbers i k small within (sym e))) was));
      }) is

  -- a session is bound, and handles the Logon
  bind_brought : (s k : ℕ) (body : List ℕ) (at : ℕ) (history : History) (brought : ℕ → Brought) (old new : Board) → BindsTo s k body at old new → IsReady before old → IsInHand body (brought k)
      → IsBrought history brought old → IsBrought (with_handled s (handled_of (connection_at old k).number (body ∷ [])) history) (changed_at k (with_first_handled body) brought) new
  bind_brought s k body at history brought old new binding ready first is =
      let within = binding.connection_within in
      let c = (connection_at old k).number in
      let next = handled_of c (body ∷ []) in
      let further = with_handled s next history in
      let more = changed_at k (with_first_handled body) brought in
      let number : (connection_at new k).number ≡ c = ap (λ (x : ConnectionState). x.number) binding.connection in
      let names : (connection_at new k).session ≡ Some s = ap (λ (x : ConnectionState). x.session) binding.connection in
      let here = changed_here k (with_first_handled body) brought in
      let handled = changed_here s (λ handled. handled ++ next ∷ []) history.handled in
      let none : (brought k).handled ≡ [] = is.none k within (none_is _ binding.unbound) in
      let connections : length new.connections ≡ length old.connections = ap length binding.plugged.connections ∙ length-set old.connections k (connection_at new k) in
      let line_there = λ (i : ℕ) (other : i ≢ k).
      ap (λ (cs : List ConnectionState). get_or cs i no_connection) binding.plugged.connections ∙ get_or-set_other old.connections k i (connection_at new k) no_connection other in
      brought_on s k history further brought more old new
      (record {
        bounds = λ j other. ap bound_of (set_books s old new binding.plugged.sessions j other);
        lines = λ i small other. (subst (λ n. i < n) connections small, subst (λ x. Stays (connection_at old i) x) (sym (line_there i other)) (itself (connection_at old i)));
        handled_there = changed_there s (λ handled. handled ++ next ∷ []) history.handled;
        brought_there = changed_there k (with_first_handled body) brought;
        given = λ small. subst (λ (b : Brought). IsGiven (connection_at new k) b.pieces) (sym here)
            (subst (λ x. IsGiven x (brought k).pieces) (sym binding.connection) (record { so_far = (is.given k within).so_far; counted = (is.given k within).counted }));
        good = λ small. subst (λ b. IsGood b) (sym here) (good_handled (brought k) body first (is.good k within));
        handled = λ j small told.
            subst (λ n. HasHandled (bound_of (book_at new n)) (connection_at new k).number (more k).handled (further.handled n)) (same_number s j (sym names ∙ told))
            (subst (λ (b : Brought). HasHandled (bound_of (book_at new s)) (connection_at new k).number b.handled (further.handled s)) (sym here)
            (subst (λ hs. HasHandled (bound_of (book_at new s)) (connection_at new k).number ((brought k).handled ++ body ∷ []) hs) (sym handled)
            (subst (λ bodies. HasHandled (bound_of (book_at new s)) (connection_at new k).number (bodies ++ body ∷ []) (history.handled s ++ next ∷ [])) (sym none)
            (subst (λ n. HasHandled (bound_of (book_at new s)) n (body ∷ []) (history.handled s ++ next ∷ [])) (sym number)
            (subst (λ bound. HasHandled bound c (body ∷ []) (history.handled s ++ next ∷ [])) (sym binding.bound) (handled_last c (body ∷ []) (history.handled s)))))));
        none = λ small unbound. absurd (none_some s (sym unbound ∙ names));
        others = λ i small other told was.
            subst (λ hs. HasHandled (bound_of (book_at new s)) (connection_at old i).number (brought i).handled hs) (sym handled)
            (subst (λ bound. HasHandled bound (connection_at old i).number (brought i).handled (history.handled s ++ next ∷ [])) (sym binding.bound)
            (handled_behind (bound_of (book_at old s)) (connection_at old i).number c (brought i).handled (body ∷ []) (history.handled s) (λ e. other (ready.numbers i k small within (sym e))) was));
      }) is

  dial_brought : (s number at : ℕ) (history : History) (brought : ℕ → Brought) (old new : Board) → Dials s number at old new → IsBrought history brought old
      → IsBrought (with_handled s (handled_of number []) history) (changed_at (length old.connections) (λ none. nothing_brought) brought) new
  dial_brought s number at history brought old new dialled is =
      let k = length old.connections in
      let next = handled_of number [] in
      let further = with_handled s next history in
      let more = changed_at k (λ none. nothing_brought) brought in
      let c = fresh_dial number at s (connection_at new k).out in
      let there : connection_at new k ≡ c = ap (λ (cs : List ConnectionState). get_or cs k no_connection) dialled.connection ∙ get_or-append_seam old.connections c [] no_connection in
      let names : (connection_at new k).session ≡ Some s = ap (λ (x : ConnectionState). x.session) there in
      let here = changed_here k (λ none. nothing_brought) brought in
      let handled = changed_here s (λ handled. handled ++ next ∷ []) history.handled in
      brought_on s k history further brought more old new
      (record {
        bounds = λ j other. ap bound_of (set_books s old new dialled.sessions j other);
        lines = λ i small other.
            let within : i < k = (let count = ap length dialled.connection ∙ length_push old.connections c in omega arith) in (
              within,
              subst (λ x. Stays (connection_at old i) x)
                  (sym (ap (λ (cs : List ConnectionState). get_or cs i no_connection) dialled.connection ∙ get_or-append old.connections (c ∷ []) no_connection i within)) (itself (connection_at old i)),
            );
        handled_there = changed_there s (λ handled. handled ++ next ∷ []) history.handled;
        brought_there = changed_there k (λ none. nothing_brought) brought;
        given = λ small. subst (λ (b : Brought). IsGiven (connection_at new k) b.pieces) (sym here) (subst (λ x. IsGiven x []) (sym there) (fresh_given c refl refl refl));
        good = λ small. subst (λ b. IsGood b) (sym here) refl;
        handled = λ j small told.
            subst (λ n. HasHandled (bound_of (book_at new n)) (connection_at new k).number (more k).handled (further.handled n)) (same_number s j (sym names ∙ told))
            (subst (λ (b : Brought). HasHandled (bound_of (book_at new s)) (connection_at new k).number b.handled (further.handled s)) (sym here)
            (subst (λ hs. HasHandled (bound_of (book_at new s)) (connection_at new k).number [] hs) (sym handled)
            (subst (λ (x : ConnectionState). HasHandled (bound_of (book_at new s)) x.number [] (history.handled s ++ next ∷ [])) (sym there)
            (subst (λ bound. HasHandled bound number [] (history.handled s ++ next ∷ [])) (sym dialled.bound) (handled_last number [] (history.handled s))))));
        none = λ small unbound. absurd (none_some s (sym unbound ∙ names));
        others = λ i small other told was.
            subst (λ hs. HasHandled (bound_of (book_at new s)) (connection_at old i).number (brought i).handled hs) (sym handled)
            (subst (λ bound. HasHandled bound (connection_at old i).number (brought i).handled (history.handled s ++ next ∷ [])) (sym dialled.bound)
            (handled_behind (bound_of (book_at old s)) (connection_at old i).number number (brought i).handled [] (history.handled s) (λ e. dialled.new_number i small (sym e)) was));
      }) is

  accept_brought : (number at : ℕ) (history : History) (brought : ℕ → Brought) (old new : Board) → Accepts number at old new → IsBrought history brought old
      → IsBrought history (changed_at (length old.connections) (λ none. nothing_brought) brought) new
  accept_brought number at history brought old new accepted is =
      let k = length old.connections in
      let more = changed_at k (λ none. nothing_brought) brought in
      let c = fresh number at (connection_at new k).out in
      let connections = ap (λ (b : Board). b.connections) accepted.connection in
      let there : connection_at new k ≡ c = ap (λ (cs : List ConnectionState). get_or cs k no_connection) connections ∙ get_or-append_seam old.connections c [] no_connection in
      let here = changed_here k (λ none. nothing_brought) brought in
      let books = λ (j : ℕ). ap (λ (b : Board). bound_of (book_at b j)) accepted.connection in
      brought_on 0 k history history brought more old new
      (record {
        bounds = λ j other. books j;
        lines = λ i small other.
            let within : i < k = (let count = ap length connections ∙ length_push old.connections c in omega arith) in (
              within,
              subst (λ x. Stays (connection_at old i) x) (sym (ap (λ (cs : List ConnectionState). get_or cs i no_connection) connections ∙ get_or-append old.connections (c ∷ []) no_connection i within)) (itself (connection_at old i)),
            );
        handled_there = λ j other. refl;
        brought_there = changed_there k (λ none. nothing_brought) brought;
        given = λ small. subst (λ (b : Brought). IsGiven (connection_at new k) b.pieces) (sym here) (subst (λ x. IsGiven x []) (sym there) (fresh_given c refl refl refl));
        good = λ small. subst (λ b. IsGood b) (sym here) refl;
        handled = λ j small told. absurd (none_some j (sym (ap (λ (x : ConnectionState). x.session) there) ∙ told));
        none = λ small unbound. ap (λ (b : Brought). b.handled) here;
        others = λ i small other told was. subst (λ bound. HasHandled bound (connection_at old i).number (brought i).handled (history.handled 0)) (sym (books 0)) was;
      }) is

  -- bytes come, or a piece is handed out
  piece_brought : (k : ℕ) (c : ConnectionState) (pieces : List CutPiece) (history : History) (brought : ℕ → Brought) (old new : Board) → ConnectionChanges k c old new
      → c.number ≡ (connection_at old k).number → c.session ≡ (connection_at old k).session → ((given : List CutPiece) → IsGiven (connection_at old k) given → IsGiven (connection_at new k) (given ++ pieces))
      → IsBrought history brought old → IsBrought history (changed_at k (with_pieces pieces) brought) new
  piece_brought k c pieces history brought old new changes number session given is =
      let more = changed_at k (with_pieces pieces) brought in
      let here = changed_here k (with_pieces pieces) brought in
      let connections : new.connections ≡ set old.connections k c = ap (λ (b : Board). b.connections) changes.others in
      let there : connection_at new k ≡ c = ap (λ (cs : List ConnectionState). get_or cs k no_connection) connections ∙ get_or-set_same old.connections k c no_connection changes.within in
      let books = λ (j : ℕ). ap (λ (b : Board). bound_of (book_at b j)) changes.others in
      brought_on 0 k history history brought more old new
      (record {
        bounds = λ j other. books j;
        lines = λ i small other. (
          subst (λ n. i < n) (ap length connections ∙ length-set old.connections k c) small,
          subst (λ x. Stays (connection_at old i) x) (sym (ap (λ (cs : List ConnectionState). get_or cs i no_connection) connections ∙ get_or-set_other old.connections k i c no_connection other)) (itself (connection_at old i)),
        );
        handled_there = λ j other. refl;
        brought_there = changed_there k (with_pieces pieces) brought;
        given = λ small. subst (λ (b : Brought). IsGiven (connection_at new k) b.pieces) (sym here) (given (brought k).pieces (is.given k changes.within));
        good = λ small. subst (λ b. IsGood b) (sym here) (good_given (brought k) pieces (is.good k changes.within));
        handled = λ j small told.
            let was = is.handled j k changes.within (sym session ∙ sym (ap (λ (x : ConnectionState). x.session) there) ∙ told) in
            subst (λ (b : Brought). HasHandled (bound_of (book_at new j)) (connection_at new k).number b.handled (history.handled j)) (sym here)
            (subst (λ n. HasHandled (bound_of (book_at new j)) n (brought k).handled (history.handled j)) (sym (ap (λ (x : ConnectionState). x.number) there ∙ number))
            (subst (λ bound. HasHandled bound (connection_at old k).number (brought k).handled (history.handled j)) (sym (books j)) was));
        none = λ small unbound. ap (λ (b : Brought). b.handled) here ∙ is.none k changes.within (sym session ∙ sym (ap (λ (x : ConnectionState). x.session) there) ∙ unbound);
        others = λ i small other told was. subst (λ bound. HasHandled bound (connection_at old i).number (brought i).handled (history.handled 0)) (sym (books 0)) was;
      }) is

  -- where there is no further piece, as bytes come, nothing was brought
  taken_brought : (k : ℕ) (bytes : List ℕ) (history : History) (brought : ℕ → Brought) (old new : Board) → Takes k bytes old new → IsBrought history brought old → IsBrought history brought new
  taken_brought k bytes history brought old new is was =
      let with_none = piece_brought k (after_taking bytes (connection_at old k)) [] history brought old new is.changes refl refl
      (λ pieces given. subst (λ ps. IsGiven (connection_at new k) ps) (sym (append-nil pieces)) (is.given pieces given)) was in
      as_brought history (changed_at k (with_pieces []) brought) brought new (λ i. unchanged k brought i) with_none

  -- a session leaves its connection
  end_brought : (s k : ℕ) (cause : Cause) (history : History) (brought : ℕ → Brought) (old new : Board) → k < length old.connections → EndsBound s k cause old new → IsBrought history brought old → IsBrought history brought new
  end_brought s k cause history brought old new within ends is =
      let connections : length new.connections ≡ length old.connections = ap length ends.unplugged.connections ∙ length-set old.connections k (connection_at new k) in
      let line_there = λ (i : ℕ) (other : i ≢ k).
      ap (λ (cs : List ConnectionState). get_or cs i no_connection) ends.unplugged.connections ∙ get_or-set_other old.connections k i (connection_at new k) no_connection other in
      let line : Stays (connection_at old k) (connection_at new k) =
      subst (λ x. Stays (connection_at old k) x) (sym ends.connection) (record { number = refl; session = refl; taken = refl; held = refl; garbled_bytes = refl }) in
      brought_on s (length new.connections) history history brought brought old new
      (record {
        bounds = λ j other. ap bound_of (set_books s old new ends.unplugged.sessions j other);
        lines = λ i small other. (
          subst (λ n. i < n) connections small,
          elim (same_or_other i k) [
            | inl e ↦ subst (λ n. Stays (connection_at old n) (connection_at new n)) (sym e) line
            | inr apart ↦ subst (λ x. Stays (connection_at old i) x) (sym (line_there i apart)) (itself (connection_at old i))
          ],
        );
        handled_there = λ j other. refl;
        brought_there = λ i other. refl;
        given = λ small. absurd (omega arith);
        good = λ small. absurd (omega arith);
        handled = λ j small. absurd (omega arith);
        none = λ small. absurd (omega arith);
        others = λ i small other told was.
            subst (λ bound. HasHandled bound (connection_at old i).number (brought i).handled (history.handled s)) (sym ends.bound)
            (handled_left (bound_of (book_at old s)) (connection_at old i).number (brought i).handled (history.handled s) was);
      }) is

  pub happening_brought : (happening : Happening) (history : History) (brought : ℕ → Brought) (old new : Board) → Happens happening old new → IsReady before old → TakesWhatIsInHand happening brought
      → IsBrought history brought old → IsBrought (history_after happening old history) (brought_after happening old brought) new
  happening_brought (accepts number at) history brought old new is ready takes_first was = accept_brought number at history brought old new is was
  happening_brought (dials s number at) history brought old new is ready takes_first was = dial_brought s number at history brought old new is was
  happening_brought (takes k bytes) history brought old new is ready takes_first was = taken_brought k bytes history brought old new is was
  happening_brought (gives k) history brought old new is ready takes_first was =
      piece_brought k (after_next (connection_at old k)) (next_pieces (connection_at old k)) history brought old new is.changes refl refl is.given was
  happening_brought (binds s k body at) history brought old new is ready takes_first was = bind_brought s k body at history brought old new is.binding ready takes_first was
  happening_brought (binds_and_ends s k body at cause) history brought old new is ready takes_first was =
      let within : k < length is.between.connections =
      subst (λ n. k < n) (sym (ap length is.binding.plugged.connections ∙ length-set old.connections k (connection_at is.between k))) is.binding.connection_within in
      end_brought s k cause _ _ is.between new within is.leaves (bind_brought s k body at history brought old is.between is.binding ready takes_first was)
  happening_brought (receives s k body at) history brought old new is ready takes_first was = receive_brought s k body history brought old new is.placed is.goes_on ready takes_first was
  happening_brought (answers k) history brought old new is ready takes_first was =
      changes_brought k _ history brought old new is (record { number = refl; session = refl; taken = refl; held = refl; garbled_bytes = refl }) was
  happening_brought (ticks s at) history brought old new is ready takes_first was = goes_on_brought s history brought old new is.goes_on ready was
  happening_brought (shows s w bodies at until) history brought old new is ready takes_first was = same_handled _ history brought new refl (goes_on_brought s history brought old new is.goes_on ready was)
  happening_brought (times_out s w bodies at until) history brought old new is ready takes_first was = same_handled _ history brought new refl (goes_on_brought s history brought old new is.goes_on ready was)
  happening_brought (requests s library nr from) history brought old new is ready takes_first was = goes_on_brought s history brought old new (book_goes_on s _ old new is) ready was
  happening_brought (lapses s) history brought old new is ready takes_first was = goes_on_brought s history brought old new (book_goes_on s _ old new is) ready was
  happening_brought (ends_unbound k cause) history brought old new is ready takes_first was =
      changes_brought k _ history brought old new is.changes (record { number = refl; session = refl; taken = refl; held = refl; garbled_bytes = refl }) was
  happening_brought (ends_bound s k cause) history brought old new is ready takes_first was =
      end_brought s k cause history brought old new (ready_plugged before old s k ready is.within is.placed).within is was
  happening_brought (prepares s k) history brought old new is ready takes_first was =
      changes_brought k _ history brought old new is.changes (record { number = refl; session = refl; taken = refl; held = refl; garbled_bytes = refl }) was
  happening_brought (writes k n) history brought old new is ready takes_first was =
      changes_brought k _ history brought old new is.changes (record { number = refl; session = refl; taken = refl; held = refl; garbled_bytes = refl }) was
  happening_brought (reserves s) history brought old new is ready takes_first was = goes_on_brought s history brought old new is.goes_on ready was

  pub run_brought : ((happening : Happening) (old new : Board) → Happens happening old new → IsReady before old → IsReady before new)
      → (happenings : List Happening) (history : History) (brought : ℕ → Brought) (old new : Board) (reached : Reaches happenings old new) → IsReady before old → TakeWhatIsInHand happenings old new reached brought
      → IsBrought history brought old → IsBrought (history_over happenings old new reached history) (brought_over happenings old new reached brought) new
  run_brought stays [] history brought old new reached ready in_hand was = subst (λ board. IsBrought history brought board) (sym reached) was
  run_brought stays (happening ∷ happenings) history brought old new reached ready in_hand was =
      run_brought stays happenings (history_after happening old history) (brought_after happening old brought) reached.0 new reached.1.1 (stays happening old reached.0 reached.1.0 ready) in_hand.1
      (happening_brought happening history brought old reached.0 reached.1.0 ready in_hand.0 was)

pub first_brought : (before : ℕ → List Entry) (board : Board) → IsFirst before board → IsBrought no_history (λ k. nothing_brought) board
first_brought before board first = record {
  given = λ k within. absurd (no_connections board k first.connections within);
  good = λ k within. refl;
  handled = λ s k within names. absurd (no_connections board k first.connections within);
  none = λ k within none. refl;
}
