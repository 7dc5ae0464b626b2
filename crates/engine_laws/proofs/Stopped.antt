-- What is told where memory was wanting: all that was handled, or of the last acts a beginning.
use Rattle.std.proofs.Common.{◌≡◌, ◌≢◌, inl, inr, ℕ, ◌+◌, ◌<◌, ◌≤◌, List, [], ◌∷◌, ◌++◌, get_or, length, None, Some, refl, sym, ap, subst, ◌∙◌, arith}
use Rattle.std.specs.List.{All, AllPairs}
use Rattle.std.proofs.Math.ListN.{get_or-append}
use Rattle.std.proofs.Math.Seq.{get_or-append_seam}
use Rattle.std.proofs.lemmas.Bool.{cases_eq as same_or_other, cases_lt}
use Rattle.std.proofs.lemmas.List.{append-nil, length-append, length_push}
use Rattle.std.proofs.lemmas.List.Elements.{All-push}
use Rattle.std.proofs.lemmas.List.Quantifiers.{all_pairs_push}
use Rattle.connection_core.specs.Connection.{ConnectionState, IsGiven}
use Rattle.connection_core.specs.Outgoing.{no_outgoing}
use Rattle.fix_frame.specs.Cut.{CutPiece, IsCutSoFar}
use Rattle.fix_frame.specs.declared.layout.TheConstants.{LONGEST_FRAME}
use Rattle.lease_core.specs.declared.entry.Entry.{Entry}
use Rattle.lease_core.specs.declared.event.Event.TheVariants.{Binds}
use Rattle.lease_core.specs.State.{state_of, with_last}
use Rattle.session_book.specs.Acts.{IsBegun}
use Rattle.session_book.specs.Book.{Desk, with_event, with_machine, with_outbox}
use Rattle.session_book.specs.Kept.{IsBook}
use Rattle.session_book.specs.Runs.{Handled, IsRunBegun, IsRunOver, handled_of, with_body}
use Rattle.session_core.specs.Ask.{after_ask, ask}
use Rattle.session_core.specs.Receive.{after_receive, receive}
use Rattle.session_core.specs.State.{IsState, State}
use Rattle.session_core.specs.Tick.{after_tick, tick}
use Rattle.session_core.specs.declared.acts.Act.{Act}
use Rattle.engine_laws.specs.Account.{IsAccountedWith, NamesSession, Progress, handling, in_hand_at, only}
use Rattle.engine_laws.specs.Stopped.{IsAccountedInPart, IsHandledOf, IsRunInPart, StopsAccountedFor}
use Rattle.engine_laws.proofs.Changed.{changed_keeps, changed_there, only_here}
use Rattle.engine_laws.proofs.Connections.{apart_new, apart_unbound, message_more}
use Rattle.engine_laws.proofs.Standing.{none_is, plugged, some_none}
use Rattle.switchboard.specs.Board.{Board, book_at, connection_at, desk_with, no_connection, place_at}
use Rattle.switchboard.specs.Going.{IsHeldAsBefore}
use Rattle.switchboard.specs.Happenings.{binds, dials, receives, ticks}
use Rattle.switchboard.specs.Ready.{IsReady}
use Rattle.switchboard.specs.Stops.{ActsAreBegun, BindIsBegun, DialIsBegun, IsSameStream, NoSessionChanges, NothingIsTold, ReceiptIsBegun, StopsIn, TickIsBegun}
use Rattle.switchboard.specs.Told.{changed_at}

-- what is known of acts that were begun on a session
pub record BegunLaws : Type 0 where
  pub bind : (before : List Entry) (start : State) (handled : List Handled) (c at : ℕ) (body : List ℕ) (desk new : Desk) → IsBook desk.book → IsState desk.book.machine
      → (state_of desk.book.entries).bound ≡ None → desk.book.machine.dials ≡ None
      → IsBegun at (receive desk.book.machine body at).acts (with_outbox (with_machine (after_receive desk.book.machine body at) (with_event (Binds c) desk.book)) desk.outgoing) new
      → IsRunOver before start handled desk.book → IsRunBegun before start (handled ++ handled_of c (body ∷ []) ∷ []) new.book
  pub dial : (before : List Entry) (start : State) (handled : List Handled) (c at : ℕ) (desk new : Desk) → IsBook desk.book → (state_of desk.book.entries).bound ≡ None
      → IsBegun at (ask desk.book.machine).acts (with_outbox (with_machine (after_ask desk.book.machine at) (with_event (Binds c) desk.book)) desk.outgoing) new
      → IsRunOver before start handled desk.book → IsRunBegun before start (handled ++ handled_of c [] ∷ []) new.book
  pub message : (before : List Entry) (start : State) (handled : List Handled) (c at : ℕ) (body : List ℕ) (desk new : Desk) → IsBook desk.book → IsState desk.book.machine → (state_of desk.book.entries).bound ≡ Some c
      → IsBegun at (receive desk.book.machine body at).acts (with_outbox (with_machine (after_receive desk.book.machine body at) desk.book) desk.outgoing) new
      → IsRunOver before start handled desk.book → IsRunBegun before start (with_body body handled) new.book
  pub tick : (before : List Entry) (start : State) (handled : List Handled) (at : ℕ) (desk new : Desk) → IsBook desk.book
      → IsBegun at (tick desk.book.machine at).acts (with_outbox (with_machine (after_tick desk.book.machine at) desk.book) desk.outgoing) new
      → IsRunOver before start handled desk.book → IsRunOver before start handled new.book

-- each connection that names a session is the same, and of it came what had come
abbrev NamedStay : Board → Board → Type 0
NamedStay old new = (k : ℕ) → k < length old.connections → NamesSession (connection_at old k) → IsSameStream (connection_at old k) (connection_at new k)

-- one of them alone is of this connection
only_one : (handled past later : List Handled) (of : Handled) → handled ≡ past ++ (of ∷ later) → AllPairs (λ a b. a.connection ≢ b.connection) handled
    → (i : ℕ) (d : Handled) → i < length handled → (get_or handled i d).connection ≡ of.connection → get_or handled i d ≡ of
only_one handled past later of are once i d within same =
    let n = length past in
    let there : get_or handled n d ≡ of = ap (λ xs. get_or xs n d) are ∙ get_or-append_seam past of later d in
    let count : length handled ≡ n + length (of ∷ later) = ap length are ∙ length-append past (of ∷ later) in
    elim (same_or_other i n) [
      | inl e ↦ ap (λ j. get_or handled j d) e ∙ there
      | inr other ↦ elim (cases_lt i n) [
        | inl less ↦ absurd (once i n d less (omega arith) (same ∙ sym (ap (λ (h : Handled). h.connection) there)))
        | inr more ↦ absurd (once n i d (omega arith) within (ap (λ (h : Handled). h.connection) there ∙ sym same))
      ]
    ]

changed_last : {T : Type 0} (f : T → T) (xs : List T) (x : T) → with_last f (xs ++ x ∷ []) ≡ xs ++ f x ∷ []
changed_last f [] x = refl
changed_last f (y ∷ []) x = refl
changed_last f (y ∷ (z ∷ zs)) x = ap (λ l. y ∷ l) (changed_last f (z ∷ zs) x)

-- the pieces that were handed out stay so
given_stays : (old new : ConnectionState) (pieces : List CutPiece) → IsHeldAsBefore old new → IsGiven old pieces → IsGiven new pieces
given_stays old new pieces came given = record {
  so_far = subst (λ taken. IsCutSoFar LONGEST_FRAME taken pieces new.held) (sym came.taken) (subst (λ held. IsCutSoFar LONGEST_FRAME old.taken pieces held) (sym came.held) given.so_far);
  counted = came.garbled ∙ given.counted;
}

module _ (before : ℕ → List Entry) (start : ℕ → State) (progress : ℕ → Progress) (moment : ℕ) (old : Board) (ready : IsReady before old) (a : IsAccountedWith progress before start moment old) where
  -- what a session handled stays of its connections
  each_stays : (new : Board) → length old.connections ≤ length new.connections → NamedStay old new → (s : ℕ) → All (IsHandledOf new s) (a.history.handled s)
  each_stays new more stay s i d within =
      let of = (a.connections s).each i d within in
      let k = of.place in
      let small = of.within in
      let has = a.given.handled s k small of.names in
      let in_hand = (a.brought k).in_hand in
      let stream = stay k small (record { session = s; names = of.names }) in
      let here = only_one (a.history.handled s) has.past has.later (handled_of (connection_at old k).number (a.brought k).handled) has.are (a.connections s).once i d within (sym of.number_is) in
      record {
        place = k;
        within = omega arith;
        number_is = stream.number ∙ of.number_is;
        names = inl (stream.session ∙ of.names);
        pieces = (a.brought k).pieces;
        given = given_stays (connection_at old k) (connection_at new k) (a.brought k).pieces stream.came (a.given.given k small);
        rest = in_hand;
        good = a.given.good k small ∙ ap (λ (h : Handled). h.bodies ++ in_hand) (sym here);
        few = (a.handled k small).few;
      }

  run_stays : (s : ℕ) (new : Board) → book_at new s ≡ book_at old s → s < length old.sessions → IsRunOver (before s) (start s) (a.history.handled s) (book_at new s)
  run_stays s new same within = subst (λ book. IsRunOver (before s) (start s) (a.history.handled s) book) (sym same) (a.told.runs s within).run

  -- no session changes
  unchanged : (new : Board) → NoSessionChanges old new → length old.connections ≤ length new.connections → NamedStay old new → IsAccountedInPart before start new
  unchanged new is more stay = record {
    handled = a.history.handled;
    runs = λ s within. inl (stays s within);
    one = λ s t apart s_within t_within. inl (stays s s_within);
    each = λ s within. each_stays new more stay s;
    once = λ s within. (a.connections s).once;
  } where
    stays : (s : ℕ) → s < length new.sessions → IsRunOver (before s) (start s) (a.history.handled s) (book_at new s)
    stays s within = run_stays s new (is.books s) (subst (λ n. s < n) is.count within)

  -- acts of one session are begun
  begun : (s at : ℕ) (acts : List Act) (from : Desk) (change : List Handled → List Handled) (new : Board) → ActsAreBegun s at acts from old new
      → IsRunInPart (before s) (start s) (change (a.history.handled s)) (book_at new s) → length old.connections ≤ length new.connections → NamedStay old new
      → All (IsHandledOf new s) (change (a.history.handled s)) → AllPairs (λ of later. of.connection ≢ later.connection) (change (a.history.handled s)) → IsAccountedInPart before start new
  begun s at acts from change new is here more stay all apart = record {
    handled = handled;
    runs = λ j within. changed_keeps (λ n of. n < length old.sessions → IsRunInPart (before n) (start n) of (book_at new n)) s change a.history.handled (λ small. here)
        (λ n other small. inl (run_stays n new (is.others n other) small)) j (was_there j within);
    one = λ i j distinct i_within j_within. elim (same_or_other i s) [
      | inl e ↦ inr (stays j (λ f. distinct (e ∙ sym f)) (was_there j j_within))
      | inr other ↦ inl (stays i other (was_there i i_within))
    ];
    each = λ j within. changed_keeps (λ n of. All (IsHandledOf new n) of) s change a.history.handled all (λ n other. each_stays new more stay n) j;
    once = λ j within. changed_keeps (λ n of. AllPairs (λ one later. one.connection ≢ later.connection) of) s change a.history.handled apart (λ n other. (a.connections n).once) j;
  } where
    handled : ℕ → List Handled
    handled = changed_at s change a.history.handled

    was_there : (j : ℕ) → j < length new.sessions → j < length old.sessions
    was_there j within = subst (λ n. j < n) is.count within

    stays : (j : ℕ) → j ≢ s → j < length old.sessions → IsRunOver (before j) (start j) (handled j) (book_at new j)
    stays j other within = subst (λ of. IsRunOver (before j) (start j) of (book_at new j)) (sym (changed_there s change a.history.handled j other)) (run_stays j new (is.others j other) within)

-- the first of them
all_front : {T : Type 0} (P : T → Type 0) (front back : List T) → All P (front ++ back) → All P front
all_front P front back all i d within = subst P (get_or-append front back d i within) (all i d (omega (arith, length-append front back)))

as_many : {m n : ℕ} → m ≡ n → n ≤ m
as_many same = omega arith

-- nothing is told
pub nothing_told : (progress : ℕ → Progress) (at : ℕ) (old new : Board) → NothingIsTold old new → StopsAccountedFor progress at old new
nothing_told progress at old new is before start moment up_to ready a =
    unchanged before start progress moment old ready a new (record { count = is.sessions; books = is.books }) (let count = is.count in omega arith) (λ k small named. is.streams k small)

module _ (g : BegunLaws) where
  -- a message is begun that is in hand of the connection of its session
  receipt_begun : (s k : ℕ) (body : List ℕ) (at : ℕ) (old new : Board) → ReceiptIsBegun s k body at old new → StopsAccountedFor (only k (handling body)) at old new
  receipt_begun s k body at old new is before start moment up_to ready a =
      let progress = only k (handling body) in
      let within = is.begun.within in
      let plug = plugged before s k old ready within is.placed in
      let small = plug.within in
      let lawful = ready.books s within in
      let number = (connection_at old k).number in
      let brought = a.brought k in
      let of = a.history.handled s in
      let has = a.given.handled s k small plug.names in
      let more = as_many is.count in
      let stream = is.streams k small in
      let stay : NamedStay old new = λ j less named. is.streams j less in
      let was : of ≡ has.past ++ handled_of number brought.handled ∷ [] = has.are ∙ ap (λ later. has.past ++ (handled_of number brought.handled ∷ later)) (has.stands plug.bound) in
      let last = handled_of number (brought.handled ++ body ∷ []) in
      let becomes : with_body body of ≡ has.past ++ last ∷ [] = ap (with_body body) was ∙ changed_last (λ h. record h { bodies = h.bodies ++ body ∷ [] }) has.past (handled_of number brought.handled) in
      let in_hand : brought.in_hand ≡ body ∷ [] = (a.handled k small).in_hand (inr (record { session = s; names = plug.names })) ∙ ap in_hand_at (only_here k (handling body)) in
      let past : All (IsHandledOf new s) has.past = all_front (IsHandledOf new s) has.past _ (subst (λ hs. All (IsHandledOf new s) hs) has.are (each_stays before start progress moment old ready a new more stay s)) in
      let here : IsHandledOf new s last = record {
        place = k;
        within = omega arith;
        number_is = stream.number;
        names = inl (stream.session ∙ plug.names);
        pieces = brought.pieces;
        given = given_stays (connection_at old k) (connection_at new k) brought.pieces stream.came (a.given.given k small);
        rest = [];
        good = a.given.good k small ∙ ap (λ bodies. brought.handled ++ bodies) in_hand ∙ sym (append-nil (brought.handled ++ body ∷ []));
        few = omega arith;
      } in
      begun before start progress moment old ready a s at _ _ (λ hs. with_body body hs) new is.begun
      (inr (subst (λ book. IsRunBegun (before s) (start s) (with_body body of) book) (sym is.begun.book)
      (g.message (before s) (start s) of number at body (desk_with old s (Some k)) is.begun.stopped lawful.is_book lawful.is_state plug.bound is.begun.begun (a.told.runs s within).run)))
      more stay (subst (λ hs. All (IsHandledOf new s) hs) (sym becomes) (All-push (IsHandledOf new s) has.past last past here)) (message_more s body of old (a.connections s)).once

  -- the Logon is begun that is in hand of a connection that names no session
  bind_begun : (s k : ℕ) (body : List ℕ) (at : ℕ) (old new : Board) → BindIsBegun s k body at old new → StopsAccountedFor (only k (handling body)) at old new
  bind_begun s k body at old new is before start moment up_to ready a =
      let progress = only k (handling body) in
      let within = is.begun.within in
      let small = is.connection_within in
      let lawful = ready.books s within in
      let number = (connection_at old k).number in
      let brought = a.brought k in
      let of = a.history.handled s in
      let more = as_many is.count in
      let none = none_is _ is.unbound in
      let last = handled_of number (body ∷ []) in
      let in_hand : brought.in_hand ≡ body ∷ [] = (a.handled k small).in_hand (inl (none_is _ is.stands)) ∙ ap in_hand_at (only_here k (handling body)) in
      let stay : NamedStay old new = λ j less named. is.others j (λ e. some_none named.session (sym named.names ∙ ap (λ n. (connection_at old n).session) e ∙ none)) less in
      let here : IsHandledOf new s last = record {
        place = k;
        within = omega arith;
        number_is = is.here.number;
        names = elim is.here.session [ inl yet ↦ inr yet | inr now ↦ inl now ];
        pieces = brought.pieces;
        given = given_stays (connection_at old k) (connection_at new k) brought.pieces is.here.came (a.given.given k small);
        rest = [];
        good = a.given.good k small ∙ ap (λ bodies. bodies ++ brought.in_hand) (a.given.none k small none) ∙ in_hand;
        few = omega arith;
      } in
      begun before start progress moment old ready a s at _ _ (λ hs. hs ++ last ∷ []) new is.begun
      (inr (subst (λ book. IsRunBegun (before s) (start s) (of ++ last ∷ []) book) (sym is.begun.book)
      (g.bind (before s) (start s) of number at body (desk_with old s (Some k)) is.begun.stopped lawful.is_book lawful.is_state is.free is.accepts is.begun.begun (a.told.runs s within).run)))
      more stay (All-push (IsHandledOf new s) of last (each_stays before start progress moment old ready a new more stay s) here)
      (all_pairs_push (λ one later. one.connection ≢ later.connection) of last (a.connections s).once (apart_unbound before s k of old ready small is.unbound (a.connections s)))

  -- a session dials, and is bound or not
  dial_begun : (progress : ℕ → Progress) (s number at : ℕ) (old new : Board) → DialIsBegun s number at old new → StopsAccountedFor progress at old new
  dial_begun progress s number at old new is before start moment up_to ready a = elim is.begun [
    | inl none ↦ unchanged before start progress moment old ready a new none more stay
    | inr begins ↦ (
        let lawful = ready.books s begins.within in
        let all = All-push (IsHandledOf new s) of last (each_stays before start progress moment old ready a new more stay s) here in
        begun before start progress moment old ready a s at _ _ (λ hs. hs ++ last ∷ []) new begins
        (inr (subst (λ book. IsRunBegun (before s) (start s) (of ++ last ∷ []) book) (sym begins.book)
        (g.dial (before s) (start s) of number at (with_outbox (book_at old s) no_outgoing) begins.stopped lawful.is_book is.free begins.begun (a.told.runs s begins.within).run)))
        more stay all (all_pairs_push (λ one later. one.connection ≢ later.connection) of last (a.connections s).once (apart_new s number of old is.new_number (a.connections s))))
  ] where
    of : List Handled
    of = a.history.handled s

    end : ℕ
    end = length old.connections

    last : Handled
    last = handled_of number []

    count : length new.connections ≡ end + 1
    count = ap length is.connections ∙ length_push old.connections is.connection

    more : end ≤ length new.connections
    more = omega (arith, count)

    stay : NamedStay old new
    stay j less named =
        subst (λ x. IsSameStream (connection_at old j) x) (sym (ap (λ cs. get_or cs j no_connection) is.connections ∙ get_or-append old.connections (is.connection ∷ []) no_connection j less))
        (record { number = refl; dialled = refl; session = refl; came = record { taken = refl; held = refl; garbled = refl } })

    found : connection_at new end ≡ is.connection
    found = ap (λ cs. get_or cs end no_connection) is.connections ∙ get_or-append_seam old.connections is.connection [] no_connection

    here : IsHandledOf new s last
    here = record {
      place = end;
      within = omega (arith, count);
      number_is = ap (λ (x : ConnectionState). x.number) found ∙ is.number_is;
      names = inl (ap (λ (x : ConnectionState). x.session) found ∙ is.session);
      pieces = [];
      given = subst (λ x. IsGiven x []) (sym found) is.nothing_came;
      rest = [];
      good = refl;
      few = omega arith;
    }

  -- a session hears the clock
  tick_begun : (progress : ℕ → Progress) (s at : ℕ) (old new : Board) → TickIsBegun s at old new → StopsAccountedFor progress at old new
  tick_begun progress s at old new is before start moment up_to ready a =
      let within = is.begun.within in
      let lawful = ready.books s within in
      let of = a.history.handled s in
      let stay : NamedStay old new = λ j less named. is.streams j less in
      begun before start progress moment old ready a s at _ _ (λ hs. hs) new is.begun
      (inl (subst (λ book. IsRunOver (before s) (start s) of book) (sym is.begun.book)
      (g.tick (before s) (start s) of at (desk_with old s (place_at old s)) is.begun.stopped lawful.is_book is.begun.begun (a.told.runs s within).run)))
      (as_many is.count) stay (each_stays before start progress moment old ready a new (as_many is.count) stay s) (a.connections s).once

  pub receives_stopped : (s k : ℕ) (body : List ℕ) (at : ℕ) (old new : Board) → StopsIn (receives s k body at) old new → StopsAccountedFor (only k (handling body)) at old new
  receives_stopped s k body at old new stops = elim stops [ inl nothing ↦ nothing_told (only k (handling body)) at old new nothing | inr is ↦ receipt_begun s k body at old new is ]

  pub binds_stopped : (s k : ℕ) (body : List ℕ) (at : ℕ) (old new : Board) → StopsIn (binds s k body at) old new → StopsAccountedFor (only k (handling body)) at old new
  binds_stopped s k body at old new stops = elim stops [ inl nothing ↦ nothing_told (only k (handling body)) at old new nothing | inr is ↦ bind_begun s k body at old new is ]

  pub dials_stopped : (progress : ℕ → Progress) (s number at : ℕ) (old new : Board) → StopsIn (dials s number at) old new → StopsAccountedFor progress at old new
  dials_stopped progress s number at old new stops = elim stops [ inl nothing ↦ nothing_told progress at old new nothing | inr is ↦ dial_begun progress s number at old new is ]

  pub ticks_stopped : (progress : ℕ → Progress) (s at : ℕ) (old new : Board) → StopsIn (ticks s at) old new → StopsAccountedFor progress at old new
  ticks_stopped progress s at old new stops = elim stops [ inl nothing ↦ nothing_told progress at old new nothing | inr is ↦ tick_begun progress s at old new is ]
