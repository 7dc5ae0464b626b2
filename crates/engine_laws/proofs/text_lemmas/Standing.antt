-- Whatever happens a connection that has ended stays as it is, and text is made of no item but where texts are prepared.
use Rattle.std.proofs.Common.{◌≡◌, ◌≢◌, inl, inr, ℕ, zero, suc, ◌+◌, ◌<◌, ◌≤◌, ◌++◌, List, [], ◌∷◌, get_or, length, set, true, false, Option, None, Some, refl, sym, ap, subst, ◌∙◌, arith}
use Rattle.std.proofs.lemmas.Bool.{cases_eq as same_or_other}
use Rattle.std.specs.Prelude.{◌⊎◌, IsNone, unwrap_or}
use Rattle.std.proofs.Math.ListN.{get_or-append}
use Rattle.std.proofs.Math.Seq.{get_or-append_seam}
use Rattle.std.proofs.lemmas.List.{get_or-set_other, get_or-set_same, length-set, length_push}
use Rattle.std.proofs.lemmas.List.Elements.{All-head, All-tail}
use Rattle.std.specs.List.{All}
use Rattle.connection_core.specs.Connection.{ConnectionState, after_end as after_cause}
use Rattle.connection_core.specs.Outgoing.{no_outgoing}
use Rattle.lease_core.specs.declared.entry.Entry.{Entry}
use Rattle.lease_core.specs.declared.event.Event.TheVariants.{Binds}
use Rattle.resend_plan.specs.Wire.{NamesEntry}
use Rattle.session_book.specs.Acts.{after_acts, after_binding, after_dial, after_message, after_ticking}
use Rattle.session_book.specs.Book.{Book, Desk, with_event, with_machine, with_outbox}
use Rattle.session_core.specs.Ask.{after_ask, ask}
use Rattle.session_core.specs.Receive.{after_receive, receive}
use Rattle.session_core.specs.Tick.{after_tick, tick}
use Rattle.session_core.specs.declared.acts.Act.{Act}
use Rattle.session_core.specs.declared.acts.Act.TheVariants as act
use Rattle.session_core.specs.declared.causes.Cause.{Cause}
use Rattle.switchboard.specs.Board.{Board, OutboxChanges, book_at, connection_at, desk_at, desk_with, no_connection, outgoing_at, place_at}
use Rattle.switchboard.specs.Going.{GoesOnTo, is_coming}
use Rattle.switchboard.specs.Happenings.{BindsTo, BookChanges, ConnectionChanges, EndsBound, Happening, Happens, Reaches, SessionGoesOn, accepts, answers, binds, binds_and_ends, dials, ends_bound, ends_unbound, gives, lapses, prepares, receives, requests, reserves, shows, takes, ticks, times_out, writes}
use Rattle.switchboard.specs.Ready.{IsReady}
use Rattle.switchboard.specs.Sound.{IsPlaced, IsPlugged}
use Rattle.engine_laws.specs.texts.Taken.{FirstsComeAlone, HasOneTextAtMost}

pub below_or_not : (k n : ℕ) → (k < n) ⊎ (n ≤ k)
below_or_not k zero = inr (omega arith)
below_or_not zero (suc n) = inl (omega arith)
below_or_not (suc k) (suc n) = elim (below_or_not k n) [ inl small ↦ inl (omega arith) | inr least ↦ inr (omega arith) ]

pub none_is : {T : Type 0} (o : Option T) → IsNone o → o ≡ None
none_is None is = refl
none_is (Some x) is = absurd (cc)

-- it has ended
abbrev pub HasEnded : ConnectionState → Type 0
HasEnded c = c.cause ≢ None

-- how one connection goes on: where it has ended it stays, no text is made, and an answer isn't taken back
record Follows (old new : ConnectionState) : Type 0 where
  ended : HasEnded old → new ≡ old
  text : new.out.outgoing.text ≡ old.out.outgoing.text
  answered : new.answered ≡ false → old.answered ≡ false

follows_itself : (c : ConnectionState) → Follows c c
follows_itself c = record { ended = λ e. refl; text = refl; answered = λ a. a }

follows_further : (first second third : ConnectionState) → Follows first second → Follows second third → Follows first third
follows_further first second third one two = record {
  ended = λ e. two.ended (subst HasEnded (sym (one.ended e)) e) ∙ one.ended e;
  text = two.text ∙ one.text;
  answered = λ a. one.answered (two.answered a);
}

-- one that stands, becomes another
stands_on : (old new : ConnectionState) → old.cause ≡ None → new.out.outgoing.text ≡ old.out.outgoing.text → (new.answered ≡ false → old.answered ≡ false) → Follows old new
stands_on old new stands text answered = record { ended = λ e. absurd (e stands); text = text; answered = answered }

abbrev AllFollow : Board → Board → Type 0
AllFollow old new = (j : ℕ) → j < length old.connections → Follows (connection_at old j) (connection_at new j)

all_further : (first second third : Board) → length first.connections ≤ length second.connections → AllFollow first second → AllFollow second third → AllFollow first third
all_further first second third more one two j within = follows_further _ _ _ (one j within) (two j (omega arith))

same_lines : (old new : Board) → new.connections ≡ old.connections → AllFollow old new
same_lines old new same j within = subst (λ cs. Follows (connection_at old j) (get_or cs j no_connection)) (sym same) (follows_itself (connection_at old j))

-- one connection more
line_more : (c : ConnectionState) (old new : Board) → new.connections ≡ old.connections ++ c ∷ [] → AllFollow old new
line_more c old new more j within =
    subst (λ x. Follows (connection_at old j) x) (sym (ap (λ cs. get_or cs j no_connection) more ∙ get_or-append old.connections (c ∷ []) no_connection j within)) (follows_itself (connection_at old j))

-- one connection becomes another
one_line : (k : ℕ) (c : ConnectionState) (old new : Board) → new.connections ≡ set old.connections k c → Follows (connection_at old k) c → AllFollow old new
one_line k c old new changes follows j within = elim (same_or_other j k) [
  | inl e ↦ subst (λ n. Follows (connection_at old n) (connection_at new n)) (sym e)
      (subst (λ x. Follows (connection_at old k) x)
      (sym (ap (λ cs. get_or cs k no_connection) changes ∙ get_or-set_same old.connections k c no_connection (subst (λ n. n < length old.connections) e within))) follows)
  | inr other ↦ subst (λ x. Follows (connection_at old j) x)
      (sym (ap (λ cs. get_or cs j no_connection) changes ∙ get_or-set_other old.connections k j c no_connection other)) (follows_itself (connection_at old j))
]

changing : (k : ℕ) (c : ConnectionState) (old new : Board) → ConnectionChanges k c old new → Follows (connection_at old k) c → AllFollow old new
changing k c old new changes follows = one_line k c old new (ap (λ (b : Board). b.connections) changes.others) follows

-- only what waits changes on a connection that stands
outboxes : (place : Option ℕ) (old new : Board) → OutboxChanges place old new → ((k : ℕ) → place ≡ Some k → (connection_at old k).cause ≡ None) → (outgoing_at new place).text ≡ (outgoing_at old place).text → AllFollow old new
outboxes None old new changes stands text = same_lines old new changes
outboxes (Some k) old new changes stands text =
    one_line k (record (connection_at old k) { out = (connection_at new k).out }) old new changes.0 (stands_on (connection_at old k) (record (connection_at old k) { out = (connection_at new k).out }) (stands k refl) text (λ a. a))

-- the acts of a session make no text
acts_text : (at : ℕ) (acts : List Act) (s : Desk) → (after_acts at acts s).outgoing.text ≡ s.outgoing.text
acts_text at [] s = refl
acts_text at (act.Accept body ∷ acts) s = acts_text at acts _
acts_text at (act.Send admin ∷ acts) s = acts_text at acts _
acts_text at (act.Resend begin last ∷ acts) s = acts_text at acts _
acts_text at (act.Reset ∷ acts) s = acts_text at acts _

message_text : (at : ℕ) (body : List ℕ) (s : Desk) → (after_message at body s).outgoing.text ≡ s.outgoing.text
message_text at body s =
    let machine = s.book.machine in
    acts_text at (receive machine body at).acts (with_outbox (with_machine (after_receive machine body at) s.book) s.outgoing)

ticking_text : (at : ℕ) (s : Desk) → (after_ticking at s).outgoing.text ≡ s.outgoing.text
ticking_text at s =
    let machine = s.book.machine in
    acts_text at (tick machine at).acts (with_outbox (with_machine (after_tick machine at) s.book) s.outgoing)

binding_text : (at c : ℕ) (body : List ℕ) (s : Desk) → (after_binding at c body s).outgoing.text ≡ s.outgoing.text
binding_text at c body s = message_text at body (with_outbox (with_event (Binds c) s.book) s.outgoing)

dial_text : (at c : ℕ) (s : Desk) → (after_dial at c s).outgoing.text ≡ s.outgoing.text
dial_text at c s =
    let machine = s.book.machine in
    acts_text at (ask machine).acts (with_outbox (with_machine (after_ask machine at) (with_event (Binds c) s.book)) s.outgoing)

-- one that has ended keeps its first cause
ended_once : (cause : Cause) (c : ConnectionState) (o : Option Cause) → c.cause ≡ o → o ≢ None → after_cause cause c ≡ c
ended_once cause c None is ended = absurd (ended refl)
ended_once cause c (Some first) is ended =
    let same : Some (unwrap_or c.cause cause) ≡ c.cause = ap (λ (o : Option Cause). Some (unwrap_or o cause)) is ∙ sym is in
    ap (λ (o : Option Cause). record c { cause = o }) same

module _ (before : ℕ → List Entry) where
  -- the connection to which a session is bound stands
  pub stands_at : (s k : ℕ) (board : Board) → IsReady before board → s < length board.sessions → place_at board s ≡ Some k → (connection_at board k).cause ≡ None
  stands_at s k board ready within placed =
      let plugged : IsPlugged board s k = subst (λ place. IsPlaced board s place) placed (ready.sound.placed s within) in
      plugged.stands

  going : (s : ℕ) (old new : Board) → IsReady before old → SessionGoesOn s old new → (desk_at new s).outgoing.text ≡ (desk_at old s).outgoing.text → AllFollow old new
  going s old new ready goes text =
      let place : place_at new s ≡ place_at old s = ap (λ (places : List (Option ℕ)). get_or places s None) goes.others.places in
      outboxes (place_at old s) old new goes.others.connections (λ k placed. stands_at s k old ready goes.within placed)
      (subst (λ (p : Option ℕ). (outgoing_at new p).text ≡ (outgoing_at old (place_at old s)).text) place text)

  binding : (s k : ℕ) (body : List ℕ) (at : ℕ) (old new : Board) → BindsTo s k body at old new → AllFollow old new
  binding s k body at old new is =
      one_line k (connection_at new k) old new is.plugged.connections
      (stands_on (connection_at old k) (connection_at new k) (none_is _ is.stands) (ap (λ (d : Desk). d.outgoing.text) is.desk ∙ binding_text at (connection_at old k).number body (desk_with old s (Some k)))
      (λ a. sym (ap (λ (c : ConnectionState). c.answered) is.connection) ∙ a))

  leaving : (s k : ℕ) (cause : Cause) (old new : Board) → EndsBound s k cause old new → (connection_at old k).cause ≡ None → AllFollow old new
  leaving s k cause old new is stands =
      one_line k (connection_at new k) old new is.unplugged.connections
      (stands_on (connection_at old k) (connection_at new k) stands (ap (λ (c : ConnectionState). c.out.outgoing.text) is.connection) (λ a. sym (ap (λ (c : ConnectionState). c.answered) is.connection) ∙ a))

  alone : (s : ℕ) (book : Book) (old new : Board) → BookChanges s book old new → AllFollow old new
  alone s book old new changes = same_lines old new (ap (λ (b : Board). b.connections) changes.others)

  -- no text is made or written, and an answer comes on a connection that stands
  abbrev pub IsAllowed : Board → Happening → Type 0
  IsAllowed board (answers k) = (connection_at board k).cause ≡ None
  IsAllowed board (prepares s k) = ⊥
  IsAllowed board (writes k n) = ⊥
  IsAllowed board _ = Unit {0}

  follows_on : (happening : Happening) (old new : Board) → IsAllowed old happening → Happens happening old new → IsReady before old → AllFollow old new
  follows_on (accepts number at) old new allowed is ready = line_more _ old new (ap (λ (b : Board). b.connections) is.connection)
  follows_on (dials s number at) old new allowed is ready = line_more _ old new is.connection
  follows_on (takes k bytes) old new allowed is ready = changing k _ old new is.changes (stands_on (connection_at old k) _ (none_is _ is.stands) refl (λ a. a))
  follows_on (gives k) old new allowed is ready = changing k _ old new is.changes (stands_on (connection_at old k) _ (none_is _ is.stands) refl (λ a. a))
  follows_on (binds s k body at) old new allowed is ready = binding s k body at old new is.binding
  follows_on (binds_and_ends s k body at cause) old new allowed is ready =
      let bound = is.binding in
      let count : length is.between.connections ≡ length old.connections = ap length bound.plugged.connections ∙ length-set old.connections k (connection_at is.between k) in
      all_further old is.between new (omega arith) (binding s k body at old is.between bound)
      (leaving s k cause is.between new is.leaves (ap (λ (c : ConnectionState). c.cause) bound.connection ∙ none_is _ bound.stands))
  follows_on (receives s k body at) old new allowed is ready = going s old new ready is.goes_on (ap (λ (d : Desk). d.outgoing.text) is.desk ∙ message_text at body (desk_at old s))
  follows_on (answers k) old new allowed is ready = changing k _ old new is (stands_on (connection_at old k) _ allowed refl (λ a. absurd (cc)))
  follows_on (ticks s at) old new allowed is ready = going s old new ready is.goes_on (ap (λ (d : Desk). d.outgoing.text) is.desk ∙ ticking_text at (desk_at old s))
  follows_on (shows s w bodies at until) old new allowed is ready = going s old new ready is.goes_on (ap (λ (d : Desk). d.outgoing.text) is.desk)
  follows_on (times_out s w bodies at until) old new allowed is ready = going s old new ready is.goes_on (ap (λ (d : Desk). d.outgoing.text) is.desk)
  follows_on (requests s library nr from) old new allowed is ready = alone s _ old new is
  follows_on (lapses s) old new allowed is ready = alone s _ old new is
  follows_on (ends_unbound k cause) old new allowed is ready =
      changing k _ old new is.changes (record { ended = λ e. ended_once cause (connection_at old k) _ refl e; text = refl; answered = λ a. a })
  follows_on (ends_bound s k cause) old new allowed is ready = leaving s k cause old new is (stands_at s k old ready is.within is.placed)
  follows_on (prepares s k) old new allowed is ready = absurd allowed
  follows_on (writes k n) old new allowed is ready = absurd allowed
  follows_on (reserves s) old new allowed is ready = going s old new ready is.goes_on (ap (λ (d : Desk). d.outgoing.text) is.desk)

  -- Behind a step the board is ready, has the connections that it had, with their numbers, those that had ended stay as they were, and firsts come alone.
  pub record Stays (old new : Board) : Type 0 where
    pub ready : IsReady before new
    pub more : length old.connections ≤ length new.connections
    pub numbers : (j : ℕ) → j < length old.connections → (connection_at new j).number ≡ (connection_at old j).number
    pub ended : (j : ℕ) → j < length old.connections → HasEnded (connection_at old j) → connection_at new j ≡ connection_at old j
    pub firsts : FirstsComeAlone old → FirstsComeAlone new

  pub stays_further : (first second third : Board) → Stays first second → Stays second third → Stays first third
  stays_further first second third one two = record {
    ready = two.ready;
    more = (let more = one.more in let then_more = two.more in omega arith);
    numbers = λ j within. two.numbers j (let more = one.more in omega arith) ∙ one.numbers j within;
    ended = λ j within e. two.ended j (let more = one.more in omega arith) (subst HasEnded (sym (one.ended j within e)) e) ∙ one.ended j within e;
    firsts = λ are. two.firsts (one.firsts are);
  }

  pub stays_itself : (board : Board) → IsReady before board → Stays board board
  stays_itself board ready = record { ready = ready; more = omega arith; numbers = λ j within. refl; ended = λ j within e. refl; firsts = λ are. are }

  -- what is known of happenings
  pub record Laws : Type 0 where
    pub ready : (happening : Happening) (old new : Board) → Happens happening old new → IsReady before old → IsReady before new
    pub goes_on : (happening : Happening) (old new : Board) → Happens happening old new → GoesOnTo old new
    pub count : (happening : Happening) (old new : Board) → is_coming happening ≡ false → Happens happening old new → length new.connections ≡ length old.connections
    pub named : (board : Board) (s k : ℕ) → IsReady before board → k < length board.connections → (connection_at board k).session ≡ Some s → All (NamesEntry (book_at board s).outbound) (connection_at board k).out.outgoing.unmade

  -- a first that came alone
  first_on : (old new : ConnectionState) → Follows old new → (old.answered ≡ false → HasOneTextAtMost old.out.outgoing) → new.answered ≡ false → HasOneTextAtMost new.out.outgoing
  first_on old new follows was unanswered = elim (was (follows.answered unanswered)) [
    | inl none ↦ inl (follows.text ∙ none)
    | inr one ↦ inr (record { body = one.body; short = one.short; are = follows.text ∙ one.are })
  ]

  -- of those that there were, and of one that came
  firsts_on : (old new : Board) → AllFollow old new → ((k : ℕ) → length old.connections ≤ k → k < length new.connections → (connection_at new k).answered ≡ false → HasOneTextAtMost (connection_at new k).out.outgoing)
      → FirstsComeAlone old → FirstsComeAlone new
  firsts_on old new follow came were k within unanswered = elim (below_or_not k (length old.connections)) [
    | inl small ↦ first_on (connection_at old k) (connection_at new k) (follow k small) (were k small) unanswered
    | inr least ↦ came k least within unanswered
  ]

  abbrev Came : Board → Board → Type 0
  Came old new = (k : ℕ) → length old.connections ≤ k → k < length new.connections → (connection_at new k).answered ≡ false → HasOneTextAtMost (connection_at new k).out.outgoing

  pub last_is : (k : ℕ) (c : ConnectionState) (old new : Board) → new.connections ≡ old.connections ++ c ∷ [] → length old.connections ≤ k → k < length new.connections → k ≡ length old.connections
  last_is k c old new more least within =
      let count : length new.connections ≡ length old.connections + 1 = ap length more ∙ length_push old.connections c in
      omega arith

  pub last_at : (c : ConnectionState) (old new : Board) → new.connections ≡ old.connections ++ c ∷ [] → connection_at new (length old.connections) ≡ c
  last_at c old new more = ap (λ cs. get_or cs (length old.connections) no_connection) more ∙ get_or-append_seam old.connections c [] no_connection

  module _ (g : Laws) where
    none_came : (happening : Happening) (old new : Board) → is_coming happening ≡ false → Happens happening old new → Came old new
    none_came happening old new none is k least within = absurd (let count = g.count happening old new none is in omega arith)

    came : (happening : Happening) (old new : Board) → Happens happening old new → Came old new
    came (accepts number at) old new is = λ k least within unanswered.
        let more = ap (λ (b : Board). b.connections) is.connection in
        let here : (connection_at new (length old.connections)).answered ≡ true = ap (λ (c : ConnectionState). c.answered) (last_at _ old new more) in
        let answered : (connection_at new k).answered ≡ true = subst (λ n. (connection_at new n).answered ≡ true) (sym (last_is k _ old new more least within)) here in
        absurd (cc)
    came (dials s number at) old new is = λ k least within unanswered.
        subst (λ n. HasOneTextAtMost (connection_at new n).out.outgoing) (sym (last_is k _ old new is.connection least within)) (inl (ap (λ (d : Desk). d.outgoing.text) is.desk ∙ dial_text at number (with_outbox (book_at old s) no_outgoing)))
    came other old new is = none_came other old new refl is

    pub happened : (happening : Happening) (old new : Board) → IsAllowed old happening → Happens happening old new → IsReady before old → Stays old new
    happened happening old new allowed is ready =
        let goes = g.goes_on happening old new is in
        let follow = follows_on happening old new allowed is ready in
        record {
          ready = g.ready happening old new is ready;
          more = goes.more;
          numbers = λ j within. (goes.each j within).number;
          ended = λ j within e. (follow j within).ended e;
          firsts = firsts_on old new follow (came happening old new is);
        }

    -- Neither does a connection come, nor is one answered, nor is text made or written.
    abbrev pub IsPlain : Happening → Type 0
    IsPlain (accepts number at) = ⊥
    IsPlain (dials s number at) = ⊥
    IsPlain (answers k) = ⊥
    IsPlain (prepares s k) = ⊥
    IsPlain (writes k n) = ⊥
    IsPlain _ = Unit {0}

    plain_allowed : (happening : Happening) (board : Board) → IsPlain happening → (is_coming happening ≡ false) × IsAllowed board happening
    plain_allowed (accepts number at) board plain = absurd plain
    plain_allowed (dials s number at) board plain = absurd plain
    plain_allowed (answers k) board plain = absurd plain
    plain_allowed (prepares s k) board plain = absurd plain
    plain_allowed (writes k n) board plain = absurd plain
    plain_allowed other board plain = (refl, tt)

    -- Where no connection comes.
    pub record Rests (old new : Board) : Type 0 where
      pub stays : Stays old new
      pub count : length new.connections ≡ length old.connections

    abbrev pub Keeps : Board → Board → Type 0
    Keeps old new = IsReady before old → Rests old new

    pub keeps_itself : (board : Board) → Keeps board board
    keeps_itself board ready = record { stays = stays_itself board ready; count = refl }

    pub keeps_further : (first second third : Board) → Keeps first second → Keeps second third → Keeps first third
    keeps_further first second third one two ready =
        let a = one ready in
        let b = two a.stays.ready in
        record { stays = stays_further first second third a.stays b.stays; count = b.count ∙ a.count }

    pub keeps_one : (happening : Happening) (old new : Board) → is_coming happening ≡ false → ((ready : IsReady before old) → IsAllowed old happening) → Happens happening old new → Keeps old new
    keeps_one happening old new none allowed is ready = record { stays = happened happening old new (allowed ready) is ready; count = g.count happening old new none is }

    pub keeps_plain : (happening : Happening) (old new : Board) → IsPlain happening → Happens happening old new → Keeps old new
    keeps_plain happening old new plain is =
        let are = plain_allowed happening old plain in
        keeps_one happening old new are.0 (λ ready. are.1) is

    pub ran : (happenings : List Happening) (old new : Board) → All IsPlain happenings → Reaches happenings old new → Keeps old new
    ran [] old new all same = subst (λ board. Keeps old board) (sym same) (keeps_itself old)
    ran (happening ∷ happenings) old new all reached =
        keeps_further old reached.0 new (keeps_plain happening old reached.0 (All-head IsPlain happening happenings all) reached.1.0)
        (ran happenings reached.0 new (All-tail IsPlain happening happenings all) reached.1.1)
