-- A dialled connection comes, its next piece is handed out, and its session hears that: what is kept of the answer to its Logon stays so.
use Rattle.std.proofs.Common.{◌≡◌, ◌≢◌, inl, inr, ℕ, ◌<◌, ◌++◌, Bool, true, false, List, [], ◌∷◌, length, Option, None, Some, refl, sym, ap, subst, ◌∙◌}
use Rattle.std.specs.List.{All}
use Rattle.std.specs.Prelude.{◌==◌, if◌then◌else◌}
use Rattle.std.proofs.lemmas.Bool.{cases_eq as same_or_other, eq-eqb, ne_eqb}
use Rattle.std.proofs.lemmas.List.{append-nil}
use Rattle.std.proofs.lemmas.List.Elements.{All-cons, All-head, All-nil, All-tail}
use Rattle.std.proofs.lemmas.Option.{same_Some}
use Rattle.connection_core.specs.Connection.{ConnectionState, IsGiven}
use Rattle.connection_core.specs.Outgoing.{no_outgoing}
use Rattle.fix_frame.specs.Cut.{CutPiece, garbled, good}
use Rattle.lease_core.specs.declared.entry.Entry.{Entry}
use Rattle.lease_core.specs.declared.event.Event.TheVariants.{Binds}
use Rattle.lease_desk.specs.Desk.{Gathers, bodies_of}
use Rattle.lease_desk.specs.declared.desk.LeaseDesk.{LeaseDesk}
use Rattle.session_book.specs.Acts.{after_dial}
use Rattle.session_book.specs.Book.{Desk, with_event, with_machine, with_outbox}
use Rattle.session_book.specs.Records.{Pending}
use Rattle.session_core.specs.Ask.{after_ask, after_logon, ask}
use Rattle.session_core.specs.Receive.{receive}
use Rattle.session_core.specs.State.{State}
use Rattle.session_core.specs.declared.causes.Cause.{Cause}
use Rattle.session_core.specs.declared.names.Names.{Names}
use Rattle.session_core.specs.declared.phases.Phase.TheVariants.{Asked, Off}
use Rattle.session_desk.specs.Steps.{Hears, ending, is_answer}
use Rattle.switchboard.specs.Board.{Board, book_at, connection_at, place_at}
use Rattle.switchboard.specs.Brought.{good_bodies}
use Rattle.switchboard.specs.Going.{GoesOnTo}
use Rattle.switchboard.specs.Happenings.{ConnectionChanges, Happening, Happens, Reaches, accepts, answers, dials, ends_bound, gives, next_pieces, receives, reserves, shows}
use Rattle.switchboard.specs.Ready.{IsReady}
use Rattle.switchboard.specs.Sound.{IsPlaced, IsPlugged}
use Rattle.engine_laws.proofs.text_lemmas.Dialled.{AllLast, IsStill, Lasts, StillLaws, beside, connection_phase, going, lasts_itself, line_more, none_names, now_at, only_one_names, other_phase, so_on, still_last, still_one, still_so}
use Rattle.engine_laws.proofs.text_lemmas.Said.{acts_phase, answered_on, said}
use Rattle.engine_laws.proofs.text_lemmas.Standing.{below_or_not, last_at, last_is}
use Rattle.engine_laws.specs.texts.Answered.{DialledAreSoWith, IsDialledSo, answers_logon, nothing_in_hand}

-- the bodies of pieces that are handed out one behind another
good_append : (pieces more : List CutPiece) → good_bodies (pieces ++ more) ≡ good_bodies pieces ++ good_bodies more
good_append [] more = refl
good_append (good body ∷ pieces) more = ap (λ (bodies : List (List ℕ)). body ∷ bodies) (good_append pieces more)
good_append (garbled size ∷ pieces) more = good_append pieces more

-- a session that was off and is on once it has asked is one that dials
record Asks (m : State) (at : ℕ) : Type 0 where
  heart : ℕ
  dials : m.dials ≡ Some heart
  phase : (after_ask m at).phase ≡ Asked heart

asks_by : (m : State) (at : ℕ) (o : Option ℕ) → m.dials ≡ o → m.phase ≡ Off → (after_ask m at).phase ≢ Off → Asks m at
asks_by m at None is off on = absurd (on (ap (λ (o : Option ℕ). (after_logon m at o).phase) is ∙ off))
asks_by m at (Some heart) is off on = record { heart = heart; dials = is; phase = ap (λ (o : Option ℕ). (after_logon m at o).phase) is }

dial_phase : (at c : ℕ) (s : Desk) → (after_dial at c s).book.machine.phase ≡ (after_ask s.book.machine at).phase
dial_phase at c s =
    let m = s.book.machine in
    acts_phase at (ask m).acts (with_outbox (with_machine (after_ask m at) (with_event (Binds c) s.book)) s.outgoing)

-- this piece is in hand of one connection
abbrev pub one_in_hand : ℕ → CutPiece → ℕ → List CutPiece
one_in_hand k piece j = if j == k then piece ∷ [] else []

here_in_hand : (k : ℕ) (piece : CutPiece) → one_in_hand k piece k ≡ piece ∷ []
here_in_hand k piece = ap (λ (b : Bool). if b then piece ∷ [] else []) (eq-eqb k k refl)

none_in_hand : (k j : ℕ) (piece : CutPiece) → j ≢ k → one_in_hand k piece j ≡ []
none_in_hand k j piece other = ap (λ (b : Bool). if b then piece ∷ [] else []) (ne_eqb j k other)

-- What is kept of the answer to a connection's Logon, once it is changed so, is what the first of the messages says that were handed out of it.
record IsTold (f : Bool → Bool) (board : Board) (c : ConnectionState) : Type 0 where
  session : ℕ
  names : c.session ≡ Some session
  heart : ℕ
  dials : (book_at board session).machine.dials ≡ Some heart
  pieces : List CutPiece
  given : IsGiven c pieces
  answered : f c.answered ≡ answers_logon (book_at board session).machine.names heart (good_bodies pieces)

told_on : (f : Bool → Bool) (old new : Board) (c d : ConnectionState) → GoesOnTo old new → Lasts c d → IsTold f old c → IsTold f new d
told_on f old new c d goes lasts of = record {
  session = of.session;
  names = lasts.names of.session of.names;
  heart = of.heart;
  dials = (goes.same of.session).dials ∙ of.dials;
  pieces = of.pieces;
  given = lasts.given of.pieces of.given;
  answered = ap f lasts.answered ∙ of.answered ∙ ap (λ (n : Names). answers_logon n of.heart (good_bodies of.pieces)) (sym (goes.same of.session).names);
}

-- where nothing is left to wait for
handled_so : (board : Board) (c : ConnectionState) → IsTold (λ b. b) board c → (c.answered ≡ false → c.cause ≡ None → ⊥) → IsDialledSo board c []
handled_so board c of none = record {
  session = of.session;
  names = of.names;
  heart = of.heart;
  dials = of.dials;
  pieces = of.pieces;
  given = subst (IsGiven c) (sym (append-nil of.pieces)) of.given;
  answered = of.answered;
  waits = λ unanswered stands. absurd (none unanswered stands);
}

-- garbled bytes say nothing
garbled_so : (board : Board) (c : ConnectionState) (size : ℕ) → IsDialledSo board c (garbled size ∷ []) → IsDialledSo board c []
garbled_so board c size of =
    let bodies : good_bodies (of.pieces ++ garbled size ∷ []) ≡ good_bodies of.pieces = good_append of.pieces (garbled size ∷ []) ∙ append-nil (good_bodies of.pieces) in
    record {
      session = of.session;
      names = of.names;
      heart = of.heart;
      dials = of.dials;
      pieces = of.pieces ++ garbled size ∷ [];
      given = subst (IsGiven c) (sym (append-nil (of.pieces ++ garbled size ∷ []))) of.given;
      answered = of.answered ∙ ap (answers_logon (book_at board of.session).machine.names of.heart) (sym bodies);
      waits = λ unanswered stands. (let before = of.waits unanswered stands in (bodies ∙ before.0, before.1));
    }

-- the next piece is handed out, if there is one
given_so : (more : List CutPiece) (k : ℕ) (old new : Board) → Happens (gives k) old new → next_pieces (connection_at old k) ≡ more → IsDialledSo old (connection_at old k) [] → IsDialledSo new (connection_at new k) more
given_so more k old new is next of =
    let at = now_at k _ old new (ap (λ (b : Board). b.connections) is.changes.others) is.changes.within in
    let machine = ap (λ (b : Board). (book_at b of.session).machine) is.changes.others in
    let pieces : (of.pieces ++ []) ++ next_pieces (connection_at old k) ≡ of.pieces ++ more = ap (λ (front : List CutPiece). front ++ next_pieces (connection_at old k)) (append-nil of.pieces) ∙ ap (λ (back : List CutPiece). of.pieces ++ back) next in
    record {
      session = of.session;
      names = ap (λ (c : ConnectionState). c.session) at ∙ of.names;
      heart = of.heart;
      dials = ap (λ (m : State). m.dials) machine ∙ of.dials;
      pieces = of.pieces;
      given = subst (IsGiven (connection_at new k)) pieces (is.given (of.pieces ++ []) of.given);
      answered = ap (λ (c : ConnectionState). c.answered) at ∙ of.answered ∙ ap (λ (m : State). answers_logon m.names of.heart (good_bodies of.pieces)) (sym machine);
      waits = λ unanswered stands.
          let before = of.waits (sym (ap (λ (c : ConnectionState). c.answered) at) ∙ unanswered) (sym (ap (λ (c : ConnectionState). c.cause) at) ∙ stands) in
          (before.0, ap (λ (m : State). m.phase) machine ∙ before.1);
    }

-- another connection changes, and no session
beside_so : (in_hand : List CutPiece) (k j : ℕ) (c : ConnectionState) (old new : Board) → GoesOnTo old new → ConnectionChanges k c old new → j ≢ k → IsDialledSo old (connection_at old j) in_hand → IsDialledSo new (connection_at new j) in_hand
beside_so in_hand k j c old new goes changes other of =
    so_on in_hand old new (connection_at old j) (connection_at new j) goes
    (subst (Lasts (connection_at old j)) (sym (beside k j c old new (ap (λ (b : Board). b.connections) changes.others) other)) (lasts_itself (connection_at old j))) of
    (λ stands. connection_phase k of.session c old new changes)

same_yes : (says : Bool) → (if says then true else true) ≡ true
same_yes true = refl
same_yes false = refl

same_no : (says : Bool) → (if says then true else false) ≡ says
same_no true = refl
same_no false = refl

-- what a message says of a connection of which nothing was said before, or an answer
verdict : (says kept : Bool) (names : Names) (heart : ℕ) (bodies : List (List ℕ)) (body : List ℕ) → kept ≡ answers_logon names heart bodies → (kept ≡ false → (bodies ≡ []) × (says ≡ answers_logon names heart (body ∷ [])))
    → (if says then true else kept) ≡ answers_logon names heart (bodies ++ body ∷ [])
verdict says true names heart bodies body was says_it = same_yes says ∙ sym (answered_on names heart bodies body (sym was))
verdict says false names heart bodies body was says_it =
    let first = says_it refl in
    same_no says ∙ first.1 ∙ ap (λ (front : List (List ℕ)). answers_logon names heart (front ++ body ∷ [])) (sym first.0)

-- an answer is kept, or nothing changes
abbrev KeepsAnswer : Bool → ℕ → Board → Board → Type 0
KeepsAnswer true k old new = Happens (answers k) old new
KeepsAnswer false k old new = new ≡ old

kept_first : (says : Bool) (k : ℕ) (rest : List Happening) (old new : Board) → Reaches ((if says then answers k ∷ [] else []) ++ rest) old new → (between : Board) × (KeepsAnswer says k old between × Reaches rest between new)
kept_first true k rest old new reached = (reached.0, (reached.1.0, reached.1.1))
kept_first false k rest old new reached = (old, (refl, reached))

-- what holds of a board behind each step
abbrev pub HeldBy : (ℕ → List Entry) → (ℕ → List CutPiece) → Board → Type 0
HeldBy before in_hand board = IsReady before board × DialledAreSoWith in_hand board

module _ (before : ℕ → List Entry) (g : StillLaws before) where
  -- what doesn't touch it, one happening after another
  pub stilled : (in_hand : ℕ → List CutPiece) (happenings : List Happening) (old new : Board) → All IsStill happenings → Reaches happenings old new → HeldBy before in_hand old → HeldBy before in_hand new
  stilled in_hand [] old new all same was = subst (HeldBy before in_hand) (sym same) was
  stilled in_hand (happening ∷ happenings) old new all reached was =
      let still = All-head IsStill happening happenings all in
      stilled in_hand happenings reached.0 new (All-tail IsStill happening happenings all) reached.1.1
      (g.ready happening old reached.0 reached.1.0 was.0, still_so before g in_hand happening old reached.0 still reached.1.0 was.0 was.1)

  pub gathered : (in_hand : ℕ → List CutPiece) (s at until : ℕ) (old new : LeaseDesk) → Gathers s at until old new → HeldBy before in_hand old.board → HeldBy before in_hand new.board
  gathered in_hand s at until old new is =
      let shown = shows s is.word (bodies_of is.items) at until in
      stilled in_hand (reserves s ∷ shown ∷ []) old.board new.board (All-cons IsStill (reserves s) (shown ∷ []) tt (All-cons IsStill shown [] tt (All-nil IsStill))) is.reaches

  -- the connections but one, as another happens to that
  abbrev But : ℕ → Board → Type 0
  But k board = (j : ℕ) → j ≢ k → j < length board.connections → (connection_at board j).dialled ≡ true → IsDialledSo board (connection_at board j) []

  -- a session hears a message of its connection
  module _ (s k : ℕ) (body : List ℕ) (at : ℕ) (old new : Board) (is : Happens (receives s k body at) old new) (is_ready : IsReady before old) where
    heard_lasts : AllLast old new
    heard_lasts = going s old new is.goes_on

    heard_count : length new.connections ≡ length old.connections
    heard_count = g.count (receives s k body at) old new refl is

    heard_beside : (j : ℕ) → j ≢ k → j < length old.connections → IsDialledSo old (connection_at old j) [] → IsDialledSo new (connection_at new j) []
    heard_beside j other small of =
        so_on [] old new (connection_at old j) (connection_at new j) (g.goes_on (receives s k body at) old new is) (heard_lasts j small) of
        (λ stands. elim (same_or_other of.session s) [
          | inl e ↦ absurd (other (only_one_names before g.same old j k s is_ready small (of.names ∙ ap Some e) ((heard_lasts j small).stands stands) is.placed))
          | inr apart ↦ other_phase s of.session _ old new is.goes_on.others.sessions apart
        ])

  -- the answer is kept where it is one
  answer_lasts : (says : Bool) (k : ℕ) (old new : Board) → KeepsAnswer says k old new → (j : ℕ) → j ≢ k → j < length old.connections → IsDialledSo old (connection_at old j) [] → IsDialledSo new (connection_at new j) []
  answer_lasts true k old new is j other small of = beside_so [] k j _ old new (g.goes_on (answers k) old new is) is other of
  answer_lasts false k old new same j other small of = subst (λ b. IsDialledSo b (connection_at b j) []) (sym same) of

  answer_count : (says : Bool) (k : ℕ) (old new : Board) → KeepsAnswer says k old new → length new.connections ≡ length old.connections
  answer_count true k old new is = g.count (answers k) old new refl is
  answer_count false k old new same = ap (λ (b : Board). length b.connections) same

  answer_dialled : (says : Bool) (k : ℕ) (old new : Board) → KeepsAnswer says k old new → (j : ℕ) → j < length old.connections → (connection_at new j).dialled ≡ (connection_at old j).dialled
  answer_dialled true k old new is j small = elim (same_or_other j k) [
    | inl e ↦ subst (λ n. (connection_at new n).dialled ≡ (connection_at old n).dialled) (sym e) (ap (λ (c : ConnectionState). c.dialled) (now_at k _ old new (ap (λ (b : Board). b.connections) is.others) is.within))
    | inr other ↦ ap (λ (c : ConnectionState). c.dialled) (beside k j _ old new (ap (λ (b : Board). b.connections) is.others) other)
  ]
  answer_dialled false k old new same j small = ap (λ (b : Board). (connection_at b j).dialled) same

  answer_ready : (says : Bool) (k : ℕ) (old new : Board) → KeepsAnswer says k old new → IsReady before old → IsReady before new
  answer_ready true k old new is was = g.ready (answers k) old new is was
  answer_ready false k old new same was = subst (IsReady before) (sym same) was

  answer_told : (says : Bool) (k : ℕ) (old new : Board) → KeepsAnswer says k old new → IsTold (λ b. if says then true else b) old (connection_at old k)
      → IsTold (λ b. b) new (connection_at new k) × (says ≡ true → (connection_at new k).answered ≡ true)
  answer_told true k old new is of =
      let c = connection_at old k in
      let at = now_at k _ old new (ap (λ (b : Board). b.connections) is.others) is.within in
      let goes = g.goes_on (answers k) old new is in (
        record {
          session = of.session;
          names = ap (λ (x : ConnectionState). x.session) at ∙ of.names;
          heart = of.heart;
          dials = (goes.same of.session).dials ∙ of.dials;
          pieces = of.pieces;
          given = subst (λ x. IsGiven x of.pieces) (sym at) (record { so_far = of.given.so_far; counted = of.given.counted });
          answered = ap (λ (x : ConnectionState). x.answered) at ∙ of.answered ∙ ap (λ (n : Names). answers_logon n of.heart (good_bodies of.pieces)) (sym (goes.same of.session).names);
        },
        (λ answers_it. ap (λ (x : ConnectionState). x.answered) at),
      )
  answer_told false k old new same of = (subst (λ b. IsTold (λ kept. kept) b (connection_at b k)) (sym same) of, (λ answers_it. absurd (cc)))

  -- the connection ends, or goes on
  module _ (s k : ℕ) where
    ends_still : (end : Option Cause) → All IsStill (ending s (Some k) end)
    ends_still None = All-nil IsStill
    ends_still (Some cause) = All-cons IsStill (ends_bound s k cause) [] tt (All-nil IsStill)

    over : (end : Option Cause) (old new : Board) → Reaches (ending s (Some k) end) old new → IsReady before old → k < length old.connections → But k old
        → ((connection_at old k).dialled ≡ true → IsTold (λ b. b) old (connection_at old k) × (is_answer end ≡ true → (connection_at old k).answered ≡ true)) → HeldBy before nothing_in_hand new
    over None old new same is_ready small but told = subst (HeldBy before nothing_in_hand) (sym same) (
      is_ready,
      λ j within dialled. elim (same_or_other j k) [
        | inl e ↦ (
            let both = told (subst (λ n. (connection_at old n).dialled ≡ true) e dialled) in
            subst (λ n. IsDialledSo old (connection_at old n) []) (sym e)
            (handled_so old (connection_at old k) both.0 (λ unanswered stands. (let clash : false ≡ true = sym unanswered ∙ both.1 refl in absurd (cc)))))
        | inr other ↦ but j other within dialled
      ],
    )
    over (Some cause) old new reached is_ready small but told =
        let next = reached.0 in
        let happens : Happens (ends_bound s k cause) old next = reached.1.0 in
        let lasts = still_last before g (ends_bound s k cause) old next tt happens in
        let many = g.count (ends_bound s k cause) old next refl happens in
        let cause_is = ap (λ (c : ConnectionState). c.cause) happens.connection in
        subst (HeldBy before nothing_in_hand) (sym reached.1.1) (
          g.ready (ends_bound s k cause) old next happens is_ready,
          λ j within dialled.
              let below : j < length old.connections = subst (λ n. j < n) many within in
              let was_dialled : (connection_at old j).dialled ≡ true = sym (lasts j below).dialled ∙ dialled in
              elim (same_or_other j k) [
                | inl e ↦ subst (λ n. IsDialledSo next (connection_at next n) []) (sym e)
                    (handled_so next (connection_at next k)
                    (told_on (λ b. b) old next (connection_at old k) (connection_at next k) (g.goes_on (ends_bound s k cause) old next happens) (lasts k small) (told (subst (λ n. (connection_at old n).dialled ≡ true) e was_dialled)).0)
                    (λ unanswered stands. (let clash = sym cause_is ∙ stands in absurd (cc))))
                | inr other ↦ still_one before g [] (ends_bound s k cause) old next tt happens is_ready j below was_dialled (but j other below was_dialled)
              ],
        )

  -- what a connection said to its session, before that heard it
  told_here : (s k : ℕ) (body : List ℕ) (at : ℕ) (board : Board) (end : Option Cause) → IsReady before board → s < length board.sessions → place_at board s ≡ Some k → end ≡ (receive (book_at board s).machine body at).end
      → IsDialledSo board (connection_at board k) (good body ∷ []) → IsTold (λ b. if is_answer end then true else b) board (connection_at board k)
  told_here s k body at board end is_ready small placed end_is of =
      let plugged : IsPlugged board s k = subst (λ place. IsPlaced board s place) placed (is_ready.sound.placed s small) in
      let same : of.session ≡ s = same_Some of.session s (sym of.names ∙ plugged.names) in
      let bodies : good_bodies (of.pieces ++ good body ∷ []) ≡ good_bodies of.pieces ++ body ∷ [] = good_append of.pieces (good body ∷ []) in
      let names = (book_at board of.session).machine.names in
      record {
        session = of.session;
        names = of.names;
        heart = of.heart;
        dials = of.dials;
        pieces = of.pieces ++ good body ∷ [];
        given = of.given;
        answered = verdict (is_answer end) (connection_at board k).answered names of.heart (good_bodies of.pieces) body of.answered
            (λ unanswered.
            let waits = of.waits unanswered plugged.stands in
            let says = said (book_at board of.session).machine of.heart at body waits.1 in
            (waits.0, ap is_answer (end_is ∙ ap (λ (n : ℕ). (receive (book_at board n).machine body at).end) (sym same)) ∙ says))
            ∙ ap (answers_logon names of.heart) (sym bodies);
      }

  pub heard : (s k : ℕ) (body : List ℕ) (at until : ℕ) (old new : LeaseDesk) (unkept_old unkept_new : List Pending) (end : Option Cause) → Hears s k body at until old new unkept_old unkept_new end
      → HeldBy before (one_in_hand k (good body)) old.board → HeldBy before nothing_in_hand new.board
  heard s k body at until old new unkept_old unkept_new end is was =
      let board = is.gathered.board in
      let behind = is.follows.0 in
      let hears : Happens (receives s k body at) board behind = is.follows.1.0 in
      let held = gathered (one_in_hand k (good body)) s at until old is.gathered is.gathers was in
      let answer = kept_first (is_answer end) k (ending s (Some k) end) behind new.board is.follows.1.1 in
      let between = answer.0 in
      let small : s < length board.sessions = hears.goes_on.within in
      let plugged : IsPlugged board s k = subst (λ place. IsPlaced board s place) hears.placed (held.0.sound.placed s small) in
      let lasts = going s board behind hears.goes_on in
      let many : length behind.connections ≡ length board.connections = g.count (receives s k body at) board behind refl hears in
      let within : k < length behind.connections = subst (λ n. k < n) (sym many) plugged.within in
      let ready_behind = g.ready (receives s k body at) board behind hears held.0 in
      let again = answer_count (is_answer end) k behind between answer.1.0 in
      let told : (connection_at between k).dialled ≡ true → IsTold (λ b. b) between (connection_at between k) × (is_answer end ≡ true → (connection_at between k).answered ≡ true) = λ dialled.
      let dialled_behind : (connection_at behind k).dialled ≡ true = sym (answer_dialled (is_answer end) k behind between answer.1.0 k within) ∙ dialled in
      let dialled_here : (connection_at board k).dialled ≡ true = sym (lasts k plugged.within).dialled ∙ dialled_behind in
      let of = subst (IsDialledSo board (connection_at board k)) (here_in_hand k (good body)) (held.1 k plugged.within dialled_here) in
      answer_told (is_answer end) k behind between answer.1.0
      (told_on (λ b. if is_answer end then true else b) board behind (connection_at board k) (connection_at behind k) (g.goes_on (receives s k body at) board behind hears) (lasts k plugged.within)
      (told_here s k body at board end held.0 small hears.placed is.end_is of)) in
      let but : But k between = λ j other below dialled.
      let below_behind : j < length behind.connections = subst (λ n. j < n) again below in
      let below_board : j < length board.connections = subst (λ n. j < n) many below_behind in
      let dialled_behind : (connection_at behind j).dialled ≡ true = sym (answer_dialled (is_answer end) k behind between answer.1.0 j below_behind) ∙ dialled in
      let dialled_here : (connection_at board j).dialled ≡ true = sym (lasts j below_board).dialled ∙ dialled_behind in
      let of = subst (IsDialledSo board (connection_at board j)) (none_in_hand k j (good body) other) (held.1 j below_board dialled_here) in
      answer_lasts (is_answer end) k behind between answer.1.0 j other below_behind (heard_beside s k body at board behind hears held.0 j other below_board of) in
      over s k end between new.board answer.1.1 (answer_ready (is_answer end) k behind between answer.1.0 ready_behind) (subst (λ n. k < n) (sym again) within) but told

  -- a piece is handed out of a connection, of which this is in hand then, or nothing
  handed_out : (in_hand : ℕ → List CutPiece) (k : ℕ) (old new : Board) → Happens (gives k) old new → in_hand k ≡ next_pieces (connection_at old k) → ((j : ℕ) → j ≢ k → in_hand j ≡ []) → HeldBy before nothing_in_hand old
      → HeldBy before in_hand new
  handed_out in_hand k old new is here there was = (
    g.ready (gives k) old new is was.0,
    λ j within dialled.
        let small : j < length old.connections = subst (λ n. j < n) (g.count (gives k) old new refl is) within in
        elim (same_or_other j k) [
          | inl e ↦ (
              let at = now_at k _ old new (ap (λ (b : Board). b.connections) is.changes.others) is.changes.within in
              let was_dialled : (connection_at old k).dialled ≡ true = sym (ap (λ (c : ConnectionState). c.dialled) at) ∙ subst (λ n. (connection_at new n).dialled ≡ true) e dialled in
              subst (λ n. IsDialledSo new (connection_at new n) (in_hand n)) (sym e) (given_so (in_hand k) k old new is (sym here) (was.1 k is.changes.within was_dialled)))
          | inr other ↦ (
              let same = beside k j _ old new (ap (λ (b : Board). b.connections) is.changes.others) other in
              let was_dialled : (connection_at old j).dialled ≡ true = sym (ap (λ (c : ConnectionState). c.dialled) same) ∙ dialled in
              subst (IsDialledSo new (connection_at new j)) (sym (there j other)) (beside_so [] k j _ old new (g.goes_on (gives k) old new is) is.changes other (was.1 j small was_dialled)))
        ],
  )

  pub none_handed_out : (k : ℕ) (old new : Board) → Happens (gives k) old new → next_pieces (connection_at old k) ≡ [] → HeldBy before nothing_in_hand old → HeldBy before nothing_in_hand new
  none_handed_out k old new is none = handed_out nothing_in_hand k old new is (sym none) (λ j other. refl)

  pub one_handed_out : (k : ℕ) (piece : CutPiece) (old new : Board) → Happens (gives k) old new → next_pieces (connection_at old k) ≡ piece ∷ [] → HeldBy before nothing_in_hand old → HeldBy before (one_in_hand k piece) new
  one_handed_out k piece old new is next = handed_out (one_in_hand k piece) k old new is (here_in_hand k piece ∙ sym next) (λ j other. none_in_hand k j piece other)

  -- garbled bytes ask for nothing
  pub garbled_out : (k size : ℕ) (board : Board) → HeldBy before (one_in_hand k (garbled size)) board → HeldBy before nothing_in_hand board
  garbled_out k size board was = (
    was.0,
    λ j within dialled. elim (same_or_other j k) [
      | inl e ↦ subst (λ n. IsDialledSo board (connection_at board n) []) (sym e)
          (garbled_so board (connection_at board k) size (subst (IsDialledSo board (connection_at board k)) (here_in_hand k (garbled size))
          (was.1 k (subst (λ n. n < length board.connections) e within) (subst (λ n. (connection_at board n).dialled ≡ true) e dialled))))
      | inr other ↦ subst (IsDialledSo board (connection_at board j)) (none_in_hand k j (garbled size) other) (was.1 j within dialled)
    ],
  )

  -- a connection that names no session wasn't dialled
  pub unnamed_out : (k : ℕ) (piece : CutPiece) (board : Board) → (connection_at board k).session ≡ None → HeldBy before (one_in_hand k piece) board → HeldBy before nothing_in_hand board
  unnamed_out k piece board none was = (
    was.0,
    λ j within dialled. elim (same_or_other j k) [
      | inl e ↦ (
          let of = was.1 k (subst (λ n. n < length board.connections) e within) (subst (λ n. (connection_at board n).dialled ≡ true) e dialled) in
          let clash : None ≡ Some of.session = sym none ∙ of.names in
          absurd (cc))
      | inr other ↦ subst (IsDialledSo board (connection_at board j)) (none_in_hand k j piece other) (was.1 j within dialled)
    ],
  )

  -- a connection comes
  pub accepted : (number at : ℕ) (old new : Board) → Happens (accepts number at) old new → HeldBy before nothing_in_hand old → HeldBy before nothing_in_hand new
  accepted number at old new is was =
      let more = ap (λ (b : Board). b.connections) is.connection in
      let goes = g.goes_on (accepts number at) old new is in (
        g.ready (accepts number at) old new is was.0,
        λ k within dialled. elim (below_or_not k (length old.connections)) [
          | inl small ↦ (
              let lasts = line_more _ old new more k small in
              let of = was.1 k small (sym lasts.dialled ∙ dialled) in
              so_on [] old new (connection_at old k) (connection_at new k) goes lasts of (λ stands. ap (λ (b : Board). (book_at b of.session).machine.phase) is.connection))
          | inr least ↦ (
              let here : k ≡ length old.connections = last_is before k _ old new more least within in
              let last = ap (λ (c : ConnectionState). c.dialled) (last_at before _ old new more) in
              let clash : false ≡ true = sym last ∙ subst (λ n. (connection_at new n).dialled ≡ true) here dialled in
              absurd (cc))
        ],
      )

  pub dialled_one : (s number at : ℕ) (old new : Board) → Happens (dials s number at) old new → HeldBy before nothing_in_hand old → HeldBy before nothing_in_hand new
  dialled_one s number at old new is was =
      let goes = g.goes_on (dials s number at) old new is in
      let book = book_at old s in
      let off : book.machine.phase ≡ Off = (was.0.books s is.within).is_book.off is.free in
      let phase : (book_at new s).machine.phase ≡ (after_ask book.machine at).phase = ap (λ (d : Desk). d.book.machine.phase) is.desk ∙ dial_phase at number (with_outbox book no_outgoing) in
      let asks = asks_by book.machine at book.machine.dials refl off (λ none. is.on (phase ∙ none)) in (
        g.ready (dials s number at) old new is was.0,
        λ k within dialled. elim (below_or_not k (length old.connections)) [
          | inl small ↦ (
              let lasts = line_more _ old new is.connection k small in
              let of = was.1 k small (sym lasts.dialled ∙ dialled) in
              so_on [] old new (connection_at old k) (connection_at new k) goes lasts of
              (λ stands. elim (same_or_other of.session s) [
                | inl e ↦ absurd (none_names before g.same old k s was.0 small (of.names ∙ ap Some e) (lasts.stands stands) is.free)
                | inr other ↦ other_phase s of.session _ old new is.sessions other
              ]))
          | inr least ↦ subst (λ n. IsDialledSo new (connection_at new n) []) (sym (last_is before k _ old new is.connection least within))
              (subst (λ c. IsDialledSo new c []) (sym (last_at before _ old new is.connection)) (record {
                session = s;
                names = refl;
                heart = asks.heart;
                dials = (goes.same s).dials ∙ asks.dials;
                pieces = [];
                given = record { so_far = record { so_far = refl }; counted = refl };
                answered = refl;
                waits = λ unanswered stands. (refl, phase ∙ asks.phase);
              }))
        ],
      )
