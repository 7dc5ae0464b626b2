-- Each happening, and each list of those aside, is accounted for.
use Rattle.std.proofs.Common.{◌≡◌, ◌≢◌, inl, inr, ℕ, ◌<◌, ◌≤◌, List, [], ◌∷◌, ◌++◌, drop, length, take, get_or, true, false, ◌-◌, Option, None, Some, refl, sym, ap, subst, ◌∙◌, arith}
use Rattle.std.proofs.lemmas.Bool.{cases_eq as same_or_other}
use Rattle.std.specs.Option.{option_map_or}
use Rattle.std.proofs.Math.Seq.{get_or-append_seam}
use Rattle.std.proofs.lemmas.List.{get_or-set_same, length_push}
use Rattle.std.proofs.lemmas.List.Elements.{All-head, All-tail}
use Rattle.std.specs.List.{All}
use Rattle.connection_core.specs.Connection.{ConnectionState, after_next, fresh, fresh_dial, held_behind}
use Rattle.fix_frame.specs.Cut.{Found, cut, cut_behind, onto, piece_at}
use Rattle.fix_frame.specs.declared.layout.TheConstants.{LONGEST_FRAME}
use Rattle.lease_core.specs.declared.entry.Entry.{Entry}
use Rattle.session_core.specs.State.{State}
use Rattle.session_core.specs.declared.causes.Cause.{Cause}
use Rattle.engine_laws.specs.Account.{IsAccountedFor, IsAside, IsHandledTo, KeepsAccount, Progress, StandsOrNamesSession, StaysAccountedFor, all_done, cutting, done, handling, in_hand_at, only}
use Rattle.engine_laws.proofs.Connections.{connections_on, none_handled}
use Rattle.engine_laws.proofs.Changed.{changed_here, changed_there, only_here, only_there}
use Rattle.engine_laws.proofs.Standing.{Follows, LeavesBytes, does_neither, follows, named, none_is, plugged, stood_or_named}
use Rattle.switchboard.specs.Board.{Board, book_at, connection_at, no_connection}
use Rattle.switchboard.specs.Brought.{Brought, IsBrought, IsInHand, TakesWhatIsInHand, brought_after, good_bodies, nothing_brought, with_first_handled, with_pieces}
use Rattle.switchboard.specs.Going.{GoesOnTo, KeepsBytes, is_coming, is_quiet}
use Rattle.switchboard.specs.Happenings.{Happening, Happens, Reaches, accepts, binds, binds_and_ends, dials, ends_unbound, gives, next_pieces, piece_list, receives, shows, takes, ticks, times_out}
use Rattle.switchboard.specs.Ready.{IsFirst, IsReady}
use Rattle.switchboard.specs.Told.{History, IsTold, changed_at, history_after, machines_of, moment_after, no_history}

-- what is known of a board of a happening
pub record BoardLaws : Type 0 where
  pub ready : (before : ℕ → List Entry) (happening : Happening) (old new : Board) → Happens happening old new → IsReady before old → IsReady before new
  pub count : (happening : Happening) (old new : Board) → is_coming happening ≡ false → Happens happening old new → length new.connections ≡ length old.connections
  pub goes_on : (happening : Happening) (old new : Board) → Happens happening old new → GoesOnTo old new
  pub quiet : (before : ℕ → List Entry) (happening : Happening) (old new : Board) → is_quiet happening ≡ true → Happens happening old new → IsReady before old → (k : ℕ) → k < length old.connections
      → KeepsBytes (connection_at old k) (connection_at new k)
  pub told : (before : ℕ → List Entry) (start : ℕ → State) (happening : Happening) (history : History) (moment : ℕ) (old new : Board) → Happens happening old new → IsReady before old
      → moment ≤ moment_after happening moment → IsTold before start history moment old → IsTold before start (history_after happening old history) (moment_after happening moment) new
  pub brought : (before : ℕ → List Entry) (happening : Happening) (history : History) (brought : ℕ → Brought) (old new : Board) → Happens happening old new → IsReady before old
      → TakesWhatIsInHand happening brought → IsBrought history brought old → IsBrought (history_after happening old history) (brought_after happening old brought) new

-- it happens at this moment, or has none
abbrev IsTimed : ℕ → Happening → Type 0
IsTimed at happening = (moment : ℕ) → moment ≤ at → (moment ≤ moment_after happening moment) × (moment_after happening moment ≤ at)

-- nothing is handled or brought by it, and no connection and no bytes come
record ChangesNone (at : ℕ) (happening : Happening) : Type 0 where
  timed : IsTimed at happening
  allowed : (brought : ℕ → Brought) → TakesWhatIsInHand happening brought
  brings : (old : Board) (brought : ℕ → Brought) (k : ℕ) → brought_after happening old brought k ≡ brought k
  comes : is_coming happening ≡ false
  bytes : (k : ℕ) → LeavesBytes happening k

at_once : (at now moment : ℕ) → now ≡ at → moment ≤ at → (moment ≤ now) × (now ≤ at)
at_once at now moment same within = (omega arith, omega arith)

aside_changes_none : (at : ℕ) (happening : Happening) → IsAside at happening → ChangesNone at happening
aside_changes_none at (accepts number now) is = absurd is
aside_changes_none at (dials s number now) is = absurd is
aside_changes_none at (takes k bytes) is = absurd is
aside_changes_none at (gives k) is = absurd is
aside_changes_none at (binds s k body now) is = absurd is
aside_changes_none at (binds_and_ends s k body now cause) is = absurd is
aside_changes_none at (receives s k body now) is = absurd is
aside_changes_none at (ticks s now) is = record { timed = λ moment within. at_once at now moment is within; allowed = λ brought. tt; brings = λ old brought k. refl; comes = refl; bytes = λ k. tt }
aside_changes_none at (shows s w bodies now until) is = record { timed = λ moment within. at_once at now moment is within; allowed = λ brought. tt; brings = λ old brought k. refl; comes = refl; bytes = λ k. tt }
aside_changes_none at (times_out s w bodies now until) is = record { timed = λ moment within. at_once at now moment is within; allowed = λ brought. tt; brings = λ old brought k. refl; comes = refl; bytes = λ k. tt }
aside_changes_none at other is = record { timed = λ moment within. (omega arith, within); allowed = λ brought. tt; brings = λ old brought k. refl; comes = refl; bytes = λ k. tt }

-- the connections have come so far
abbrev AreHandledTo : (ℕ → Progress) → (ℕ → Brought) → Board → Type 0
AreHandledTo progress brought board = (k : ℕ) → k < length board.connections → IsHandledTo (progress k) (connection_at board k) (brought k)

-- a connection goes on, and nothing is brought of it
goes_on_so_far : (progress : Progress) (old new : ConnectionState) (brought : Brought) → Follows old new → IsHandledTo progress old brought → IsHandledTo progress new brought
goes_on_so_far progress old new brought follows so_far = record {
  in_hand = λ does. so_far.in_hand (follows.does does);
  few = so_far.few;
  whole = λ all stands. ap (λ bytes. (cut LONGEST_FRAME bytes).pieces) follows.held ∙ so_far.whole all (follows.stands stands);
}

-- one that isn't done may hold pieces
done_cutting : done ≡ cutting → ⊥
done_cutting same = (cc)

done_handling : (body : List ℕ) → done ≡ handling body → ⊥
done_handling body same = (cc)

-- a message is in hand where a good piece was handed out; there is at most one in a piece
few_in_hand : (progress : Progress) → length (in_hand_at progress) ≤ 1
few_in_hand done = omega arith
few_in_hand cutting = omega arith
few_in_hand (handling body) = omega arith

-- just this is in hand
exactly : (progress : Progress) (connection : ConnectionState) (brought : Brought) → brought.in_hand ≡ in_hand_at progress → (progress ≡ done → connection.cause ≡ None → (cut LONGEST_FRAME connection.held).pieces ≡ [])
    → IsHandledTo progress connection brought
exactly progress connection brought are whole = record { in_hand = λ does. are; few = subst (λ bodies. length bodies ≤ 1) (sym are) (few_in_hand progress); whole = whole }

-- where there is no next piece none is held
none_found : (found : Option Found) → piece_list found ≡ [] → found ≡ None
none_found None none = refl
none_found (Some found) none = absurd (cc)

none_held : (held : List ℕ) → piece_list (piece_at LONGEST_FRAME held) ≡ [] → (cut LONGEST_FRAME held).pieces ≡ []
none_held [] none = refl
none_held (b ∷ bytes) none =
    ap (λ found. (option_map_or (λ (f : Found). onto f.piece (cut_behind LONGEST_FRAME (f.size - 1) bytes)) found (record { pieces = []; rest = b ∷ bytes })).pieces) (none_found (piece_at LONGEST_FRAME (b ∷ bytes)) none)

pub first_accounted : ((before : ℕ → List Entry) (moment : ℕ) (board : Board) → IsFirst before board → ((s : ℕ) → s < length board.sessions → (book_at board s).machine.sent ≤ moment)
    → IsTold before (machines_of board) no_history moment board)
    → ((before : ℕ → List Entry) (board : Board) → IsFirst before board → IsBrought no_history (λ k. nothing_brought) board)
    → (before : ℕ → List Entry) (at : ℕ) (board : Board) → IsFirst before board → ((s : ℕ) → s < length board.sessions → (book_at board s).machine.sent ≤ at) → IsAccountedFor before (machines_of board) at board
first_accounted told brought before at board is sent = record {
  history = no_history;
  brought = λ k. nothing_brought;
  moment = at;
  past = omega arith;
  told = told before at board is sent;
  given = brought before board is;
  connections = none_handled board;
  handled = λ k within. absurd (let count : length board.connections ≡ 0 = ap length is.connections in omega arith);
}

-- time goes by
pub nothing_happens : (progress : ℕ → Progress) (at : ℕ) (board : Board) → KeepsAccount progress progress at board board
nothing_happens progress at board = record {
  ready = λ before ready. ready;
  account = λ before start moment within ready a. record {
    history = a.history;
    brought = a.brought;
    moment = a.moment;
    past = (let past = a.past in omega arith);
    told = a.told;
    given = a.given;
    connections = a.connections;
    handled = a.handled;
  };
}

pub one_behind_another : (one two three : ℕ → Progress) (at : ℕ) (first second third : Board) → KeepsAccount one two at first second → KeepsAccount two three at second third → KeepsAccount one three at first third
one_behind_another one two three at first second third keeps then_keeps = record {
  ready = λ before ready. then_keeps.ready before (keeps.ready before ready);
  account = λ before start moment within ready a.
      then_keeps.account before start at (omega arith) (keeps.ready before ready) (keeps.account before start moment within ready a);
}

module _ (g : BoardLaws) where
  -- one thing happens
  step : (progress left : ℕ → Progress) (at : ℕ) (happening : Happening) (old new : Board) → Happens happening old new → IsTimed at happening
      → ((before : ℕ → List Entry) (brought : ℕ → Brought) → IsReady before old → AreHandledTo progress brought old → TakesWhatIsInHand happening brought × AreHandledTo left (brought_after happening old brought) new)
      → KeepsAccount progress left at old new
  step progress left at happening old new is timed hands = record {
    ready = λ before ready. g.ready before happening old new is ready;
    account = λ before start moment within ready a.
        let past = a.past in
        let time = timed a.moment (omega arith) in
        let hand = hands before a.brought ready a.handled in
        record {
          history = history_after happening old a.history;
          brought = brought_after happening old a.brought;
          moment = moment_after happening a.moment;
          past = time.1;
          told = g.told before start happening a.history a.moment old new is ready time.0 a.told;
          given = g.brought before happening a.history a.brought old new is ready hand.0 a.given;
          connections = connections_on before happening a.history old new is (g.goes_on happening old new is) ready a.connections;
          handled = hand.1;
        };
  }

  -- a connection was there before, where none comes
  was_there : (happening : Happening) (old new : Board) → Happens happening old new → is_coming happening ≡ false → (k : ℕ) → k < length new.connections → k < length old.connections
  was_there happening old new is none k within = subst (λ n. k < n) (g.count happening old new none is) within

  follows_on : (before : ℕ → List Entry) (happening : Happening) (old new : Board) → Happens happening old new → IsReady before old → (k : ℕ) → k < length old.connections → LeavesBytes happening k
      → Follows (connection_at old k) (connection_at new k)
  follows_on = follows g.goes_on g.quiet

  aside_one : (progress : ℕ → Progress) (at : ℕ) (happening : Happening) (old new : Board) → IsAside at happening → Happens happening old new → KeepsAccount progress progress at old new
  aside_one progress at happening old new aside is =
      let none = aside_changes_none at happening aside in
      step progress progress at happening old new is none.timed
      (λ before brought ready so_far. (
        none.allowed brought,
        λ k within.
            let small = was_there happening old new is none.comes k within in
            subst (λ b. IsHandledTo (progress k) (connection_at new k) b) (sym (none.brings old brought k))
            (goes_on_so_far (progress k) (connection_at old k) (connection_at new k) (brought k) (follows_on before happening old new is ready k small (none.bytes k)) (so_far k small)),
      ))

  pub aside_all : (progress : ℕ → Progress) (at : ℕ) (happenings : List Happening) (old new : Board) → All (IsAside at) happenings → Reaches happenings old new → KeepsAccount progress progress at old new
  aside_all progress at [] old new all reached = subst (λ board. KeepsAccount progress progress at old board) (sym reached) (nothing_happens progress at old)
  aside_all progress at (happening ∷ happenings) old new all reached =
      one_behind_another progress progress progress at old reached.0 new
      (aside_one progress at happening old reached.0 (All-head (IsAside at) happening happenings all) reached.1.0)
      (aside_all progress at happenings reached.0 new (All-tail (IsAside at) happening happenings all) reached.1.1)

  -- a connection comes, of which nothing came
  comes : (at : ℕ) (happening : Happening) (c : ConnectionState) (old new : Board) → Happens happening old new → IsTimed at happening → ((brought : ℕ → Brought) → TakesWhatIsInHand happening brought)
      → ((brought : ℕ → Brought) (k : ℕ) → brought_after happening old brought k ≡ changed_at (length old.connections) (λ none. nothing_brought) brought k) → ((k : ℕ) → LeavesBytes happening k)
      → new.connections ≡ old.connections ++ c ∷ [] → c.held ≡ [] → StaysAccountedFor at old new
  comes at happening c old new is timed allowed brings bytes more none =
      step all_done all_done at happening old new is timed
      (λ before brought ready so_far. (
        allowed brought,
        λ k within.
            let last = length old.connections in
            let more_brought = changed_at last (λ none. nothing_brought) brought in
            let count : length new.connections ≡ length (old.connections ++ c ∷ []) = ap length more in
            let held : (connection_at new last).held ≡ [] =
            ap (λ cs. (get_or cs last no_connection).held) more ∙ ap (λ (x : ConnectionState). x.held) (get_or-append_seam old.connections c [] no_connection) ∙ none in
            subst (λ b. IsHandledTo done (connection_at new k) b) (sym (brings brought k))
            (elim (same_or_other k last) [
              | inl e ↦ subst (λ n. IsHandledTo done (connection_at new n) (more_brought n)) (sym e)
                  (exactly done (connection_at new last) (more_brought last) (ap (λ (b : Brought). b.in_hand) (changed_here last (λ none. nothing_brought) brought))
                  (λ all stands. ap (λ bytes. (cut LONGEST_FRAME bytes).pieces) held))
              | inr other ↦ (
                  let small : k < length old.connections = omega (arith, length_push old.connections c) in
                  subst (λ b. IsHandledTo done (connection_at new k) b) (sym (changed_there last (λ none. nothing_brought) brought k other))
                  (goes_on_so_far done (connection_at old k) (connection_at new k) (brought k) (follows_on before happening old new is ready k small (bytes k)) (so_far k small)))
            ]),
      ))

  pub accepted : (number at : ℕ) (old new : Board) → Happens (accepts number at) old new → StaysAccountedFor at old new
  accepted number at old new is =
      comes at (accepts number at) (fresh number at (connection_at new (length old.connections)).out) old new is (λ moment within. at_once at at moment refl within) (λ brought. tt) (λ brought k. refl) (λ k. tt)
      (ap (λ (b : Board). b.connections) is.connection) refl

  pub dialled : (s number at : ℕ) (old new : Board) → Happens (dials s number at) old new → StaysAccountedFor at old new
  dialled s number at old new is =
      comes at (dials s number at) (fresh_dial number at s (connection_at new (length old.connections)).out) old new is (λ moment within. at_once at at moment refl within) (λ brought. tt) (λ brought k. refl)
      (λ k. tt) is.connection refl

  -- of the other connections all was done, and is
  others_done : (k : ℕ) (progress : Progress) (before : ℕ → List Entry) (happening : Happening) (old new : Board) → Happens happening old new → IsReady before old → is_coming happening ≡ false
      → (brought : ℕ → Brought) → AreHandledTo (only k progress) brought old → (j : ℕ) → j ≢ k → LeavesBytes happening j → j < length new.connections → IsHandledTo done (connection_at new j) (brought j)
  others_done k progress before happening old new is ready none brought so_far j other bytes within =
      let small = was_there happening old new is none j within in
      goes_on_so_far done (connection_at old j) (connection_at new j) (brought j) (follows_on before happening old new is ready j small bytes)
      (subst (λ p. IsHandledTo p (connection_at old j) (brought j)) (only_there k progress j other) (so_far j small))

  -- bytes come
  pub took : (k : ℕ) (bytes : List ℕ) (at : ℕ) (old new : Board) → Happens (takes k bytes) old new → KeepsAccount all_done (only k cutting) at old new
  took k bytes at old new is =
      step all_done (only k cutting) at (takes k bytes) old new is (λ moment within. (omega arith, within))
      (λ before brought ready so_far. (
        tt,
        λ j within.
            let small = was_there (takes k bytes) old new is refl j within in
            elim (same_or_other j k) [
              | inl e ↦ subst (λ p. IsHandledTo p (connection_at new j) (brought j)) (sym (ap (λ n. only k cutting n) e ∙ only_here k cutting))
                  (record {
                    in_hand = λ does. (so_far j small).in_hand (stood_or_named before (takes k bytes) old new is ready j small does);
                    few = (so_far j small).few;
                    whole = λ same. absurd (done_cutting (sym same));
                  })
              | inr other ↦ subst (λ p. IsHandledTo p (connection_at new j) (brought j)) (sym (only_there k cutting j other))
                  (goes_on_so_far done (connection_at old j) (connection_at new j) (brought j) (follows_on before (takes k bytes) old new is ready j small other) (so_far j small))
            ],
      ))

  -- the next piece is handed out
  given : (k at : ℕ) (progress : Progress) (left : ℕ → Progress) (old new : Board) → Happens (gives k) old new → left k ≡ progress → ((j : ℕ) → j ≢ k → left j ≡ done)
      → good_bodies (next_pieces (connection_at old k)) ≡ in_hand_at progress → (progress ≡ done → (cut LONGEST_FRAME (connection_at new k).held).pieces ≡ []) → KeepsAccount (only k cutting) left at old new
  given k at progress left old new is here there bodies whole =
      let next = next_pieces (connection_at old k) in
      step (only k cutting) left at (gives k) old new is (λ moment within. (omega arith, within))
      (λ before brought ready so_far. (
        tt,
        λ j within.
            let more_brought = changed_at k (with_pieces next) brought in
            let none : (brought k).in_hand ≡ [] = (so_far k is.changes.within).in_hand (inl (none_is _ is.stands)) ∙ ap in_hand_at (only_here k cutting) in
            let now : (more_brought k).in_hand ≡ in_hand_at progress =
            ap (λ (b : Brought). b.in_hand) (changed_here k (with_pieces next) brought) ∙ ap (λ in_hand. in_hand ++ good_bodies next) none ∙ bodies in
            elim (same_or_other j k) [
              | inl e ↦ subst (λ n. IsHandledTo (left n) (connection_at new n) (more_brought n)) (sym e)
                  (subst (λ p. IsHandledTo p (connection_at new k) (more_brought k)) (sym here) (exactly progress (connection_at new k) (more_brought k) now (λ same stands. whole same)))
              | inr other ↦ subst (λ b. IsHandledTo (left j) (connection_at new j) b) (sym (changed_there k (with_pieces next) brought j other))
                  (subst (λ p. IsHandledTo p (connection_at new j) (brought j)) (sym (there j other)) (others_done k cutting before (gives k) old new is ready refl brought so_far j other other within))
            ],
      ))

  pub given_none : (k at : ℕ) (old new : Board) → Happens (gives k) old new → good_bodies (next_pieces (connection_at old k)) ≡ [] → KeepsAccount (only k cutting) (only k cutting) at old new
  given_none k at old new is none = given k at cutting (only k cutting) old new is (only_here k cutting) (only_there k cutting) none (λ same. absurd (done_cutting (sym same)))

  pub given_one : (k at : ℕ) (body : List ℕ) (old new : Board) → Happens (gives k) old new → good_bodies (next_pieces (connection_at old k)) ≡ body ∷ [] → KeepsAccount (only k cutting) (only k (handling body)) at old new
  given_one k at body old new is one =
      given k at (handling body) (only k (handling body)) old new is (only_here k (handling body)) (only_there k (handling body)) one (λ same. absurd (done_handling body (sym same)))

  pub given_last : (k at : ℕ) (old new : Board) → Happens (gives k) old new → next_pieces (connection_at old k) ≡ [] → KeepsAccount (only k cutting) all_done at old new
  given_last k at old new is none =
      let c = connection_at old k in
      let becomes : connection_at new k ≡ after_next c =
      ap (λ (b : Board). get_or b.connections k no_connection) is.changes.others ∙ get_or-set_same old.connections k (after_next c) no_connection is.changes.within in
      let held : (connection_at new k).held ≡ c.held =
      ap (λ (x : ConnectionState). x.held) becomes ∙ ap (λ found. held_behind found c.held) (none_found (piece_at LONGEST_FRAME c.held) none) in
      given k at done all_done old new is refl (λ j other. refl) (ap good_bodies none) (λ same. ap (λ bytes. (cut LONGEST_FRAME bytes).pieces) held ∙ none_held c.held none)

  -- the message in hand is handled
  handled : (k : ℕ) (body : List ℕ) (at : ℕ) (happening : Happening) (old new : Board) → Happens happening old new → IsTimed at happening → is_coming happening ≡ false
      → ((brought : ℕ → Brought) → IsInHand body (brought k) → TakesWhatIsInHand happening brought)
      → ((brought : ℕ → Brought) (j : ℕ) → brought_after happening old brought j ≡ changed_at k (with_first_handled body) brought j) → ((j : ℕ) → LeavesBytes happening j)
      → ((before : ℕ → List Entry) → IsReady before old → (k < length old.connections) × StandsOrNamesSession (connection_at old k)) → KeepsAccount (only k (handling body)) (only k cutting) at old new
  handled k body at happening old new is timed none allowed brings bytes there =
      step (only k (handling body)) (only k cutting) at happening old new is timed
      (λ before brought ready so_far.
      let here = there before ready in
      let first : (brought k).in_hand ≡ body ∷ [] = (so_far k here.0).in_hand here.1 ∙ ap in_hand_at (only_here k (handling body)) in (
        allowed brought (ap (λ bodies. take 1 bodies) first),
        λ j within.
            let more_brought = changed_at k (with_first_handled body) brought in
            let left : (more_brought k).in_hand ≡ [] = ap (λ (b : Brought). b.in_hand) (changed_here k (with_first_handled body) brought) ∙ ap (λ bodies. drop 1 bodies) first in
            subst (λ b. IsHandledTo (only k cutting j) (connection_at new j) b) (sym (brings brought j))
            (elim (same_or_other j k) [
              | inl e ↦ subst (λ n. IsHandledTo (only k cutting n) (connection_at new n) (more_brought n)) (sym e)
                  (subst (λ p. IsHandledTo p (connection_at new k) (more_brought k)) (sym (only_here k cutting))
                  (exactly cutting (connection_at new k) (more_brought k) left (λ same. absurd (done_cutting (sym same)))))
              | inr other ↦ subst (λ b. IsHandledTo (only k cutting j) (connection_at new j) b) (sym (changed_there k (with_first_handled body) brought j other))
                  (subst (λ p. IsHandledTo p (connection_at new j) (brought j)) (sym (only_there k cutting j other))
                  (others_done k (handling body) before happening old new is ready none brought so_far j other (bytes j) within))
            ]),
      ))

  pub received : (s k : ℕ) (body : List ℕ) (at : ℕ) (old new : Board) → Happens (receives s k body at) old new → KeepsAccount (only k (handling body)) (only k cutting) at old new
  received s k body at old new is =
      handled k body at (receives s k body at) old new is (λ moment within. at_once at at moment refl within) refl (λ brought first. first) (λ brought j. refl) (λ j. tt)
      (λ before ready. ((plugged before s k old ready is.goes_on.within is.placed).within, inr (named before s k old ready is.goes_on.within is.placed)))

  pub bound : (s k : ℕ) (body : List ℕ) (at : ℕ) (old new : Board) → Happens (binds s k body at) old new → KeepsAccount (only k (handling body)) (only k cutting) at old new
  bound s k body at old new is =
      handled k body at (binds s k body at) old new is (λ moment within. at_once at at moment refl within) refl (λ brought first. first) (λ brought j. refl) (λ j. tt)
      (λ before ready. (is.binding.connection_within, inl (none_is _ is.binding.stands)))

  pub bound_and_ended : (s k : ℕ) (body : List ℕ) (at : ℕ) (cause : Cause) (old new : Board) → Happens (binds_and_ends s k body at cause) old new
      → KeepsAccount (only k (handling body)) (only k cutting) at old new
  bound_and_ended s k body at cause old new is =
      handled k body at (binds_and_ends s k body at cause) old new is (λ moment within. at_once at at moment refl within) refl (λ brought first. first) (λ brought j. refl) (λ j. tt)
      (λ before ready. (is.binding.connection_within, inl (none_is _ is.binding.stands)))

  -- or it is refused
  pub refused : (k : ℕ) (body : List ℕ) (at : ℕ) (cause : Cause) (old new : Board) → Happens (ends_unbound k cause) old new → KeepsAccount (only k (handling body)) (only k cutting) at old new
  refused k body at cause old new is =
      step (only k (handling body)) (only k cutting) at (ends_unbound k cause) old new is (λ moment within. (omega arith, within))
      (λ before brought ready so_far. (
        tt,
        λ j within. elim (same_or_other j k) [
          | inl e ↦ subst (λ p. IsHandledTo p (connection_at new j) (brought j)) (sym (ap (λ n. only k cutting n) e ∙ only_here k cutting))
              (record {
                in_hand = λ does. absurd (does_neither k cause old new is (subst (λ n. StandsOrNamesSession (connection_at new n)) e does));
                few = (so_far j (was_there (ends_unbound k cause) old new is refl j within)).few;
                whole = λ same. absurd (done_cutting (sym same));
              })
          | inr other ↦ subst (λ p. IsHandledTo p (connection_at new j) (brought j)) (sym (only_there k cutting j other))
              (others_done k (handling body) before (ends_unbound k cause) old new is ready refl brought so_far j other tt within)
        ],
      ))

-- one that has ended holds pieces that none wants
pub stopped : (k at : ℕ) (board : Board) → (connection_at board k).cause ≢ None → KeepsAccount (only k cutting) all_done at board board
stopped k at board ended = record {
  ready = λ before ready. ready;
  account = λ before start moment within ready a. record {
    history = a.history;
    brought = a.brought;
    moment = a.moment;
    past = (let past = a.past in omega arith);
    told = a.told;
    given = a.given;
    connections = a.connections;
    handled = λ j small. elim (same_or_other j k) [
      | inl e ↦ (
          let so_far = a.handled j small in
          record {
            in_hand = λ does. so_far.in_hand does ∙ ap in_hand_at (ap (λ n. only k cutting n) e ∙ only_here k cutting);
            few = so_far.few;
            whole = λ same stands. absurd (ended (ap (λ n. (connection_at board n).cause) (sym e) ∙ stands));
          })
      | inr other ↦ subst (λ p. IsHandledTo p (connection_at board j) (a.brought j)) (only_there k cutting j other) (a.handled j small)
    ];
  };
}
