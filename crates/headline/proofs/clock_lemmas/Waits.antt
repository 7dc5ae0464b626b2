-- While a session is bound it waits as long as the messages tell that came on its connection.
use Rattle.std.proofs.Common.{◌≡◌, ℕ, ◌<◌, List, [], ◌∷◌, ◌++◌, length, Option, None, Some, refl, sym, ap, subst, ◌∙◌}
use Rattle.std.specs.List.{list_any}
use Rattle.headline.proofs.clock_lemmas.Opened.{AreOpened, HasOpened, bodies_append}
use Rattle.headline.proofs.clock_lemmas.Phases.{dialled_behind, same_within, wait_asked, wait_in}
use Rattle.headline.specs.clock.Waited.{answers_logon, messages_of, wait_by, wait_with}
use Rattle.connection_core.specs.Connection.{ConnectionState, IsGiven}
use Rattle.engine_laws.specs.Account.{IsAccountedFor}
use Rattle.fix_frame.specs.Cut.{Cut, CutPiece, cut}
use Rattle.fix_frame.specs.declared.layout.TheConstants.{LONGEST_FRAME}
use Rattle.lease_core.specs.declared.entry.Entry.{Entry}
use Rattle.session_book.specs.Runs.{Handled, IsWithin, StandsBehind, bodies_of, handled_of}
use Rattle.session_core.specs.Ask.{after_ask}
use Rattle.session_core.specs.Runs.{after_connections, behind_all}
use Rattle.session_core.specs.State.{State}
use Rattle.switchboard.specs.Board.{Board, book_at, connection_at, place_at}
use Rattle.switchboard.specs.Brought.{HasHandled, good_bodies}
use Rattle.switchboard.specs.Ready.{IsReady}
use Rattle.switchboard.specs.Sound.{IsPlaced, IsPlugged, bound_of}

-- the last of some, or what stands for it where there is none
abbrev last_or : {T : Type 0} → T → List T → T
last_or d [] = d
last_or d (x ∷ xs) = last_or x xs

last_is : {T : Type 0} (d : T) (xs : List T) (x : T) → last_or d (xs ++ x ∷ []) ≡ x
last_is d [] x = refl
last_is d (y ∷ xs) x = last_is y xs x

same_last : {T : Type 0} (xs ys : List T) (x y : T) → xs ++ x ∷ [] ≡ ys ++ y ∷ [] → x ≡ y
same_last xs ys x y e = sym (last_is x xs x) ∙ ap (λ l. last_or x l) e ∙ last_is x ys y

-- what was handed out begins the messages of all that came
messages_begin : (c : ConnectionState) (pieces : List CutPiece) → IsGiven c pieces → messages_of c.taken ≡ good_bodies pieces ++ good_bodies (cut LONGEST_FRAME c.held).pieces
messages_begin c pieces given = ap (λ (all : Cut). good_bodies all.pieces) given.so_far.so_far ∙ bodies_append pieces (cut LONGEST_FRAME c.held).pieces

first_waits : (start : State) (machine : State) (c : ConnectionState) → start.dials ≡ None → HasOpened machine c → wait_in machine.phase ≡ wait_with start.names start.dials (messages_of c.taken)
first_waits start machine c accepts opened =
    let all : messages_of c.taken ≡ opened.body ∷ (opened.rest ++ good_bodies (cut LONGEST_FRAME c.held).pieces) =
    messages_begin c opened.pieces opened.given ∙ ap (λ bodies. bodies ++ good_bodies (cut LONGEST_FRAME c.held).pieces) opened.good in
    ap wait_in opened.on ∙ sym (ap (wait_with start.names None) all) ∙ ap (λ dials. wait_with start.names dials (messages_of c.taken)) (sym accepts)

asked_waits : (start machine : State) (heart : ℕ) (past : List (List (List ℕ))) (bodies messages : List (List ℕ)) → start.dials ≡ Some heart → bodies ≡ messages
    → machine.phase ≡ (behind_all (after_ask (after_connections start past) 0) bodies).phase → wait_in machine.phase ≡ wait_with start.names start.dials messages
asked_waits start machine heart past bodies messages dials same phase =
    ap wait_in (phase ∙ dialled_behind start past bodies heart dials) ∙ wait_asked heart (list_any (answers_logon start.names heart) bodies)
    ∙ ap (wait_with start.names (Some heart)) same ∙ ap (λ d. wait_with start.names d messages) (sym dials)

module _ (before : ℕ → List Entry) (start : ℕ → State) (at : ℕ) (board : Board) (ready : IsReady before board) (account : IsAccountedFor before start at board) (opened : AreOpened board)
    (stands : (k : ℕ) → k < length board.connections → (connection_at board k).cause ≡ None → (account.brought k).pieces ≡ (cut LONGEST_FRAME (connection_at board k).taken).pieces)
    (named : (k s : ℕ) → k < length board.connections → (connection_at board k).session ≡ Some s
    → HasHandled (bound_of (book_at board s)) (connection_at board k).number (good_bodies (account.brought k).pieces) (account.history.handled s)) where
  pub plugged : (s k : ℕ) → s < length board.sessions → place_at board s ≡ Some k → IsPlugged board s k
  plugged s k within placed = subst (IsPlaced board s) placed (ready.sound.placed s within)

  bound_within : (s k : ℕ) → s < length board.sessions → place_at board s ≡ Some k → IsWithin (start s) (account.history.handled s) (connection_at board k).number (book_at board s).machine
  bound_within s k within placed =
      subst (λ b. StandsBehind b (start s) (account.history.handled s) (book_at board s).machine) (plugged s k within placed).bound (account.told.runs s within).run.machine

  -- what was handled last is what came on the connection
  handled_last : (s k : ℕ) (within : s < length board.sessions) (placed : place_at board s ≡ Some k) → (bound_within s k within placed).bodies ≡ messages_of (connection_at board k).taken
  handled_last s k within placed =
      let plug = plugged s k within placed in
      let last = bound_within s k within placed in
      let has = named k s plug.within plug.names in
      let c = (connection_at board k).number in
      let bodies = good_bodies (account.brought k).pieces in
      let same : last.past ++ handled_of c last.bodies ∷ [] ≡ has.past ++ handled_of c bodies ∷ [] =
      sym last.are ∙ has.are ∙ ap (λ (later : List Handled). has.past ++ (handled_of c bodies ∷ later)) (has.stands plug.bound) in
      ap (λ (h : Handled). h.bodies) (same_last last.past has.past (handled_of c last.bodies) (handled_of c bodies) same) ∙ ap good_bodies (stands k plug.within plug.stands)

  waits_with : (s k : ℕ) (dials : Option ℕ) → s < length board.sessions → place_at board s ≡ Some k → (start s).dials ≡ dials
      → wait_in (book_at board s).machine.phase ≡ wait_with (start s).names (start s).dials (messages_of (connection_at board k).taken)
  waits_with s k None within placed accepts =
      let last = bound_within s k within placed in
      first_waits (start s) (book_at board s).machine (connection_at board k) accepts
      ((opened.opened s k placed).opened (last.same.dials ∙ (same_within (start s) (bodies_of last.past) last.bodies).dials ∙ accepts))
  waits_with s k (Some heart) within placed dials =
      let last = bound_within s k within placed in
      asked_waits (start s) (book_at board s).machine heart (bodies_of last.past) last.bodies (messages_of (connection_at board k).taken) dials (handled_last s k within placed) last.same.phase

  pub waits : (s k : ℕ) → s < length board.sessions → place_at board s ≡ Some k
      → wait_in (book_at board s).machine.phase ≡ wait_by start (connection_at board k).session (messages_of (connection_at board k).taken)
  waits s k within placed =
      waits_with s k (start s).dials within placed refl ∙ ap (λ session. wait_by start session (messages_of (connection_at board k).taken)) (sym (plugged s k within placed).names)
