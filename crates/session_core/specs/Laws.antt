-- Laws of the definitions, each proved as the clause of a function of `laws`.
use Rattle.std.specs.Prelude.{◌≡◌, ◌≢◌, ℕ, ◌+◌, ◌*◌, ◌≤◌, ◌⊎◌, true, false, None, IsNone, IfSome, List, [], ◌∷◌, ◌++◌, drop, Option, Some}
use Rattle.std.specs.FinMap.{get, len}
use Rattle.std.specs.List.{All}
use Rattle.gate_io.specs.declared.clocks.TheConstants.{LAST_MOMENT}
use Rattle.seq_gaps.specs.Line.{Line, IsNotHeld, fresh_line, after_fill}
use Rattle.seq_gaps.specs.declared.offered.TheConstants.{HELD_LIMIT, MAX_NUMBER}
use Rattle.fix_fields.specs.Frame.{IsBody}
use Rattle.session_core.specs.Admin.{admin_text, is_tick_text}
use Rattle.session_core.specs.Ask.{after_ask}
use Rattle.session_core.specs.Carry.{Progress, after_carrying, after_draining, after_handling}
use Rattle.session_core.specs.Receive.{receive, after_receive}
use Rattle.session_core.specs.Runs.{binds, behind_all, acts_on, acts_of, after_connections, until_end, handled_bodies, NoneEnds, LastEnds, Event, after_events, acts_in, bodies_in, SameButMoments}
use Rattle.session_core.specs.State.{State, IsState, IsDialHeart, new_state, after_leave, heart_in}
use Rattle.session_core.specs.Tasks.{IsReply, SendsShortTexts, is_tick, is_tick_act, is_reset_act}
use Rattle.session_core.specs.Tick.{after_tick, tick}
use Rattle.session_core.specs.declared.acts.Act.{Act}
use Rattle.session_core.specs.declared.acts.Act.TheVariants.{Send}
use Rattle.session_core.specs.declared.acts.Admin.{Admin}
use Rattle.session_core.specs.declared.acts.Admin.TheVariants.{Heartbeat, TestRequest}
use Rattle.session_core.specs.declared.names.Names.{Names}
use Rattle.session_core.specs.declared.phases.Phase.TheVariants.{Off, On}
use Rattle.session_core.specs.declared.tasks.Task.{Task}
use Rattle.session_core.specs.declared.tasks.Task.TheVariants.{Nothing, Do, Fill}

-- what holds of every session holds at first, and behind each call
pub record StatesStayLawful : Type 0 where
  pub at_first : (us them : List ℕ) (dials : Option ℕ) (expected : ℕ) → IfSome dials IsDialHeart → 1 ≤ expected → expected ≤ MAX_NUMBER + 1 → IsState (new_state us them dials (after_fill fresh_line expected))
  pub ask : (state : State) (m : ℕ) → IsState state → state.phase ≡ Off → m ≤ LAST_MOMENT → IsState (after_ask state m)
  pub receive : (state : State) (body : List ℕ) (m : ℕ) → IsState state → m ≤ LAST_MOMENT → IsState (after_receive state body m)
  pub tick : (state : State) (m : ℕ) → IsState state → m ≤ LAST_MOMENT → IsState (after_tick state m)
  pub sent : (state : State) (m : ℕ) → IsState state → m ≤ LAST_MOMENT → IsState (record state { sent = m })
  pub leave : (state : State) → IsState state → IsState (after_leave state)

-- A message with the expected number is counted and carried out, and then those held behind it, where the number itself
-- isn't held, as in every session.
abbrev pub ExpectedIsCarriedOut : Type 0
ExpectedIsCarriedOut =
    (p : Progress) (task : Task) → IsNotHeld p.line p.line.expected
    → after_handling p p.line.expected task
    ≡ after_draining HELD_LIMIT (after_carrying (record p { line = record p.line { expected = p.line.expected + 1 } }) task)

-- what the acts of a message are
pub record AreActs (acts : List Act) : Type 0 where
  pub short : All SendsShortTexts acts
  pub no_tick : All (λ act. is_tick_act act ≡ false) acts
  pub reset_first : All (λ act. is_reset_act act ≡ false) (drop 1 acts)

abbrev pub ActsOfMessages : Type 0
ActsOfMessages =
    (state : State) (body : List ℕ) (m : ℕ) → IsState state → AreActs (receive state body m).acts

-- only the Logon that binds asks for a reset
abbrev pub OnlyLogonsReset : Type 0
OnlyLogonsReset =
    (state : State) (body : List ℕ) (m : ℕ) → IsState state → state.phase ≢ Off
    → All IsReply (receive state body m).acts

-- in which phase a message leaves a session
pub record PhasesFollow : Type 0 where
  -- one that asked for a Logon, or answered one, stays so until its connection ended
  pub stays_on : (state : State) (body : List ℕ) (m : ℕ) → state.phase ≢ Off → (after_receive state body m).phase ≢ Off
  -- the Logon that binds a session is answered, unless it ends the connection
  pub binds : (names : List Names) (state : State) (body : List ℕ) (m : ℕ) → state.phase ≡ Off → state.dials ≡ None → binds names body ≡ true
      → IsNone (receive state body m).end → (after_receive state body m).phase ≢ Off
  -- the HeartBtInt on which the Logon agreed stays while the connection stands
  pub heart : (state : State) (body : List ℕ) (m : ℕ) → state.phase ≢ Off → heart_in (after_receive state body m).phase ≡ heart_in state.phase

-- Nothing, or a TestRequest, or a Heartbeat where nothing was sent for this HeartBtInt.
abbrev pub AsksOneAct : State → ℕ → ℕ → List Act → Type 0
AsksOneAct state heart m acts =
    (acts ≡ []) ⊎ ((acts ≡ Send TestRequest ∷ []) ⊎ ((acts ≡ Send (Heartbeat None) ∷ []) × (state.sent + 1000 * heart ≤ m)))

-- what the clock asks
pub record ActsOfTicks : Type 0 where
  pub one : (state : State) (m : ℕ) → AsksOneAct state (heart_in state.phase) m (tick state m).acts
  pub sent : (state : State) (m : ℕ) → ((after_tick state m).sent ≡ state.sent) ⊎ ((after_tick state m).sent ≡ m)

-- what the text of a session message is
pub record TextsOfMessages : Type 0 where
  -- the body of a frame
  pub body : (message : Admin) (number : ℕ) → IsBody (admin_text message number)
  -- that of what the clock alone sends is told from all others
  pub tick : (message : Admin) (number : ℕ) → is_tick_text (admin_text message number) ≡ is_tick message

-- two states that are the same but for moments
pub record SamenessLaws : Type 0 where
  pub reflexive : (s : State) → SameButMoments s s
  pub symmetric : (s t : State) → SameButMoments s t → SameButMoments t s
  pub transitive : (s t u : State) → SameButMoments s t → SameButMoments t u → SameButMoments s u
  pub receive : (s t : State) (body : List ℕ) (m n : ℕ) → SameButMoments s t → SameButMoments (after_receive s body m) (after_receive t body n)
  pub tick : (s : State) (m : ℕ) → SameButMoments s (after_tick s m)
  pub sent : (s : State) (m : ℕ) → SameButMoments s (record s { sent = m })
  pub leave : (s t : State) → SameButMoments s t → SameButMoments (after_leave s) (after_leave t)
  pub ask : (s t : State) (m n : ℕ) → SameButMoments s t → SameButMoments (after_ask s m) (after_ask t n)

-- the acts and the end don't depend on a moment, neither on that of the message nor on those of the session
abbrev pub MomentsDontMatter : Type 0
MomentsDontMatter =
    (s t : State) (body : List ℕ) (m n : ℕ) → SameButMoments s t → receive s body m ≡ receive t body n

-- Whatever messages, ticks and sendings a session meets, at any moments: the acts are those of the bodies alone, and so
-- is the session behind them, but for moments.
abbrev pub RunsFollowBodies : Type 0
RunsFollowBodies =
    (s t : State) (events : List Event) → SameButMoments s t
    → (acts_in s events ≡ acts_on t (bodies_in events)) × SameButMoments (after_events s events) (behind_all t (bodies_in events))

-- runs over lists in two parts
pub record RunsInParts : Type 0 where
  pub behind : (state : State) (first second : List (List ℕ)) → behind_all state (first ++ second) ≡ behind_all (behind_all state first) second
  pub acts : (state : State) (first second : List (List ℕ)) → acts_on state (first ++ second) ≡ acts_on state first ++ acts_on (behind_all state first) second
  pub connections : (state : State) (first second : List (List (List ℕ))) → acts_of state (first ++ second) ≡ acts_of state first ++ acts_of (after_connections state first) second
  pub behind_connections : (state : State) (first second : List (List (List ℕ))) → after_connections state (first ++ second) ≡ after_connections (after_connections state first) second

-- what a bound connection handles of messages that come in two parts
pub record HandledInParts : Type 0 where
  pub all : (state : State) (bodies : List (List ℕ)) → NoneEnds state bodies → until_end state bodies ≡ bodies
  pub one_ends : (state : State) (bodies : List (List ℕ)) → NoneEnds state bodies ⊎ LastEnds state (until_end state bodies)
  pub goes_on : (state : State) (first second : List (List ℕ)) → NoneEnds state first → until_end state (first ++ second) ≡ first ++ until_end (behind_all state first) second
  pub none_or_ended : (state : State) (first second : List (List ℕ)) → NoneEnds state first ⊎ (until_end state (first ++ second) ≡ until_end state first)

-- behind a run over the held messages none is left with the expected number
abbrev pub LeavesNoneReady : Type 0
LeavesNoneReady =
    (p : Progress) → len p.line.held ≤ HELD_LIMIT
    → let q = after_draining HELD_LIMIT p in IsNone (get q.line.held q.line.expected)

-- on a bound session the expected number never falls
abbrev pub NumbersGoForward : Type 0
NumbersGoForward =
    (state : State) (body : List ℕ) (m heart : ℕ) → state.phase ≡ On heart
    → state.line.expected ≤ (after_receive state body m).line.expected

-- a message that is no gap fill, and a line that holds none
abbrev pub IsNoFill : Task → Type 0
IsNoFill Nothing = Unit {0}
IsNoFill (Do act) = Unit {0}
IsNoFill (Fill to) = ⊥

abbrev pub HoldsNoFills : Line Task → Type 0
HoldsNoFills line = (n : ℕ) (task : Task) → get line.held n ≡ Some task → IsNoFill task

-- Without gap fills the expected number rises by one for the message, and one for each that is held.
abbrev pub RisesByWhatIsHeld : Type 0
RisesByWhatIsHeld =
    (p : Progress) (n : ℕ) (task : Task) → HoldsNoFills p.line → IsNoFill task
    → (after_handling p n task).line.expected ≤ p.line.expected + len p.line.held + 1

-- what a connection handles is what came first
abbrev pub HandlesWhatCameFirst : Type 0
HandlesWhatCameFirst =
    (names : List Names) (state : State) (bound : Option ℕ) (bodies : List (List ℕ))
    → (rest : List (List ℕ)) × (handled_bodies names state bound bodies ++ rest ≡ bodies)
