-- A session between two calls.
use Rattle.std.specs.Prelude.{◌≡◌, ℕ, ◌≤◌, Option, None, Some, IfSome, List, unwrap_or}
use Rattle.std.specs.FinMap.{empty, get}
use Rattle.gate_io.specs.declared.clocks.TheConstants.{LAST_MOMENT}
use Rattle.seq_gaps.specs.Line.{Line, IsLine, IsNotHeld, after_clear}
use Rattle.session_core.specs.Tasks.{IsTask}
use Rattle.session_core.specs.declared.names.Names.{Names}
use Rattle.session_core.specs.declared.phases.Phase.{Phase}
use Rattle.session_core.specs.declared.phases.Phase.TheVariants.{Off, Asked, On}
use Rattle.session_core.specs.declared.said.TheConstants.{LONGEST_HEARTBEAT}
use Rattle.session_core.specs.declared.tasks.Task.{Task}

-- The two names; the HeartBtInt with which it dials, where it is one that dials; how far the Logons of a connection
-- that stands have come; the number line with what is left to do for each early message; the moments of the last
-- receipt, which is that of its own Logon while that isn't answered, and of the last sending; and the moment of the
-- TestRequest that waits for an answer.
pub record State : Type 0 where
  pub names : Names
  pub dials : Option ℕ
  pub phase : Phase
  pub line : Line Task
  pub received : ℕ
  pub sent : ℕ
  pub waiting : Option ℕ

-- HeartBtInt in seconds, 0 where there is none
abbrev pub heart_in : Phase → ℕ
heart_in Off = 0
heart_in (Asked heart) = heart
heart_in (On heart) = heart

-- the HeartBtInt of a session that dials
pub record IsDialHeart (heart : ℕ) : Type 0 where
  pub from_one : 1 ≤ heart
  pub to_longest : heart ≤ LONGEST_HEARTBEAT

-- nothing is held, and no gap was asked for
pub record HoldsNothing (line : Line Task) : Type 0 where
  pub held : line.held ≡ empty
  pub horizon : line.horizon ≡ 0

-- before a Logon is answered nothing is held
abbrev pub RestsIn : Phase → Line Task → Type 0
RestsIn Off line = HoldsNothing line
RestsIn (Asked heart) line = HoldsNothing line
RestsIn (On heart) line = Unit {0}

-- what is left to do for each early message is what its rule gives
abbrev pub HoldsTasks : Line Task → Type 0
HoldsTasks line = (n : ℕ) (task : Task) → get line.held n ≡ Some task → IsTask task

-- What holds of every session. The expected number is never held, so the message that comes with it is carried out.
pub record IsState (state : State) : Type 0 where
  pub dials : IfSome state.dials IsDialHeart
  pub heart : heart_in state.phase ≤ LONGEST_HEARTBEAT
  pub line : IsLine state.line
  pub none_ready : IsNotHeld state.line state.line.expected
  pub tasks : HoldsTasks state.line
  pub resting : RestsIn state.phase state.line
  pub received : state.received ≤ LAST_MOMENT
  pub sent : state.sent ≤ LAST_MOMENT
  pub waiting : unwrap_or state.waiting 0 ≤ LAST_MOMENT

-- a session of which nothing was heard, with this number line
abbrev pub new_state : List ℕ → List ℕ → Option ℕ → Line Task → State
new_state us them dials line =
    record { names = record { us = us; them = them }; dials = dials; phase = Off; line = line; received = 0; sent = 0; waiting = None }

-- the connection ended: what was early is dropped, and gaps are asked for anew
abbrev pub after_leave : State → State
after_leave state = record state { phase = Off; line = after_clear state.line; waiting = None }
