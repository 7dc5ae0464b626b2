-- The sessions that dial: when a dial is due, and what follows from the wire's answer.
use Rattle.std.specs.Prelude.{◌≡◌, ◌≢◌, ℕ, ◌+◌, ◌<◌, ◌≤◌, ◌⊎◌, List, length, slice_index_or, slice_set, Option, None, Some, IfSome, IsSome}
use Rattle.engine_config.specs.declared.config.DialTo.{DialTo}
use Rattle.engine_config.specs.declared.config.TheConstants.{MOST_WAIT}
use Rattle.gate_io.specs.Wire.{Door}
use Rattle.gate_io.specs.declared.dials.Dialled.{Dialled}
use Rattle.gate_io.specs.declared.dials.Dialled.TheVariants.{Failed, New}
use Rattle.gate_io.specs.declared.wires.TheConstants.{MOST_DIALLED}
use Rattle.lease_desk.specs.Desk.{InTurn}
use Rattle.lease_desk.specs.declared.desk.LeaseDesk.{LeaseDesk}
use Rattle.session_desk.specs.Steps.{DialsTo}
use Rattle.switchboard.specs.Board.{Board, book_at, connection_at, place_at}
use Rattle.wire_desk.specs.declared.dialling.Dialler.{Dialler}

-- to where a session dials, if it does, and the least moment of its next dial
abbrev pub plan_at : Dialler → ℕ → Option DialTo
plan_at d s = slice_index_or d.plans.items s None

abbrev pub next_at : Dialler → ℕ → ℕ
next_at d s = slice_index_or d.next.items s 0

-- the session is one that dials, and waits no longer than an engine can be configured with
pub record IsPlanOf (board : Board) (s : ℕ) (plan : DialTo) : Type 0 where
  pub dials : IsSome (book_at board s).machine.dials
  pub wait : plan.wait ≤ MOST_WAIT

-- plans and moments are those of the sessions
pub record IsScheduled (board : Board) (d : Dialler) : Type 0 where
  pub plans : length d.plans.items ≡ length board.sessions
  pub next : length d.next.items ≡ length board.sessions
  pub each : (s : ℕ) → s < length board.sessions → IfSome (plan_at d s) (IsPlanOf board s)

-- The sessions have their plans, and as many dials were made as the wire tells, not more than may be.
pub record IsDialling (board : Board) (door : Door) (d : Dialler) : Type 0 where
  pub scheduled : IsScheduled board d
  pub made : d.made ≡ door.dialled
  pub few : d.made ≤ d.most
  pub most : d.most ≤ MOST_DIALLED

-- the session is one that dials, it is bound to no connection, its moment has come, and not all dials were made
pub record IsDialDue (board : Board) (d : Dialler) (s at : ℕ) : Type 0 where
  pub plans : IsSome (plan_at d s)
  pub free : place_at board s ≡ None
  pub time : next_at d s ≤ at
  pub left : d.made < d.most

-- the next dial of a session is so many milliseconds later
pub record WaitsFor (wait s at : ℕ) (old new : Dialler) : Type 0 where
  pub next : new.next.items ≡ slice_set old.next.items s (at + wait)
  pub rest : new ≡ record old { next = new.next }

-- a session that dials waits, and one that accepts has nothing to wait for
abbrev pub WaitsBy : Option DialTo → ℕ → ℕ → Dialler → Dialler → Type 0
WaitsBy None s at old new = new ≡ old
WaitsBy (Some plan) s at old new = WaitsFor plan.wait s at old new

-- the session of a connection waits, where it names one
abbrev pub SessionWaits : Option ℕ → ℕ → Dialler → Dialler → Type 0
SessionWaits None at old new = new ≡ old
SessionWaits (Some s) at old new = WaitsBy (plan_at old s) s at old new

-- where a connection has ended its session waits, and where it stands nothing changes
abbrev pub WaitsIfEnded : Board → ℕ → ℕ → Dialler → Dialler → Type 0
WaitsIfEnded board at k old new = (((connection_at board k).cause ≢ None) × SessionWaits (connection_at board k).session at old new) ⊎ (((connection_at board k).cause ≡ None) × (new ≡ old))

-- one connection after another, of those at these places
abbrev pub WaitBehindEnded : Board → List ℕ → ℕ → Dialler → Dialler → Type 0
WaitBehindEnded board places at old new = InTurn (λ i. WaitsIfEnded board at (slice_index_or places i 0)) (length places) old new

-- what the wire answered, if a dial was due: a connection binds the session, and behind a failure it waits
abbrev pub DialsAs : Option Dialled → ℕ → ℕ → ℕ → LeaseDesk → LeaseDesk → Dialler → Dialler → Type 0
DialsAs None s at until old new d_old d_new = (IsDialDue old.board d_old s at → ⊥) × ((new ≡ old) × (d_new ≡ d_old))
DialsAs (Some Failed) s at until old new d_old d_new = IsDialDue old.board d_old s at × ((new ≡ old) × WaitsBy (plan_at d_old s) s at d_old d_new)
DialsAs (Some (New number)) s at until old new d_old d_new =
    IsDialDue old.board d_old s at × (DialsTo s number at until old new × (d_new ≡ record d_old { made = d_old.made + 1 }))
