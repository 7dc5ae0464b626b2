-- Lawful journals: each entry follows from those before it.
use Rattle.std.specs.Prelude.{◌≡◌, ℕ, List, [], ◌∷◌, Bool, true, false, IsTrue, IsSome, nat_lt, Option, Some, None}
use Rattle.lease_core.specs.declared.entry.Entry.{Entry}
use Rattle.lease_core.specs.declared.entry.Entry.TheVariants.{Bind, Plan, Leave, Reset, Release, Hold}
use Rattle.lease_core.specs.State.{State, state_after, opening}
use Rattle.lease_core.specs.declared.event.Event.{Event}
use Rattle.lease_core.specs.Steps.{step, CanHappen}

-- the entry is the step of an event that can happen
pub record IsStep (limit : ℕ) (s : State) (e : Entry) : Type 0 where
  pub event : Event
  pub can_happen : CanHappen s event
  pub entry : e ≡ step limit s event

-- a release with an heir
abbrev pub owes_hold : Option Entry → Bool
owes_hold None = false
owes_hold (Some (Release lease library count heir)) = nat_lt 0 heir
owes_hold (Some _) = false

abbrev pub is_hold : Entry → Bool
is_hold (Hold lease until) = true
is_hold _ = false

abbrev pub is_bind : Option Entry → Bool
is_bind None = false
is_bind (Some (Bind c)) = true
is_bind (Some _) = false

-- Binds and leaves alternate, a leave names the connection of the bind before it, a plan stands between the two, and a reset directly
-- behind a bind.
abbrev pub FitsConnection : State → Entry → Type 0
FitsConnection s (Bind c) = s.bound ≡ None
FitsConnection s (Plan begin last at) = IsSome s.bound
FitsConnection s (Leave c) = s.bound ≡ Some c
FitsConnection s (Reset series) = IsTrue (is_bind s.latest)
FitsConnection s _ = Unit {0}

-- The entry may stand behind those that came to this state. A hold stands directly behind each release with an heir, and nowhere else.
pub record IsNext (limit : ℕ) (s : State) (e : Entry) : Type 0 where
  pub is_step : IsStep limit s e
  pub connection : FitsConnection s e
  pub hold : owes_hold s.latest ≡ is_hold e

abbrev pub IsRunFrom : ℕ → State → List Entry → Type 0
IsRunFrom limit s [] = Unit {0}
IsRunFrom limit s (e ∷ es) = IsNext limit s e × IsRunFrom limit (state_after s e) es

-- each entry follows from those before it
unfoldable pub IsRun : ℕ → List Entry → Type 0
IsRun limit entries = IsRunFrom limit opening entries
