-- What the clock asks of a session (FIX 4.4, volume 2, "Heartbeat", "Test Request").
use Rattle.std.specs.Prelude.{ℕ, ◌+◌, ◌*◌, ◌==◌, nat_le, Bool, true, false, [], ◌∷◌, Option, None, Some, if◌then◌else◌}
use Rattle.session_core.specs.State.{State}
use Rattle.session_core.specs.declared.acts.Act.TheVariants.{Send}
use Rattle.session_core.specs.declared.acts.Admin.TheVariants.{Heartbeat, TestRequest}
use Rattle.session_core.specs.declared.acts.Effects.{Effects}
use Rattle.session_core.specs.declared.causes.Cause.TheVariants.{Silent}
use Rattle.session_core.specs.declared.phases.Phase.{Phase}
use Rattle.session_core.specs.declared.phases.Phase.TheVariants.{Off, Asked, On}
use Rattle.session_core.specs.declared.ticks.TheConstants.{ANSWER_WAIT}
use Rattle.session_core.specs.declared.ticks.Tick.{Tick}
use Rattle.session_core.specs.declared.ticks.Tick.TheVariants.{Quiet, Beat, Test, Expire}

-- nothing was sent for HeartBtInt
abbrev pub beat : State → ℕ → ℕ → Tick
beat state heart moment = if nat_le (state.sent + 1000 * heart) moment then Beat else Quiet

-- A TestRequest that has waited for HeartBtInt ends the connection. Where none waits, one is due once the last receipt,
-- that of a message that could be read, is HeartBtInt and a fifth of it ago. Else a Heartbeat may be due.
abbrev pub alive : State → ℕ → ℕ → Option ℕ → Tick
alive state heart moment (Some since) = if nat_le (since + 1000 * heart) moment then Expire else beat state heart moment
alive state heart moment None = if nat_le (state.received + 1200 * heart) moment then Test else beat state heart moment

-- While its own Logon isn't answered, whose moment is that of the last receipt, the connection ends ANSWER_WAIT behind
-- that moment. A session whose Logon was answered has ticks where its HeartBtInt is above 0. One that is off has none.
abbrev pub tick_in : State → ℕ → Phase → Tick
tick_in state moment Off = Quiet
tick_in state moment (Asked heart) = if nat_le (state.received + ANSWER_WAIT) moment then Expire else Quiet
tick_in state moment (On heart) = if heart == 0 then Quiet else alive state heart moment state.waiting

unfoldable pub tick_of : State → ℕ → Tick
tick_of state moment = tick_in state moment state.phase

abbrev pub effects_at : State → Tick → Effects
effects_at state Quiet = record { acts = []; end = None }
effects_at state Beat = record { acts = Send (Heartbeat None) ∷ []; end = None }
effects_at state Test = record { acts = Send TestRequest ∷ []; end = None }
effects_at state Expire = record { acts = []; end = Some (Silent state.received) }

abbrev pub behind_tick : State → ℕ → Tick → State
behind_tick state moment Quiet = state
behind_tick state moment Beat = record state { sent = moment }
behind_tick state moment Test = record state { sent = moment; waiting = Some moment }
behind_tick state moment Expire = state

-- the acts and the end
abbrev pub tick : State → ℕ → Effects
tick state moment = effects_at state (tick_of state moment)

abbrev pub after_tick : State → ℕ → State
after_tick state moment = behind_tick state moment (tick_of state moment)

abbrev pub is_quiet : Tick → Bool
is_quiet Quiet = true
is_quiet Beat = false
is_quiet Test = false
is_quiet Expire = false

-- a tick at this moment does nothing
abbrev pub does_nothing_at : State → ℕ → Bool
does_nothing_at state moment = is_quiet (tick_of state moment)
