-- A connection that the session itself dialled begins with its Logon (FIX 4.4, volume 2, "Logon").
use Rattle.std.specs.Prelude.{ℕ, false, [], ◌∷◌, Option, None, Some}
use Rattle.session_core.specs.Receive.{no_effects}
use Rattle.session_core.specs.State.{State}
use Rattle.session_core.specs.declared.acts.Act.TheVariants.{Send}
use Rattle.session_core.specs.declared.acts.Admin.TheVariants.{Logon}
use Rattle.session_core.specs.declared.acts.Effects.{Effects}
use Rattle.session_core.specs.declared.phases.Phase.TheVariants.{Asked}

-- a session that doesn't dial asks for nothing
abbrev pub logon_effects : Option ℕ → Effects
logon_effects None = no_effects
logon_effects (Some heart) = record { acts = Send (Logon heart false) ∷ []; end = None }

abbrev pub after_logon : State → ℕ → Option ℕ → State
after_logon state moment None = state
after_logon state moment (Some heart) = record state { phase = Asked heart; received = moment; sent = moment; waiting = None }

-- the acts with which a connection of the session begins
abbrev pub ask : State → Effects
ask state = logon_effects state.dials

-- the session behind them, where they were at the moment
abbrev pub after_ask : State → ℕ → State
after_ask state moment = after_logon state moment state.dials
