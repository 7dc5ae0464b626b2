-- What the clock asks of a session, at most one act.
use Rattle.std.proofs.Common.{◌≡◌, ◌⊎◌, ℕ, ◌+◌, ◌*◌, inl, inr, Bool, true, false, if◌then◌else◌, Option, Some, None, refl}
use Rattle.std.specs.Prelude.{◌==◌, nat_le}
use Rattle.std.proofs.lemmas.Bool.{leb-true}
use Rattle.session_core.specs.Laws.{ActsOfTicks, AsksOneAct}
use Rattle.session_core.specs.State.{State, heart_in}
use Rattle.session_core.specs.Tick.{alive, beat, behind_tick, effects_at, tick, tick_in, tick_of}
use Rattle.session_core.specs.declared.phases.Phase.{Phase}
use Rattle.session_core.specs.declared.phases.Phase.TheVariants.{Off, Asked, On}
use Rattle.session_core.specs.declared.ticks.TheConstants.{ANSWER_WAIT}
use Rattle.session_core.specs.declared.ticks.Tick.{Tick}
use Rattle.session_core.specs.declared.ticks.Tick.TheVariants.{Beat, Expire, Quiet, Test}

module _ (state : State) (m : ℕ) where
  abbrev Asks : ℕ → Tick → Type 0
  Asks heart t = AsksOneAct state heart m (effects_at state t).acts

  beat_asks : (heart : ℕ) (b : Bool) → nat_le (state.sent + 1000 * heart) m ≡ b → Asks heart (if b then Beat else Quiet)
  beat_asks heart true e = inr (inr (refl, leb-true (state.sent + 1000 * heart) m e))
  beat_asks heart false e = inl refl

  alive_asks : (heart : ℕ) (b : Bool) (t : Tick) → Asks heart t → Asks heart (if b then t else beat state heart m)
  alive_asks heart true t is = is
  alive_asks heart false t is = beat_asks heart (nat_le (state.sent + 1000 * heart) m) refl

  expire_asks : (heart : ℕ) → Asks heart Expire
  expire_asks heart = inl refl

  quiet_asks : (heart : ℕ) → Asks heart Quiet
  quiet_asks heart = inl refl

  test_asks : (heart : ℕ) → Asks heart Test
  test_asks heart = inr (inl refl)

  waiting_asks : (heart : ℕ) (waiting : Option ℕ) → Asks heart (alive state heart m waiting)
  waiting_asks heart (Some since) = alive_asks heart (nat_le (since + 1000 * heart) m) Expire (expire_asks heart)
  waiting_asks heart None = alive_asks heart (nat_le (state.received + 1200 * heart) m) Test (test_asks heart)

  either_asks : (heart : ℕ) (b : Bool) (t u : Tick) → Asks heart t → Asks heart u → Asks heart (if b then t else u)
  either_asks heart true t u is other = is
  either_asks heart false t u is other = other

  phase_asks : (phase : Phase) → Asks (heart_in phase) (tick_in state m phase)
  phase_asks Off = quiet_asks 0
  phase_asks (Asked heart) = either_asks heart (nat_le (state.received + ANSWER_WAIT) m) Expire Quiet (expire_asks heart) (quiet_asks heart)
  phase_asks (On heart) = either_asks heart (heart == 0) Quiet (alive state heart m state.waiting) (quiet_asks heart) (waiting_asks heart state.waiting)

one_act : (state : State) (m : ℕ) → AsksOneAct state (heart_in state.phase) m (tick state m).acts
unfolding tick_of
one_act state m = phase_asks state m state.phase

sent_by : (state : State) (m : ℕ) (t : Tick) → ((behind_tick state m t).sent ≡ state.sent) ⊎ ((behind_tick state m t).sent ≡ m)
sent_by state m Quiet = inl refl
sent_by state m Beat = inr refl
sent_by state m Test = inr refl
sent_by state m Expire = inl refl

pub acts_of_ticks : ActsOfTicks
acts_of_ticks = record { one = one_act; sent = λ state m. sent_by state m (tick_of state m) }
