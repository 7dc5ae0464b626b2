use Rattle.gate_io.proofs.ClockFacts.{HasFigures-more}
use Rattle.gate_io.proofs.real_clock.RealClockClock.now.Goals as goal

pub returns-clause-told : goal.returns-clause-told
returns-clause-told g c before told =
    rw (c.max-self-inside.ensures, c.saturating_add-self-inside.ensures) (HasFigures-more _ _ _ _ before (rw (← c.self.view_is) at told))
