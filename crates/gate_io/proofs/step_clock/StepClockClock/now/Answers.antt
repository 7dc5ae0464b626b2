use Rattle.gate_io.proofs.ClockFacts.{HasFigures-more}
use Rattle.gate_io.proofs.step_clock.StepClockClock.now.Goals as goal

pub returns-clause-told : goal.returns-clause-told
returns-clause-told c before told =
    rw (c.max-self-inside.ensures, c.saturating_add-self-inside.ensures) (HasFigures-more _ _ _ _ before (rw (← c.self.view_is) at told))
