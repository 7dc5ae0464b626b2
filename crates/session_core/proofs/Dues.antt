-- Until when the clock asks for nothing.
use Rattle.std.proofs.Common.{◌≡◌, ℕ, false, min, arith, if◌then◌else◌}
use Rattle.std.specs.Prelude.{nat_le, nat_lt}
use Rattle.std.proofs.lemmas.Bool.Decides.{nat_tests}
use Rattle.session_core.specs.declared.ticks.Tick.{Tick}
use Rattle.session_core.specs.declared.ticks.Tick.TheVariants.{Quiet, Beat}
use Rattle.session_core.specs.Tick.{is_quiet}

pub quiet_before : (a b moment : ℕ) (other : Tick) → is_quiet other ≡ false → is_quiet (if nat_le a moment then other else (if nat_le b moment then Beat else Quiet)) ≡ nat_lt moment (min b a)
quiet_before a b moment other loud = grind (arith, nat_tests, loud)
