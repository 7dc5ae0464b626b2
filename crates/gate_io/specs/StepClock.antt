use Rattle.std.specs.Prelude.{ℕ, max}
use Rattle.gate_io.specs.Counts.{one_more}

-- a clock that stands at a moment until it is set, and what was read of it
pub record ClockState : Type 0 where
  pub moment : ℕ
  pub last : ℕ
  pub greatest : ℕ
  pub readings : ℕ

-- the clock behind a reading
abbrev pub clock_after : ClockState → ClockState
clock_after c = record c { last = c.moment; greatest = max c.greatest c.moment; readings = one_more c.readings }
