use Rattle.std.specs.Prelude.{ℕ}

-- the system's clock, and what was read of it
pub record RealClockState : Type 0 where
  pub last : ℕ
  pub greatest : ℕ
  pub readings : ℕ
