use Rattle.std.specs.Prelude.{ℕ, Bool, List}

-- a file as a source: its path, whether it was opened, and what was counted
pub record FileState : Type 0 where
  pub path : List ℕ
  pub opened : Bool
  pub faults : ℕ
  pub ends : ℕ
