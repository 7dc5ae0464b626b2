use Rattle.std.specs.Prelude.{ℕ, Bool, List}

-- a file as a disk: its path, whether it was opened, and how many calls failed
pub record FileDiskState : Type 0 where
  pub path : List ℕ
  pub opened : Bool
  pub faults : ℕ
