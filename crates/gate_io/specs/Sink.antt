use Rattle.std.specs.Prelude.{◌≡◌, ℕ, ◌<◌, ◌≤◌, List, ◌++◌, Option, None, Some, length, take}
use Rattle.gate_io.specs.declared.sinks.Wrote.{Wrote}
use Rattle.gate_io.specs.declared.sinks.Wrote.TheVariants.{Bytes, Failed}

-- a write of this many bytes takes at least one and no more than there are
abbrev pub WroteWithin : ℕ → Wrote → Type 0
WroteWithin len (Bytes n) = (0 < n) × (n ≤ len)
WroteWithin len Failed = Unit {0}

-- Where the bytes that are held are told, a write puts the first of the piece behind them, and a failure nothing.
abbrev pub TakesFrom : Option (List ℕ) → Wrote → List ℕ → Option (List ℕ) → Type 0
TakesFrom None wrote piece after = Unit {0}
TakesFrom (Some held) (Bytes n) piece after = after ≡ Some (held ++ take n piece)
TakesFrom (Some held) Failed piece after = after ≡ Some held

-- Where the bytes that are held are told, these were put behind them.
abbrev pub HasTaken : Option (List ℕ) → List ℕ → Option (List ℕ) → Type 0
HasTaken None bytes after = Unit {0}
HasTaken (Some held) bytes after = after ≡ Some (held ++ bytes)

-- a beginning of these bytes was put behind what was held
abbrev pub HasTakenPrefix : Option (List ℕ) → List ℕ → Option (List ℕ) → Type 0
HasTakenPrefix held bytes after = (n : ℕ) × (n ≤ length bytes) × HasTaken held (take n bytes) after
