use Rattle.std.specs.Prelude.{◌≡◌, ℕ, ◌<◌, ◌≤◌, List, [], ◌++◌, Option, None, Some, IfSome, length, take, drop}
use Rattle.gate_io.specs.declared.sources.Got.{Got}
use Rattle.gate_io.specs.declared.sources.Got.TheVariants.{Bytes, End, Failed}

-- a read into this much room gives at least one byte and no more than fit
abbrev pub GotWithin : ℕ → Got → Type 0
GotWithin room (Bytes n) = (0 < n) × (n ≤ room)
GotWithin room End = Unit {0}
GotWithin room Failed = Unit {0}

-- Where the bytes that are left are told, a read takes the first of them and puts them at the buffer's front,
-- the end comes only with nothing left, and a failure takes nothing.
abbrev pub GivesFrom : Option (List ℕ) → Got → List ℕ → Option (List ℕ) → Type 0
GivesFrom None got buf after = Unit {0}
GivesFrom (Some left) (Bytes n) buf after = (n ≤ length left) × (take n buf ≡ take n left) × (after ≡ Some (drop n left))
GivesFrom (Some left) End buf after = (left ≡ []) × (after ≡ Some [])
GivesFrom (Some left) Failed buf after = after ≡ Some left

-- Where the bytes that were left are told, these were read, the first of them, and what lies behind them is left.
abbrev pub HasGiven : Option (List ℕ) → List ℕ → Option (List ℕ) → Type 0
HasGiven None given after = Unit {0}
HasGiven (Some left) given after = (left ≡ given ++ drop (length given) left) × (after ≡ Some (drop (length given) left))

-- Where the bytes that were left are told, at most so many were read, the first of them, and the others are left.
abbrev pub GaveWithin : Option (List ℕ) → ℕ → Option (List ℕ) → Type 0
GaveWithin left limit after = (given : List ℕ) × (length given ≤ limit) × HasGiven left given after

-- Where the bytes that were left are told, more than so many were read, the first of them, and the others are left.
abbrev pub GaveMoreThan : Option (List ℕ) → ℕ → Option (List ℕ) → Type 0
GaveMoreThan left limit after = (given : List ℕ) × (limit < length given) × HasGiven left given after

-- Where the bytes that were left are told, these are all of them.
abbrev pub IsAllOf : Option (List ℕ) → List ℕ → Type 0
IsAllOf left bytes = IfSome left (λ all. bytes ≡ all)

-- Where the bytes that were left are told, there were more than this.
abbrev pub IsLongerThan : Option (List ℕ) → ℕ → Type 0
IsLongerThan left limit = IfSome left (λ all. limit < length all)
