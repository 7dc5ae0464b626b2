use Rattle.std.specs.Prelude.{◌≡◌, ℕ, ◌-◌, ◌^◌, List, [], ◌∷◌, ◌++◌, length, max, min}

-- the last of the readings, 0 before the first
abbrev pub last_of : List ℕ → ℕ
last_of [] = 0
last_of (reading ∷ []) = reading
last_of (reading ∷ more) = last_of more

-- the greatest of the readings, 0 before the first
abbrev pub greatest_of : List ℕ → ℕ
greatest_of [] = 0
greatest_of (reading ∷ more) = max reading (greatest_of more)

-- these readings have this last, this greatest and this count, which stands still at the end of its type
pub record HasFigures (latest highest count : ℕ) (readings : List ℕ) : Type 0 where
  pub last : latest ≡ last_of readings
  pub greatest : highest ≡ greatest_of readings
  pub counted : count ≡ min (length readings) (2 ^ 64 - 1)

-- from one clock to another exactly these readings were taken, whatever was read before
abbrev pub TakesReadings : {C : Type 0} → (C → List ℕ → Type 0) → C → List ℕ → C → Type 0
TakesReadings HasRead old taken new = (before : List ℕ) → HasRead old before → HasRead new (before ++ taken)
