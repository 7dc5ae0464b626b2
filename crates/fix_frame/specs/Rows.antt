-- Worked rows, in which `|` stands for byte 1.
use Rattle.std.specs.Prelude.{ℕ, List, map, if◌then◌else◌, ◌==◌}

-- a text with byte 1 for each `|`
abbrev pub row_bytes : List ℕ → List ℕ
row_bytes text = map (λ c. if c == 124 then 1 else c) text
