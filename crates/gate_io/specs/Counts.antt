use Rattle.std.specs.Prelude.{ℕ, ◌+◌, ◌-◌, ◌^◌, ◌<◌, min}

-- A count of the outside has risen in a call: it's greater behind it, or it stands at the end of its type.
abbrev pub HasRisen : ℕ → ℕ → Type 0
HasRisen old new = new < 2 ^ 64 - 1 → old < new

-- one more, but at the end of its type, where it stands still
abbrev pub one_more : ℕ → ℕ
one_more count = min (count + 1) (2 ^ 64 - 1)
