-- Bytes in a buffer of a fixed size.
use Rattle.std.specs.Prelude.{ℕ, List, ◌++◌, take, drop}

-- how many bytes fit, and the bytes that are there
pub record Store : Type 0 where
  pub room : ℕ
  pub bytes : List ℕ

-- so many bytes from a place of a buffer on, which go on at its beginning where they come to its end
abbrev pub in_ring : ℕ → ℕ → List ℕ → List ℕ
in_ring start count buffer = take count (drop start buffer ++ take start buffer)
