use Rattle.std.specs.Prelude.{ℕ, ◌==◌, List, length, drop, min, if◌then◌else◌}
use Rattle.std.specs.List.{list_any}
use Rattle.gate_io.specs.Counts.{one_more}
use Rattle.gate_io.specs.declared.sources.Got.{Got}
use Rattle.gate_io.specs.declared.sources.Got.TheVariants.{Bytes, End, Failed}

-- a source in memory: what is left, which calls fail, and what was counted
pub record SourceState : Type 0 where
  pub left : List ℕ
  pub fails : List ℕ
  pub calls : ℕ
  pub faults : ℕ
  pub ends : ℕ

-- what the next read into this much room gives: a failure at a listed call, else as much as there is
abbrev pub source_gives : SourceState → ℕ → Got
source_gives s room =
    if list_any (λ call. call == s.calls) s.fails then Failed else if length s.left == 0 then End else Bytes (min room (length s.left))

-- the source behind a read with that answer
abbrev pub source_after : SourceState → Got → SourceState
source_after s (Bytes n) = record s { left = drop n s.left; calls = one_more s.calls }
source_after s End = record s { calls = one_more s.calls; ends = one_more s.ends }
source_after s Failed = record s { calls = one_more s.calls; faults = one_more s.faults }
