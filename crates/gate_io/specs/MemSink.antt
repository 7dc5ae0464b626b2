use Rattle.std.specs.Prelude.{ℕ, ◌==◌, ◌-◌, List, ◌++◌, take, min, if◌then◌else◌}
use Rattle.std.specs.List.{list_any}
use Rattle.gate_io.specs.Counts.{one_more}
use Rattle.gate_io.specs.declared.sinks.Wrote.{Wrote}
use Rattle.gate_io.specs.declared.sinks.Wrote.TheVariants.{Bytes, Failed}

-- a sink in memory: what it holds, how many bytes more it takes, which calls fail, and what was counted
pub record SinkState : Type 0 where
  pub held : List ℕ
  pub room : ℕ
  pub fails : List ℕ
  pub calls : ℕ
  pub faults : ℕ

-- what the next write of this many bytes takes: nothing at a listed call or with no room, else as much as fits
abbrev pub sink_takes : SinkState → ℕ → Wrote
sink_takes s len =
    if list_any (λ call. call == s.calls) s.fails then Failed else if s.room == 0 then Failed else Bytes (min len s.room)

-- the sink behind a write of the piece with that answer
abbrev pub sink_after : SinkState → List ℕ → Wrote → SinkState
sink_after s piece (Bytes n) = record s { held = s.held ++ take n piece; room = s.room - n; calls = one_more s.calls }
sink_after s piece Failed = record s { calls = one_more s.calls; faults = one_more s.faults }
