use Rattle.std.proofs.Common.{length, ◌-◌, ◌≤◌, take}
use Rattle.gate_io.specs.Sink.{HasTaken}
use Rattle.gate_io.proofs.whole.write_all.Given as goal

abbrev pub invariant-writing : goal.invariant-writing
invariant-writing g l = record {
  within : l.done ≤ length l.bytes;
  taken : HasTaken (g.Si.Sink.held l.initial.sink) (take l.done l.bytes) (g.Si.Sink.held l.sink);
  faults : g.Si.Sink.faults l.initial.sink ≤ g.Si.Sink.faults l.sink;
}

abbrev pub decreases-writing : goal.decreases-writing
decreases-writing g l = length l.bytes - l.done
