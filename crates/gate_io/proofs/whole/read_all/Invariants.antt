use Rattle.std.proofs.Common.{◌-◌, ◌≤◌, ◌<◌, length, vec_len}
use Rattle.gate_io.specs.Source.{HasGiven}
use Rattle.gate_io.proofs.whole.read_all.Given as goal

abbrev pub invariant-reading : goal.invariant-reading
invariant-reading g l = record {
  within : vec_len l.bytes ≤ l.limit;
  room : 0 < length l.buf;
  given : HasGiven (g.So.Source.left l.initial.source) l.bytes.items (g.So.Source.left l.source);
  ends : g.So.Source.ends l.initial.source ≤ g.So.Source.ends l.source;
  faults : g.So.Source.faults l.initial.source ≤ g.So.Source.faults l.source;
}

abbrev pub decreases-reading : goal.decreases-reading
decreases-reading g l = l.limit - vec_len l.bytes
