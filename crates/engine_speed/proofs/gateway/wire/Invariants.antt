use Rattle.std.proofs.Common.{◌≡◌, length}
use Rattle.engine_speed.specs.Over.{IsUntouched}
use Rattle.engine_speed.proofs.gateway.wire.Given as goal

abbrev pub invariant-loop-c : goal.invariant-loop-c
invariant-loop-c l = record {
  untouched : IsUntouched l.wire;
  count : length l.wire.links ≡ l._c;
}
