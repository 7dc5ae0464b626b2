use Rattle.std.proofs.Common.{◌≡◌, length}
use Rattle.engine_speed.specs.Over.{IsUntouched}
use Rattle.engine_speed.proofs.crowd.wire.Given as goal

abbrev pub invariant-loop-session : goal.invariant-loop-session
invariant-loop-session l = record {
  untouched : IsUntouched l.wire;
  count : length l.wire.links ≡ l.session;
}
