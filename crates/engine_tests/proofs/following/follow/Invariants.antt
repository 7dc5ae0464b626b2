use Rattle.std.proofs.Common.{◌≡◌}
use Rattle.engine_tests.specs.Outside.{IsOver}
use Rattle.engine_tests.proofs.following.follow.Given as goal

abbrev pub invariant-loop-line : goal.invariant-loop-line
invariant-loop-line l = record {
  running : IsOver l.shared l.gateway.engine l.gateway.wire.wire;
  first : l.libraries.first.links ≡ l.initial.libraries.first.links;
  second : l.libraries.second.links ≡ l.initial.libraries.second.links;
  third : l.libraries.third.links ≡ l.initial.libraries.third.links;
}
