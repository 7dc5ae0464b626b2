use Rattle.std.proofs.Common.{◌≡◌}
use Rattle.engine_tests.proofs.libraries.reads.Given as goal

abbrev pub invariant-loop-pos : goal.invariant-loop-pos
invariant-loop-pos l = l.library.links ≡ l.initial.library.links
