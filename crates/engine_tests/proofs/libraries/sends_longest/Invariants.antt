use Rattle.std.proofs.Common.{◌≡◌}
use Rattle.engine_tests.proofs.libraries.sends_longest.Given as goal

abbrev pub invariant-loop-ordinal : goal.invariant-loop-ordinal
invariant-loop-ordinal l = l.library.links ≡ l.initial.library.links
