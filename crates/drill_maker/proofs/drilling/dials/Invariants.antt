use Rattle.std.proofs.Common.{◌≡◌, map}
use Rattle.std.specs.List.{range_with_len}
use Rattle.drill_maker.specs.Drill.{accepts}
use Rattle.drill_maker.proofs.drilling.dials.Given as goal

abbrev pub invariant-loop-c : goal.invariant-loop-c
invariant-loop-c l = l.dials.items ≡ map accepts (range_with_len 0 l._c)
