use Rattle.std.proofs.Common.{◌≡◌, map}
use Rattle.std.specs.List.{range_with_len}
use Rattle.drill_maker.specs.Drill.{names_of}
use Rattle.drill_maker.proofs.drilling.names.Given as goal

abbrev pub invariant-loop-c : goal.invariant-loop-c
invariant-loop-c l = l.names.items ≡ map names_of (range_with_len 0 l.c)
