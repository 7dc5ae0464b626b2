use Rattle.std.proofs.Common.{◌≡◌, ◌++◌, take}
use Rattle.std.specs.List.{flat_map}
use Rattle.run_report.specs.Connections.{stray_line}
use Rattle.run_report.proofs.connection_lines.put_strays.Given as goal

abbrev pub invariant-loop-stray : goal.invariant-loop-stray
invariant-loop-stray l = l.out.items ≡ l.initial.out.items ++ flat_map stray_line (take l.stray-index l.strays)
