use Rattle.std.proofs.Common.{◌≡◌, ◌++◌, take}
use Rattle.std.specs.List.{flat_map}
use Rattle.run_report.specs.Calls.{library_text}
use Rattle.run_report.proofs.report.put_libraries.Given as goal

abbrev pub invariant-loop-library : goal.invariant-loop-library
invariant-loop-library l = l.out.items ≡ l.initial.out.items ++ flat_map library_text (take l.library-index l.libraries)
