use Rattle.std.proofs.Common.{◌≡◌, take}
use Rattle.run_report.specs.Summary.{reads_in, told_sum}
use Rattle.run_report.proofs.summary.reads.Given as goal

abbrev pub invariant-loop-library : goal.invariant-loop-library
invariant-loop-library l = l.sum ≡ told_sum reads_in (take l.library-index l.libraries)
