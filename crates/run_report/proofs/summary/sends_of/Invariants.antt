use Rattle.std.proofs.Common.{◌≡◌, take}
use Rattle.std.specs.List.{count_by}
use Rattle.run_report.specs.Summary.{is_send}
use Rattle.run_report.proofs.summary.sends_of.Given as goal

abbrev pub invariant-loop-entry : goal.invariant-loop-entry
invariant-loop-entry l = l.count ≡ count_by is_send (take l.entry-index l.entries)
