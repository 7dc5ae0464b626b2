use Rattle.std.proofs.Common.{◌≡◌, ◌+◌, ◌++◌, drop}
use Rattle.run_report.specs.Lines.{numbered_texts}
use Rattle.run_report.specs.Sessions.{series_text}
use Rattle.run_report.proofs.log_lines.put_outbound.Given as goal

abbrev pub invariant-loop-before : goal.invariant-loop-before
invariant-loop-before l = l.out.items ++ numbered_texts series_text (l.before + 1) (drop l.before l.log.series) ≡ l.initial.out.items ++ numbered_texts series_text 1 l.log.series
