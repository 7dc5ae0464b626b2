use Rattle.std.proofs.Common.{◌≡◌, ◌+◌, ◌++◌, drop}
use Rattle.message_log.specs.Series.{series_at}
use Rattle.run_report.specs.Lines.{numbered_texts}
use Rattle.run_report.specs.Sessions.{outbound_line}
use Rattle.run_report.proofs.log_lines.put_numbered.Given as goal

abbrev pub invariant-loop-before : goal.invariant-loop-before
invariant-loop-before l = l.out.items ++ numbered_texts outbound_line (l.before + 1) (drop l.before (series_at l.log.series l.series)) ≡ l.initial.out.items ++ numbered_texts outbound_line 1 (series_at l.log.series l.series)
