use Rattle.std.proofs.Common.{◌≡◌, ◌++◌, drop}
use Rattle.run_report.specs.Lines.{numbered_texts}
use Rattle.run_report.specs.Sessions.{inbound_line}
use Rattle.run_report.proofs.log_lines.put_inbound.Given as goal

abbrev pub invariant-loop-pos : goal.invariant-loop-pos
invariant-loop-pos l = l.out.items ++ numbered_texts inbound_line l.pos (drop l.pos l.log.items) ≡ l.initial.out.items ++ numbered_texts inbound_line 0 l.log.items
