use Rattle.std.proofs.Common.{◌≡◌, ◌+◌, ◌++◌, drop}
use Rattle.run_report.specs.Connections.{connection_text}
use Rattle.run_report.specs.Lines.{numbered_texts}
use Rattle.run_report.proofs.connection_lines.put_numbered.Given as goal

abbrev pub invariant-loop-c : goal.invariant-loop-c
invariant-loop-c l = l.out.items ++ numbered_texts connection_text (l.first + l.c) (drop l.c l.connections) ≡ l.initial.out.items ++ numbered_texts connection_text l.first l.connections
