use Rattle.std.proofs.Common.{◌≡◌, ◌++◌, drop}
use Rattle.run_report.specs.Lines.{numbered_texts}
use Rattle.run_report.specs.Sessions.{session_text}
use Rattle.run_report.proofs.report.put_sessions.Given as goal

abbrev pub invariant-loop-s : goal.invariant-loop-s
invariant-loop-s l = l.out.items ++ numbered_texts session_text l.s (drop l.s l.sessions) ≡ l.initial.out.items ++ numbered_texts session_text 0 l.sessions
