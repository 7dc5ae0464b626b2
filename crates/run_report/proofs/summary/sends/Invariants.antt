use Rattle.std.proofs.Common.{◌≡◌, take}
use Rattle.run_report.specs.Summary.{sends_in, told_sum}
use Rattle.run_report.proofs.summary.sends.Given as goal

abbrev pub invariant-loop-session : goal.invariant-loop-session
invariant-loop-session l = l.sum ≡ told_sum sends_in (take l.session-index l.sessions)
