use Rattle.std.proofs.Common.{◌≡◌, take}
use Rattle.run_report.specs.Summary.{leases_in, told_sum}
use Rattle.run_report.proofs.summary.leases.Given as goal

abbrev pub invariant-loop-session : goal.invariant-loop-session
invariant-loop-session l = l.sum ≡ told_sum leases_in (take l.session-index l.sessions)
