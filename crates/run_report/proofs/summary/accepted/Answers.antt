use Rattle.std.proofs.Common.{arith}
use Rattle.run_report.specs.Summary.{accepted_in}
use Rattle.run_report.proofs.Sums.{told_sum-more}
use Rattle.run_report.proofs.summary.accepted.Goals as goal

pub loop-session-preserved : goal.loop-session-preserved
loop-session-preserved c =
    told_sum-more accepted_in c.args.sessions.now c.loop-session.session-index c.session-item.result _ _ _
    (omega (arith, c.loop-session-test.true)) c.session-item.is c.len.ensures.length c.loop-session.invariant c.saturating_add-sum.ensures
