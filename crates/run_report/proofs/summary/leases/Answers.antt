use Rattle.std.proofs.Common.{◌∙◌, arith}
use Rattle.run_report.specs.Summary.{leases_in}
use Rattle.run_report.proofs.Sums.{told_sum-more}
use Rattle.run_report.proofs.summary.leases.Goals as goal

pub loop-session-preserved : goal.loop-session-preserved
loop-session-preserved c =
    told_sum-more leases_in c.args.sessions.now c.loop-session.session-index c.session-item.result _ _ _
    (omega (arith, c.loop-session-test.true)) c.session-item.is (c.from.ensures ∙ c.owner-lease.ensures.lease) c.loop-session.invariant c.saturating_add-sum.ensures
