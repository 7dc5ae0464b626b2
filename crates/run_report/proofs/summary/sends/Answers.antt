use Rattle.std.proofs.Common.{◌∙◌, ap, arith}
use Rattle.run_report.specs.Summary.{sends_in, is_send}
use Rattle.run_report.proofs.Sums.{told_sum-more}
use Rattle.std.specs.List.{count_by}
use Rattle.run_report.proofs.summary.sends.Goals as goal

pub loop-session-preserved : goal.loop-session-preserved
loop-session-preserved c =
    told_sum-more sends_in c.args.sessions.now c.loop-session.session-index c.session-item.result _ _ _
    (omega (arith, c.loop-session-test.true)) c.session-item.is (c.sends_of.ensures ∙ ap (count_by is_send) c.entries.ensures.entries) c.loop-session.invariant c.saturating_add-sum.ensures
