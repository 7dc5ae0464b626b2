use Rattle.std.proofs.Common.{arith}
use Rattle.run_report.proofs.Numbered.{series_texts-more}
use Rattle.run_report.proofs.log_lines.put_outbound.Goals as goal

pub loop-before-preserved : goal.loop-before-preserved
loop-before-preserved c =
    series_texts-more c.args.log.now.series c.loop-before.before _ _ _ (omega (arith, c.loop-before-test.true, c.series-before-end.ensures.present))
    c.in_ok-put_series.ensures c.loop-before.invariant
