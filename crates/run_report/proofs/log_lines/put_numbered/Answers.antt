use Rattle.std.proofs.Common.{arith}
use Rattle.message_log.specs.Series.{series_at}
use Rattle.run_report.proofs.Numbered.{found_texts-more}
use Rattle.run_report.proofs.log_lines.put_numbered.Goals as goal

pub loop-before-preserved : goal.loop-before-preserved
loop-before-preserved c =
    found_texts-more (series_at c.args.log.now.series c.args.series) c.loop-before.before _ _ _ (omega (arith, c.loop-before-test.true, c.length_of-count.ensures.length))
    c.in_ok-put_message.ensures c.loop-before.invariant
