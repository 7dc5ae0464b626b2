use Rattle.std.proofs.Common.{refl, arith}
use Rattle.run_report.specs.Summary.{reads_in}
use Rattle.run_report.proofs.Sums.{told_sum-more}
use Rattle.run_report.proofs.summary.reads.Goals as goal

pub loop-library-preserved : goal.loop-library-preserved
loop-library-preserved c =
    told_sum-more reads_in c.args.libraries.now c.loop-library.library-index c.library-item.result _ _ _
    (omega (arith, c.loop-library-test.true)) c.library-item.is refl c.loop-library.invariant c.saturating_add-sum.ensures
