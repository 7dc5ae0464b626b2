use Rattle.std.proofs.Common.{◌+◌, ◌≤◌, add-one, ap, ◌∙◌, arith}
use Rattle.library_api.specs.Waits.{Waits, most_waits}
use Rattle.library_api.specs.declared.waited.WaitKind.TheVariants.{Done}
use Rattle.plan_runner.proofs.Waiting.{counts}
use Rattle.plan_runner.proofs.telling.tell_done.Goals as goal

pub telling-preserved : goal.telling-preserved
telling-preserved g c =
    let was = c.telling.invariant in
    let now = c.tell.ensures in
    let waits = now.waits c.if-tell.false in
    let most : c.telling._fulls + 1 ≤ most_waits = omega (arith, c.telling-test.true, c.ranges.turns.fits) in
    record {
      fulls = rw add-one (c.telling.library, was.fulls, now.full c.if-tell.false);
      waits = λ some. (ap (λ (w : Waits). w.kind) waits, let n = counts Done c.telling._fulls c.telling.library.waited tt was.waits most in omega (arith, n, ap (λ (w : Waits). w.count) waits));
      belongings_stay = now.belongings ∙ was.belongings_stay;
    }
