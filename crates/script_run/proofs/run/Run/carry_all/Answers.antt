use Rattle.std.proofs.Common.{◌≡◌, ℕ, length, drop, add-one, refl, subst, sym, ◌∙◌}
use Rattle.std.proofs.lemmas.Option.{slice_get_read}
use Rattle.script_run.specs.Comes.{FitBehind, FitsOn}
use Rattle.script_run.proofs.Fit.{first_fits, rest_fit}
use Rattle.script_run.proofs.Seated.{on_err}
use Rattle.script_run.proofs.run.Run.carry_all.Goals as goal

pub carry-requires-clause-fits : goal.carry-requires-clause-fits
carry-requires-clause-fits c =
    let was = c.loop-step.invariant in
    subst (λ (n : ℕ). FitsOn n c.loop-step.self.wire c.step-item.result) (sym was.count)
    (first_fits (length c.args.self.now.callers.items) c.loop-step.self.wire c.args.steps.now c.loop-step.step-index c.step-item.result c.loop-step-test.true (sym c.step-item.is) was.fit)

pub loop-step-preserved : goal.loop-step-preserved
loop-step-preserved c =
    let was = c.loop-step.invariant in
    let now = c.in_ok-carry.ensures in
    let steps = c.args.steps.now in
    let i = c.loop-step.step-index in
    record {
      carries = rw add-one (c.loop-step.self, was.carries, record { what = c.step-item.result; is = slice_get_read steps _ i c.step-item.result refl c.loop-step-test.true c.step-item.is; carries = now.carries });
      running = now.running;
      stands = now.stands;
      fit = rw add-one (rest_fit (length c.args.self.now.callers.items) c.loop-step.self.wire c.carry.new.self.wire steps i c.step-item.result c.loop-step-test.true (sym c.step-item.is) now.made was.fit);
      count = now.count ∙ was.count;
    }

pub returns-in_err-carry-clause-stops : goal.returns-in_err-carry-clause-stops
returns-in_err-carry-clause-stops c =
    on_err c.from_residual.result (record { count = c.loop-step.step-index; few = c.loop-step-test.true; between = c.loop-step.self; carries = c.loop-step.invariant.carries; stops = c.in_err-carry.ensures.stops; libraries = c.carry.ensures.count })
