use Rattle.std.proofs.Common.{◌≡◌, true, false, refl}
use Rattle.serve_run.proofs.Working.{has_run, stays_worker}
use Rattle.serve_run.proofs.workers.Worker.work.Goals as goal

pub returns-in-Ok-clause-works : goal.returns-in-Ok-clause-works
returns-in-Ok-clause-works g c =
    let told = c.in-Ok.ensures in
    record {
      runs = λ whole. has_run (g.G.Gate.open_wide c.args.gate.now) c.args.turns c.args.self.now _ c.as_slice-plan.result.now c.as_slice-plan.ensures.value told.runs told.calls told.calls_given_up told.waited told.counts told.told;
      runs_short = λ short. absurd (let no : false ≡ true = short in cc);
      belongings = told.belongings;
      rest = refl;
    }

pub returns-in-Ok-clause-worker : goal.returns-in-Ok-clause-worker
returns-in-Ok-clause-worker g c = stays_worker c.args.shared.now c.args.self.now _ refl c.in-Ok.ensures.belongings c.requires.ready.is

pub returns-in-Err-clause-worker : goal.returns-in-Err-clause-worker
returns-in-Err-clause-worker g c = stays_worker c.args.shared.now c.args.self.now _ refl c.in-Err.ensures.belongings c.requires.ready.is
