use Rattle.durable_journal.proofs.Runs.{runs_front}
use Rattle.durable_journal.proofs.laws.beginnings_are_runs.Goals as goal

pub returns : goal.returns
returns c = runs_front
