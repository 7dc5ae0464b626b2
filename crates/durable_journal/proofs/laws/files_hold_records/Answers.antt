use Rattle.durable_journal.proofs.Runs.{held_lawful, held_runs}
use Rattle.durable_journal.proofs.laws.files_hold_records.Goals as goal

pub returns-clause-lawful : goal.returns-clause-lawful
returns-clause-lawful c = held_lawful

pub returns-clause-runs : goal.returns-clause-runs
returns-clause-runs c = held_runs
