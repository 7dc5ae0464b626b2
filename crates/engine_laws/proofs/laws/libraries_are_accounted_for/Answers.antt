use Rattle.engine_laws.proofs.Accounting.{account_laws}
use Rattle.engine_laws.proofs.LibrarySteps.{ran_for, served}
use Rattle.engine_laws.proofs.laws.libraries_are_accounted_for.Goals as goal

pub returns-clause-runs : goal.returns-clause-runs
returns-clause-runs c = ran_for (account_laws c.happenings_are_accounted_for.ensures)

pub returns-clause-serves : goal.returns-clause-serves
returns-clause-serves c = served (account_laws c.happenings_are_accounted_for.ensures) c.serving_happens.ensures.serves
