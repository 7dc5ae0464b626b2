use Rattle.engine_laws.proofs.Accounting.{account_laws}
use Rattle.engine_laws.proofs.Sessions.{dialled_to, gathered, greeted, heard, parted, ticked}
use Rattle.engine_laws.proofs.laws.sessions_are_accounted_for.Goals as goal

pub returns-clause-gathers : goal.returns-clause-gathers
returns-clause-gathers c = gathered (account_laws c.happenings_are_accounted_for.ensures)

pub returns-clause-hears : goal.returns-clause-hears
returns-clause-hears c = heard (account_laws c.happenings_are_accounted_for.ensures)

pub returns-clause-greets : goal.returns-clause-greets
returns-clause-greets c = greeted (account_laws c.happenings_are_accounted_for.ensures)

pub returns-clause-ticks : goal.returns-clause-ticks
returns-clause-ticks c = ticked (account_laws c.happenings_are_accounted_for.ensures)

pub returns-clause-dials_to : goal.returns-clause-dials_to
returns-clause-dials_to c = dialled_to (account_laws c.happenings_are_accounted_for.ensures)

pub returns-clause-parts : goal.returns-clause-parts
returns-clause-parts c = parted (account_laws c.happenings_are_accounted_for.ensures)
