use Rattle.engine_laws.proofs.Accounting.{account_laws}
use Rattle.engine_laws.proofs.Lines.{accepted_as, all_handled, body_handled, dialled_as, next_handled, parted_if_needed, read, written, written_in_turn}
use Rattle.engine_laws.proofs.laws.lines_are_accounted_for.Goals as goal

pub returns-clause-accepts : goal.returns-clause-accepts
returns-clause-accepts c = accepted_as (account_laws c.happenings_are_accounted_for.ensures)

pub returns-clause-dials : goal.returns-clause-dials
returns-clause-dials c = dialled_as (account_laws c.happenings_are_accounted_for.ensures)

pub returns-clause-handles_body : goal.returns-clause-handles_body
returns-clause-handles_body c = body_handled (account_laws c.happenings_are_accounted_for.ensures)

pub returns-clause-handles_next : goal.returns-clause-handles_next
returns-clause-handles_next c = next_handled (account_laws c.happenings_are_accounted_for.ensures)

pub returns-clause-handles_all : goal.returns-clause-handles_all
returns-clause-handles_all c = all_handled (account_laws c.happenings_are_accounted_for.ensures)

pub returns-clause-reads : goal.returns-clause-reads
returns-clause-reads c = read (account_laws c.happenings_are_accounted_for.ensures)

pub returns-clause-parts_if_needed : goal.returns-clause-parts_if_needed
returns-clause-parts_if_needed c = parted_if_needed (account_laws c.happenings_are_accounted_for.ensures)

pub returns-clause-writes : goal.returns-clause-writes
returns-clause-writes c = written (account_laws c.happenings_are_accounted_for.ensures)

pub returns-clause-writes_in_turn : goal.returns-clause-writes_in_turn
returns-clause-writes_in_turn c = written_in_turn (account_laws c.happenings_are_accounted_for.ensures)
