use Rattle.engine_laws.proofs.Accounting.{account_laws}
use Rattle.engine_laws.proofs.Turns.{accounted_further, all_written, next_accepted, one_read, one_served, records_handed_out, session_dialled, session_noted, session_published, session_ticked, stays_accounted_for}
use Rattle.engine_laws.proofs.laws.steps_are_accounted_for.Goals as goal

pub returns-clause-accepts : goal.returns-clause-accepts
returns-clause-accepts c = λ answer old new is. stays_accounted_for old.engine new.engine (next_accepted (account_laws c.happenings_are_accounted_for.ensures) answer old new is)

pub returns-clause-dials : goal.returns-clause-dials
returns-clause-dials c = λ s old new is. stays_accounted_for old.engine new.engine (session_dialled (account_laws c.happenings_are_accounted_for.ensures) s old new is)

pub returns-clause-reads : goal.returns-clause-reads
returns-clause-reads c = λ k old new is. stays_accounted_for old.engine new.engine (one_read (account_laws c.happenings_are_accounted_for.ensures) k old new is)

pub returns-clause-ticks : goal.returns-clause-ticks
returns-clause-ticks c = λ s old new is. stays_accounted_for old new (session_ticked (account_laws c.happenings_are_accounted_for.ensures) s old new is)

pub returns-clause-serves : goal.returns-clause-serves
returns-clause-serves c = λ library old new is. stays_accounted_for old.engine new.engine (one_served (account_laws c.happenings_are_accounted_for.ensures) c.serving_happens.ensures.serves library old new is)

pub returns-clause-notes : goal.returns-clause-notes
returns-clause-notes c = λ s old new is. stays_accounted_for old new (session_noted (account_laws c.happenings_are_accounted_for.ensures) s old new is)

pub returns-clause-publishes : goal.returns-clause-publishes
returns-clause-publishes c = λ s old new is. stays_accounted_for old new (session_published (account_laws c.happenings_are_accounted_for.ensures) s old new is)

pub returns-clause-writes : goal.returns-clause-writes
returns-clause-writes c = λ links_old links_new old new bytes is. stays_accounted_for old new (all_written (account_laws c.happenings_are_accounted_for.ensures) links_old links_new old new bytes is)

pub returns-clause-hands_out : goal.returns-clause-hands_out
returns-clause-hands_out c = λ old new records is. stays_accounted_for old new (records_handed_out (account_laws c.happenings_are_accounted_for.ensures) old new records is)

pub returns-clause-further : goal.returns-clause-further
returns-clause-further c = accounted_further (account_laws c.happenings_are_accounted_for.ensures)
