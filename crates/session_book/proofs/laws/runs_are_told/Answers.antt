use Rattle.session_book.proofs.RunEvents.{binding_run, dial_run, first_run, lapse_run, leave_run, message_run, request_run, tick_run, timeout_run, word_run}
use Rattle.session_book.proofs.laws.runs_are_told.Goals as goal

pub returns-clause-first : goal.returns-clause-first
returns-clause-first c = λ book none. first_run book none c.grounds.ensures.runs.same.reflexive

pub returns-clause-bind : goal.returns-clause-bind
returns-clause-bind c = binding_run c.grounds.ensures.runs

pub returns-clause-dial : goal.returns-clause-dial
returns-clause-dial c = dial_run c.grounds.ensures.runs

pub returns-clause-message : goal.returns-clause-message
returns-clause-message c = message_run c.grounds.ensures.runs

pub returns-clause-leave : goal.returns-clause-leave
returns-clause-leave c = leave_run c.grounds.ensures.runs

pub returns-clause-tick : goal.returns-clause-tick
returns-clause-tick c = tick_run c.grounds.ensures.runs

pub returns-clause-word : goal.returns-clause-word
returns-clause-word c = word_run c.grounds.ensures.runs

pub returns-clause-timeout : goal.returns-clause-timeout
returns-clause-timeout c = timeout_run c.grounds.ensures.runs

pub returns-clause-request : goal.returns-clause-request
returns-clause-request c = request_run c.grounds.ensures.runs

pub returns-clause-lapse : goal.returns-clause-lapse
returns-clause-lapse c = lapse_run c.grounds.ensures.runs
