use Rattle.session_book.proofs.Telling.{binding_tells, dial_tells, message_tells, end_tells, lapse_tells, queues_then, request_tells, tick_tells, timeout_tells, word_tells}
use Rattle.session_book.proofs.laws.what_is_told_is_queued.Goals as goal

pub returns-clause-message : goal.returns-clause-message
returns-clause-message c = message_tells c.grounds.ensures.logs

pub returns-clause-tick : goal.returns-clause-tick
returns-clause-tick c = tick_tells c.grounds.ensures.logs

pub returns-clause-bind : goal.returns-clause-bind
returns-clause-bind c = binding_tells c.grounds.ensures.logs

pub returns-clause-dial : goal.returns-clause-dial
returns-clause-dial c = dial_tells c.grounds.ensures.logs

pub returns-clause-word : goal.returns-clause-word
returns-clause-word c = word_tells c.grounds.ensures.logs

pub returns-clause-timeout : goal.returns-clause-timeout
returns-clause-timeout c = timeout_tells c.grounds.ensures.logs

pub returns-clause-leave : goal.returns-clause-leave
returns-clause-leave c = end_tells c.grounds.ensures.logs

pub returns-clause-request : goal.returns-clause-request
returns-clause-request c = request_tells c.grounds.ensures.logs

pub returns-clause-lapse : goal.returns-clause-lapse
returns-clause-lapse c = lapse_tells c.grounds.ensures.logs

pub returns-clause-further : goal.returns-clause-further
returns-clause-further c = queues_then c.grounds.ensures.logs.begins c.grounds.ensures.logs.further c.grounds.ensures.logs.decide_over c.grounds.ensures.logs.names
