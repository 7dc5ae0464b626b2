use Rattle.session_book.proofs.SendEvents.{binding_sends, dial_sends, first_sends, lapse_sends, leave_sends, message_sends, request_sends, tick_sends, timeout_sends, word_sends}
use Rattle.session_book.proofs.laws.sends_are_told.Goals as goal

pub returns-clause-first : goal.returns-clause-first
returns-clause-first c = first_sends

pub returns-clause-word : goal.returns-clause-word
returns-clause-word c = word_sends c.grounds.ensures.runs

pub returns-clause-timeout : goal.returns-clause-timeout
returns-clause-timeout c = timeout_sends c.grounds.ensures.runs

pub returns-clause-message : goal.returns-clause-message
returns-clause-message c = message_sends c.grounds.ensures.runs

pub returns-clause-tick : goal.returns-clause-tick
returns-clause-tick c = tick_sends c.grounds.ensures.runs

pub returns-clause-bind : goal.returns-clause-bind
returns-clause-bind c = binding_sends c.grounds.ensures.runs

pub returns-clause-dial : goal.returns-clause-dial
returns-clause-dial c = dial_sends c.grounds.ensures.runs

pub returns-clause-leave : goal.returns-clause-leave
returns-clause-leave c = leave_sends c.grounds.ensures.runs

pub returns-clause-request : goal.returns-clause-request
returns-clause-request c = request_sends c.grounds.ensures.runs

pub returns-clause-lapse : goal.returns-clause-lapse
returns-clause-lapse c = lapse_sends c.grounds.ensures.runs
