use Rattle.session_book.proofs.MomentEvents.{binding_timed, dial_timed, first_timed, lapse_timed, later_timed, leave_timed, message_timed, request_timed, tick_timed, timeout_timed, word_timed}
use Rattle.session_book.proofs.laws.beats_come_in_time.Goals as goal

pub returns-clause-first : goal.returns-clause-first
returns-clause-first c = λ book at none up_to. first_timed book at none up_to c.grounds.ensures.runs.same.reflexive

pub returns-clause-later : goal.returns-clause-later
returns-clause-later c = later_timed

pub returns-clause-bind : goal.returns-clause-bind
returns-clause-bind c = binding_timed c.grounds.ensures.runs c.phases_follow.ensures.heart c.plans_answer.ensures.answers

pub returns-clause-dial : goal.returns-clause-dial
returns-clause-dial c = dial_timed c.grounds.ensures.runs c.phases_follow.ensures.heart c.plans_answer.ensures.answers

pub returns-clause-message : goal.returns-clause-message
returns-clause-message c = message_timed c.grounds.ensures.runs c.phases_follow.ensures.heart c.plans_answer.ensures.answers

pub returns-clause-tick : goal.returns-clause-tick
returns-clause-tick c = tick_timed c.grounds.ensures.runs c.phases_follow.ensures.heart c.plans_answer.ensures.answers

pub returns-clause-leave : goal.returns-clause-leave
returns-clause-leave c = leave_timed c.grounds.ensures.runs c.phases_follow.ensures.heart c.plans_answer.ensures.answers

pub returns-clause-word : goal.returns-clause-word
returns-clause-word c = word_timed c.grounds.ensures.runs c.phases_follow.ensures.heart c.plans_answer.ensures.answers

pub returns-clause-timeout : goal.returns-clause-timeout
returns-clause-timeout c = timeout_timed c.grounds.ensures.runs c.phases_follow.ensures.heart c.plans_answer.ensures.answers

pub returns-clause-request : goal.returns-clause-request
returns-clause-request c = request_timed c.grounds.ensures.runs c.phases_follow.ensures.heart c.plans_answer.ensures.answers

pub returns-clause-lapse : goal.returns-clause-lapse
returns-clause-lapse c = lapse_timed c.grounds.ensures.runs c.phases_follow.ensures.heart c.plans_answer.ensures.answers
