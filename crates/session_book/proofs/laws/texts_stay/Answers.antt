use Rattle.session_book.proofs.TextEvents.{other_binding, other_dial, other_lapse, other_message, other_request, other_tick, other_timeout, other_word}
use Rattle.session_book.proofs.laws.texts_stay.Goals as goal

pub returns-clause-message : goal.returns-clause-message
returns-clause-message c = other_message c.grounds.ensures.runs c.items_stay_queued.ensures.grow c.items_stay_queued.ensures.queue

pub returns-clause-tick : goal.returns-clause-tick
returns-clause-tick c = other_tick c.grounds.ensures.runs c.items_stay_queued.ensures.grow c.items_stay_queued.ensures.queue

pub returns-clause-word : goal.returns-clause-word
returns-clause-word c = other_word c.grounds.ensures.runs c.items_stay_queued.ensures.grow c.items_stay_queued.ensures.queue

pub returns-clause-timeout : goal.returns-clause-timeout
returns-clause-timeout c = other_timeout c.grounds.ensures.runs c.items_stay_queued.ensures.grow c.items_stay_queued.ensures.queue

pub returns-clause-request : goal.returns-clause-request
returns-clause-request c = other_request c.grounds.ensures.runs c.items_stay_queued.ensures.grow c.items_stay_queued.ensures.queue

pub returns-clause-lapse : goal.returns-clause-lapse
returns-clause-lapse c = other_lapse c.grounds.ensures.runs c.items_stay_queued.ensures.grow c.items_stay_queued.ensures.queue

pub returns-clause-bind : goal.returns-clause-bind
returns-clause-bind c = other_binding c.grounds.ensures.runs c.items_stay_queued.ensures.grow c.items_stay_queued.ensures.queue

pub returns-clause-dial : goal.returns-clause-dial
returns-clause-dial c = other_dial c.grounds.ensures.runs c.items_stay_queued.ensures.grow c.items_stay_queued.ensures.queue
