use Rattle.session_book.proofs.Waiting.{binding_begun, binding_waits, dial_begun, dial_waits, lapse_waits, leave_waits, message_begun, message_waits, request_waits, tick_begun, tick_waits, timeout_waits, word_waits, written_here, written_kept, written_there}
use Rattle.session_book.proofs.laws.what_waits_can_be_written.Goals as goal

pub returns-clause-message : goal.returns-clause-message
returns-clause-message c = message_waits c.grounds.ensures.logs c.items_stay_queued.ensures.grow c.items_stay_queued.ensures.queue

pub returns-clause-bind : goal.returns-clause-bind
returns-clause-bind c = binding_waits c.grounds.ensures.logs c.items_stay_queued.ensures.grow c.items_stay_queued.ensures.queue

pub returns-clause-dial : goal.returns-clause-dial
returns-clause-dial c = dial_waits c.grounds.ensures.logs c.items_stay_queued.ensures.grow c.items_stay_queued.ensures.queue

pub returns-clause-tick : goal.returns-clause-tick
returns-clause-tick c = tick_waits c.grounds.ensures.logs c.items_stay_queued.ensures.grow c.items_stay_queued.ensures.queue c.grounds.ensures.runs.same

pub returns-clause-word : goal.returns-clause-word
returns-clause-word c = word_waits c.grounds.ensures.logs c.items_stay_queued.ensures.grow c.items_stay_queued.ensures.queue

pub returns-clause-timeout : goal.returns-clause-timeout
returns-clause-timeout c = timeout_waits c.grounds.ensures.logs c.items_stay_queued.ensures.grow c.items_stay_queued.ensures.queue

pub returns-clause-leave : goal.returns-clause-leave
returns-clause-leave c = leave_waits c.grounds.ensures.logs c.items_stay_queued.ensures.grow c.items_stay_queued.ensures.queue

pub returns-clause-request : goal.returns-clause-request
returns-clause-request c = request_waits c.grounds.ensures.logs c.items_stay_queued.ensures.grow c.items_stay_queued.ensures.queue

pub returns-clause-lapse : goal.returns-clause-lapse
returns-clause-lapse c = lapse_waits c.grounds.ensures.logs c.items_stay_queued.ensures.grow c.items_stay_queued.ensures.queue

pub returns-clause-begun_message : goal.returns-clause-begun_message
returns-clause-begun_message c = message_begun c.grounds.ensures.logs c.items_stay_queued.ensures.grow c.items_stay_queued.ensures.queue

pub returns-clause-begun_bind : goal.returns-clause-begun_bind
returns-clause-begun_bind c = binding_begun c.grounds.ensures.logs c.items_stay_queued.ensures.grow c.items_stay_queued.ensures.queue

pub returns-clause-begun_dial : goal.returns-clause-begun_dial
returns-clause-begun_dial c = dial_begun c.grounds.ensures.logs c.items_stay_queued.ensures.grow c.items_stay_queued.ensures.queue

pub returns-clause-begun_tick : goal.returns-clause-begun_tick
returns-clause-begun_tick c = tick_begun c.grounds.ensures.logs c.items_stay_queued.ensures.grow c.items_stay_queued.ensures.queue c.grounds.ensures.runs.same

pub returns-clause-here : goal.returns-clause-here
returns-clause-here c = written_here

pub returns-clause-there : goal.returns-clause-there
returns-clause-there c = written_there

pub returns-clause-kept : goal.returns-clause-kept
returns-clause-kept c = written_kept

pub returns-clause-unmade : goal.returns-clause-unmade
returns-clause-unmade c = λ book out known. c.items_have_text.ensures.unmade _ book.outbound known.items out known.are
