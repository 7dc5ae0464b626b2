use Rattle.session_book.specs.Spells.{spell_items}
use Rattle.session_book.proofs.TextEvents.{binding_text, dial_text, lapse_text, leave_text, message_text, request_text, tick_text, timeout_text, word_text}
use Rattle.session_book.proofs.TextRuns.{kept_text}
use Rattle.session_book.proofs.laws.texts_are_told.Goals as goal

pub returns-clause-bind : goal.returns-clause-bind
returns-clause-bind c = λ names before first k at body desk. binding_text c.grounds.ensures.runs c.items_stay_queued.ensures.grow c.items_stay_queued.ensures.queue names before k first at body desk

pub returns-clause-dial : goal.returns-clause-dial
returns-clause-dial c = λ names before first k at desk. dial_text c.grounds.ensures.runs c.items_stay_queued.ensures.grow c.items_stay_queued.ensures.queue names before k first at desk

pub returns-clause-message : goal.returns-clause-message
returns-clause-message c = message_text c.grounds.ensures.runs c.items_stay_queued.ensures.grow c.items_stay_queued.ensures.queue

pub returns-clause-tick : goal.returns-clause-tick
returns-clause-tick c = tick_text c.grounds.ensures.runs c.items_stay_queued.ensures.grow c.items_stay_queued.ensures.queue

pub returns-clause-word : goal.returns-clause-word
returns-clause-word c = word_text c.grounds.ensures.runs c.items_stay_queued.ensures.grow c.items_stay_queued.ensures.queue

pub returns-clause-timeout : goal.returns-clause-timeout
returns-clause-timeout c = timeout_text c.grounds.ensures.runs c.items_stay_queued.ensures.grow c.items_stay_queued.ensures.queue

pub returns-clause-request : goal.returns-clause-request
returns-clause-request c = request_text c.grounds.ensures.runs c.items_stay_queued.ensures.grow c.items_stay_queued.ensures.queue

pub returns-clause-lapse : goal.returns-clause-lapse
returns-clause-lapse c = lapse_text c.grounds.ensures.runs c.items_stay_queued.ensures.grow c.items_stay_queued.ensures.queue

pub returns-clause-kept : goal.returns-clause-kept
returns-clause-kept c = λ names before k book out later. kept_text c.grounds.ensures.runs c.items_stay_queued.ensures.grow c.items_stay_queued.ensures.queue names before k book out later

pub returns-clause-leave : goal.returns-clause-leave
returns-clause-leave c = leave_text c.grounds.ensures.runs c.items_stay_queued.ensures.grow c.items_stay_queued.ensures.queue

pub returns-clause-written : goal.returns-clause-written
returns-clause-written c = λ names before k book out text. c.items_have_text.ensures.written names book.outbound (spell_items book.outbound text.spell) out text.items

pub returns-clause-whole : goal.returns-clause-whole
returns-clause-whole c = λ names before k book out text. c.items_have_text.ensures.whole names book.outbound (spell_items book.outbound text.spell) out text.items

pub returns-clause-unmade : goal.returns-clause-unmade
returns-clause-unmade c = λ names before k book out text. c.items_have_text.ensures.unmade names book.outbound (spell_items book.outbound text.spell) out text.items
