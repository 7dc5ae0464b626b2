use Rattle.session_book.proofs.RunEvents.{binding_begun, dial_begun, message_begun, tick_begun}
use Rattle.session_book.proofs.laws.runs_are_begun.Goals as goal

pub returns-clause-bind : goal.returns-clause-bind
returns-clause-bind c = binding_begun c.grounds.ensures.runs

pub returns-clause-dial : goal.returns-clause-dial
returns-clause-dial c = dial_begun c.grounds.ensures.runs

pub returns-clause-message : goal.returns-clause-message
returns-clause-message c = message_begun c.grounds.ensures.runs

pub returns-clause-tick : goal.returns-clause-tick
returns-clause-tick c = tick_begun c.grounds.ensures.runs
