use Rattle.session_core.specs.Ask.{after_ask, ask}
use Rattle.session_core.specs.Receive.{after_receive, receive}
use Rattle.session_core.specs.Tick.{after_tick, tick}
use Rattle.session_book.proofs.GoingOn.{begun_on, inbound_first, lapse_on, leave_on, machine_on, open_on, opening_on, request_on, timeout_on, went_further, went_nowhere, word_on}
use Rattle.session_book.proofs.laws.sessions_go_on.Goals as goal

pub returns-clause-message : goal.returns-clause-message
returns-clause-message c = λ at body desk. machine_on c.grounds.ensures.logs at (receive desk.book.machine body at).acts (after_receive desk.book.machine body at) desk

pub returns-clause-bind : goal.returns-clause-bind
returns-clause-bind c = λ k at body desk. open_on c.grounds.ensures.logs k at (receive desk.book.machine body at).acts (after_receive desk.book.machine body at) desk

pub returns-clause-dial : goal.returns-clause-dial
returns-clause-dial c = λ k at desk. open_on c.grounds.ensures.logs k at (ask desk.book.machine).acts (after_ask desk.book.machine at) desk

pub returns-clause-tick : goal.returns-clause-tick
returns-clause-tick c = λ at desk. machine_on c.grounds.ensures.logs at (tick desk.book.machine at).acts (after_tick desk.book.machine at) desk

pub returns-clause-leave : goal.returns-clause-leave
returns-clause-leave c = leave_on c.grounds.ensures.logs

pub returns-clause-word : goal.returns-clause-word
returns-clause-word c = word_on c.grounds.ensures.logs

pub returns-clause-timeout : goal.returns-clause-timeout
returns-clause-timeout c = timeout_on c.grounds.ensures.logs

pub returns-clause-request : goal.returns-clause-request
returns-clause-request c = request_on c.grounds.ensures.logs

pub returns-clause-lapse : goal.returns-clause-lapse
returns-clause-lapse c = lapse_on c.grounds.ensures.logs

pub returns-clause-begun : goal.returns-clause-begun
returns-clause-begun c = begun_on c.grounds.ensures.logs

pub returns-clause-opened : goal.returns-clause-opened
returns-clause-opened c = opening_on c.grounds.ensures.logs

pub returns-clause-itself : goal.returns-clause-itself
returns-clause-itself c = went_nowhere c.grounds.ensures.logs

pub returns-clause-further : goal.returns-clause-further
returns-clause-further c = went_further c.grounds.ensures.logs

pub returns-clause-accepted : goal.returns-clause-accepted
returns-clause-accepted c = inbound_first
