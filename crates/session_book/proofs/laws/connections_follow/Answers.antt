use Rattle.session_core.specs.Ask.{after_ask, ask}
use Rattle.session_core.specs.Receive.{after_receive, receive}
use Rattle.session_core.specs.Tick.{after_tick, tick}
use Rattle.session_book.specs.Book.{with_machine, with_outbox}
use Rattle.session_book.proofs.Connections.{acts_bound, begun_bound, lapse_bound, leave_bound, open_bound, opening_bound, request_bound, timeout_bound, word_bound}
use Rattle.session_book.proofs.laws.connections_follow.Goals as goal

pub returns-clause-bind : goal.returns-clause-bind
returns-clause-bind c = λ k at body desk. open_bound c.entries_decide_one_by_one.ensures.state k at (receive desk.book.machine body at).acts (after_receive desk.book.machine body at) desk

pub returns-clause-dial : goal.returns-clause-dial
returns-clause-dial c = λ k at desk. open_bound c.entries_decide_one_by_one.ensures.state k at (ask desk.book.machine).acts (after_ask desk.book.machine at) desk

pub returns-clause-leave : goal.returns-clause-leave
returns-clause-leave c = leave_bound c.entries_decide_one_by_one.ensures.state

pub returns-clause-message : goal.returns-clause-message
returns-clause-message c = λ at body desk.
    acts_bound c.entries_decide_one_by_one.ensures.state at (receive desk.book.machine body at).acts (with_outbox (with_machine (after_receive desk.book.machine body at) desk.book) desk.outgoing)

pub returns-clause-tick : goal.returns-clause-tick
returns-clause-tick c = λ at desk.
    acts_bound c.entries_decide_one_by_one.ensures.state at (tick desk.book.machine at).acts (with_outbox (with_machine (after_tick desk.book.machine at) desk.book) desk.outgoing)

pub returns-clause-word : goal.returns-clause-word
returns-clause-word c = word_bound c.entries_decide_one_by_one.ensures.state c.entries_decide_one_by_one.ensures.states

pub returns-clause-timeout : goal.returns-clause-timeout
returns-clause-timeout c = timeout_bound c.entries_decide_one_by_one.ensures.state c.entries_decide_one_by_one.ensures.states

pub returns-clause-request : goal.returns-clause-request
returns-clause-request c = request_bound c.entries_decide_one_by_one.ensures.state c.entries_decide_one_by_one.ensures.states

pub returns-clause-lapse : goal.returns-clause-lapse
returns-clause-lapse c = lapse_bound c.entries_decide_one_by_one.ensures.state

pub returns-clause-begun : goal.returns-clause-begun
returns-clause-begun c = begun_bound c.entries_decide_one_by_one.ensures.state

pub returns-clause-opened : goal.returns-clause-opened
returns-clause-opened c = opening_bound c.entries_decide_one_by_one.ensures.state
