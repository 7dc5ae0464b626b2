use Rattle.session_core.specs.Ask.{after_ask, ask}
use Rattle.session_core.specs.Receive.{after_receive, receive}
use Rattle.session_core.specs.Tick.{after_tick, tick}
use Rattle.session_book.proofs.LeasesStay.{acts_leases, begun_leases, leave_leases, machine_leases, open_leases, opening_leases}
use Rattle.session_book.proofs.laws.leases_stay.Goals as goal

pub returns-clause-message : goal.returns-clause-message
returns-clause-message c = λ at body desk.
    machine_leases c.entries_decide_one_by_one.ensures.state c.lines_go_on.ensures.one at (receive desk.book.machine body at).acts (after_receive desk.book.machine body at) desk

pub returns-clause-bind : goal.returns-clause-bind
returns-clause-bind c = λ k at body desk.
    open_leases c.entries_decide_one_by_one.ensures.state c.lines_go_on.ensures.one k at (receive desk.book.machine body at).acts (after_receive desk.book.machine body at) desk

pub returns-clause-dial : goal.returns-clause-dial
returns-clause-dial c = λ k at desk.
    open_leases c.entries_decide_one_by_one.ensures.state c.lines_go_on.ensures.one k at (ask desk.book.machine).acts (after_ask desk.book.machine at) desk

pub returns-clause-tick : goal.returns-clause-tick
returns-clause-tick c = λ at desk.
    machine_leases c.entries_decide_one_by_one.ensures.state c.lines_go_on.ensures.one at (tick desk.book.machine at).acts (after_tick desk.book.machine at) desk

pub returns-clause-leave : goal.returns-clause-leave
returns-clause-leave c = leave_leases c.entries_decide_one_by_one.ensures.state c.lines_go_on.ensures.one

pub returns-clause-acts : goal.returns-clause-acts
returns-clause-acts c = acts_leases c.entries_decide_one_by_one.ensures.state c.lines_go_on.ensures.one

pub returns-clause-begun : goal.returns-clause-begun
returns-clause-begun c = begun_leases c.entries_decide_one_by_one.ensures.state c.lines_go_on.ensures.one

pub returns-clause-opened : goal.returns-clause-opened
returns-clause-opened c = opening_leases c.entries_decide_one_by_one.ensures.state c.lines_go_on.ensures.one
