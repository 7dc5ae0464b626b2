use Rattle.session_core.specs.Ask.{ask, after_ask}
use Rattle.session_core.specs.Receive.{receive, after_receive}
use Rattle.session_core.specs.Tick.{tick, after_tick}
use Rattle.session_book.proofs.Carried.{bound_with, carried_with}
use Rattle.session_book.proofs.laws.acts_are_told.Goals as goal

pub returns-clause-message : goal.returns-clause-message
returns-clause-message c = λ at body desk is.
    carried_with c.grounds.ensures.logs c.grounds.ensures.runs.stay at (receive desk.book.machine body at).acts (after_receive desk.book.machine body at) desk is

pub returns-clause-tick : goal.returns-clause-tick
returns-clause-tick c = λ at desk is.
    carried_with c.grounds.ensures.logs c.grounds.ensures.runs.stay at (tick desk.book.machine at).acts (after_tick desk.book.machine at) desk is

pub returns-clause-bind : goal.returns-clause-bind
returns-clause-bind c = λ k at body desk is.
    bound_with c.grounds.ensures.logs c.grounds.ensures.runs.stay k at (receive desk.book.machine body at).acts (after_receive desk.book.machine body at) desk is

pub returns-clause-dial : goal.returns-clause-dial
returns-clause-dial c = λ k at desk is.
    bound_with c.grounds.ensures.logs c.grounds.ensures.runs.stay k at (ask desk.book.machine).acts (after_ask desk.book.machine at) desk is
