use Rattle.session_book.proofs.GoingOn.{dial_begun, dial_inbound, tick_begun, tick_inbound}
use Rattle.session_book.proofs.laws.inbound_logs_stay.Goals as goal

pub returns-clause-dial : goal.returns-clause-dial
returns-clause-dial c = dial_inbound

pub returns-clause-tick : goal.returns-clause-tick
returns-clause-tick c = tick_inbound c.acts_of_ticks.ensures

pub returns-clause-begun_dial : goal.returns-clause-begun_dial
returns-clause-begun_dial c = dial_begun

pub returns-clause-begun_tick : goal.returns-clause-begun_tick
returns-clause-begun_tick c = tick_begun c.acts_of_ticks.ensures
