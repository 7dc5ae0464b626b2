use Rattle.std.proofs.Common.{refl}
use Rattle.library_desk.proofs.Running.{come_in_order, nothing_handled, one_behind_another, served, stays}
use Rattle.library_desk.proofs.laws.serving_happens.Goals as goal

pub returns-clause-serves : goal.returns-clause-serves
returns-clause-serves c = served c.boards_stay_ready.ensures.further

pub returns-clause-none : goal.returns-clause-none
returns-clause-none c = λ at board. stays at board board refl

pub returns-clause-further : goal.returns-clause-further
returns-clause-further c = one_behind_another c.boards_stay_ready.ensures.further

pub returns-clause-ready : goal.returns-clause-ready
returns-clause-ready c = λ before at old new run. c.boards_stay_ready.ensures.run before run.happenings old new run.reaches

pub returns-clause-in_order : goal.returns-clause-in_order
returns-clause-in_order c = come_in_order

pub returns-clause-in_hand : goal.returns-clause-in_hand
returns-clause-in_hand c = nothing_handled
