use Rattle.session_desk.specs.Steps.{parting}
use Rattle.session_desk.proofs.Counting.{greet_count, hear_count, parting_brings_none, tick_count}
use Rattle.session_desk.proofs.laws.none_comes.Goals as goal

pub returns-clause-greets : goal.returns-clause-greets
returns-clause-greets c = greet_count c.boards_go_on.ensures.count

pub returns-clause-hears : goal.returns-clause-hears
returns-clause-hears c = hear_count c.boards_go_on.ensures.count

pub returns-clause-ticks : goal.returns-clause-ticks
returns-clause-ticks c = tick_count c.boards_go_on.ensures.count

pub returns-clause-parts : goal.returns-clause-parts
returns-clause-parts c = λ session k cause old new is. c.boards_go_on.ensures.count (parting session k cause) old new (parting_brings_none session k cause) is
