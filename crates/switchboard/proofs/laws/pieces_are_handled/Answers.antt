use Rattle.switchboard.proofs.Bringing.{first_brought, happening_brought, run_brought}
use Rattle.switchboard.proofs.laws.pieces_are_handled.Goals as goal

pub returns-clause-first : goal.returns-clause-first
returns-clause-first c = first_brought

pub returns-clause-happening : goal.returns-clause-happening
returns-clause-happening c = happening_brought

pub returns-clause-run : goal.returns-clause-run
returns-clause-run c = λ before. run_brought before (c.boards_stay_ready.ensures.happening before)
