use Rattle.headline.proofs.run_lemmas.GoingOn.{carried, carried_out, made_turn, on_further, on_itself}
use Rattle.headline.proofs.runs.runs_go_on.Goals as goal

pub returns-clause-itself : goal.returns-clause-itself
returns-clause-itself c = on_itself c.turns_and_boards_go_on.ensures

pub returns-clause-further : goal.returns-clause-further
returns-clause-further c = on_further c.turns_and_boards_go_on.ensures

pub returns-clause-turn : goal.returns-clause-turn
returns-clause-turn c = made_turn c.turns_and_boards_go_on.ensures

pub returns-clause-carries : goal.returns-clause-carries
returns-clause-carries c = carried c.turns_and_boards_go_on.ensures

pub returns-clause-carries_out : goal.returns-clause-carries_out
returns-clause-carries_out c = carried_out c.turns_and_boards_go_on.ensures
