use Rattle.headline.proofs.runs.turns_and_boards_go_on.Goals as goal

pub returns : goal.returns
returns c = record {
  walks = c.turns_are_walks.ensures;
  itself = c.boards_go_on.ensures.itself;
  further = c.boards_go_on.ensures.further;
  runs = c.boards_go_on.ensures.run;
  joins = c.boards_stay_ready.ensures.further;
  serves = c.serving_happens.ensures.serves;
}
