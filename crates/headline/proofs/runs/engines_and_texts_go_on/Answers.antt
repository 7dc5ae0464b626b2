use Rattle.headline.proofs.runs.engines_and_texts_go_on.Goals as goal

pub returns : goal.returns
returns c = λ before start. record {
  going = c.turns_and_boards_go_on.ensures;
  turn = c.engines_are_accounted_for.ensures.turn before start;
  meets = c.engines_are_accounted_for.ensures.meets before start;
  leaves = c.engines_are_accounted_for.ensures.leaves before start;
  text_turn = λ shared. c.texts_are_taken.ensures.turn shared before;
  text_known = c.texts_are_taken.ensures.known;
}
