use Rattle.engine_laws.proofs.libraries.owners_go_on.Goals as goal

pub returns : goal.returns
returns c = record {
  tell = c.lines_tell_the_owner.ensures.owner;
  over = c.lines_go_on.ensures.list;
  one = c.lines_go_on.ensures.one;
  raises = c.words_raise_lines.ensures.shown;
  holds = c.words_raise_lines.ensures.held;
  kept = c.words_raise_lines.ensures.kept;
  goes_on = c.boards_stay_in_step.ensures.goes_on;
  happens = c.boards_go_on.ensures.happening;
  runs = c.boards_go_on.ensures.run;
  desk = c.others_stay.ensures.desk;
  session = c.others_stay.ensures.session;
}
