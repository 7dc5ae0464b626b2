use Rattle.std.proofs.Common.{length}
use Rattle.headline.proofs.FirstLogons.{FirstLaws, carried_out_first, drove_first, first_logons, gathered_first}
use Rattle.headline.proofs.laws.logons_come_first.Goals as goal

laws : goal.After-serving_happens → FirstLaws
laws c = record {
  walks = c.turns_are_walks.ensures;
  entry = c.entries_stay.ensures.entry;
  decide = c.entries_decide_one_by_one.ensures.state;
  over = c.entries_decide_one_by_one.ensures.states;
  dial = c.acts_are_told.ensures.dial;
  goes = c.boards_go_on.ensures.happening;
  serving = c.serving_happens.ensures.serves;
}

pub returns-clause-first : goal.returns-clause-first
returns-clause-first c = first_logons

pub returns-clause-carries_out : goal.returns-clause-carries_out
returns-clause-carries_out c = carried_out_first (laws c)

pub returns-clause-drives : goal.returns-clause-drives
returns-clause-drives c = drove_first (laws c)

pub returns-clause-gathers : goal.returns-clause-gathers
returns-clause-gathers c = λ at until old new gathers. gathered_first (laws c) (length old.board.sessions) at until old new gathers
