use Rattle.session_book.proofs.laws.grounds.Goals as goal

pub returns-clause-logs : goal.returns-clause-logs
returns-clause-logs c = record {
  begins = c.entries_stay.ensures.beginning;
  itself = c.logs_go_on.ensures.itself;
  entry = c.logs_go_on.ensures.entry;
  series = c.logs_go_on.ensures.series;
  further = c.logs_go_on.ensures.further;
  decide = c.entries_decide_one_by_one.ensures.state;
  decide_over = c.entries_decide_one_by_one.ensures.states;
  names = c.items_stay.ensures.all_named;
  plans = c.plans_answer.ensures.named;
}

pub returns-clause-runs : goal.returns-clause-runs
returns-clause-runs c = record {
  logs = returns-clause-logs c;
  stay = c.entries_stay.ensures.entry;
  moments = c.moments_dont_matter.ensures;
  parts = c.runs_in_parts.ensures;
  same = c.sameness_laws.ensures;
  texts = c.texts_of_messages.ensures;
  acts = c.acts_of_messages.ensures;
  ticks = c.acts_of_ticks.ensures;
}
