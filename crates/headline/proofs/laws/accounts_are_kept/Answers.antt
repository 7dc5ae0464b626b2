use Rattle.headline.proofs.laws.accounts_are_kept.Goals as goal

pub returns : goal.returns
returns c = record {
  walks = c.turns_are_walks.ensures;
  itself = c.happenings_are_accounted_for.ensures.itself;
  aside = c.happenings_are_accounted_for.ensures.aside;
  takes = c.happenings_are_accounted_for.ensures.takes;
  gives_none = c.happenings_are_accounted_for.ensures.gives_none;
  gives_one = c.happenings_are_accounted_for.ensures.gives_one;
  gives_last = c.happenings_are_accounted_for.ensures.gives_last;
  stops = c.happenings_are_accounted_for.ensures.stops;
  gathers = c.sessions_are_accounted_for.ensures.gathers;
  hears = c.sessions_are_accounted_for.ensures.hears;
  greets = c.sessions_are_accounted_for.ensures.greets;
  parts = c.sessions_are_accounted_for.ensures.parts;
  accepts = c.steps_are_accounted_for.ensures.accepts;
  dials = c.steps_are_accounted_for.ensures.dials;
  reads = c.steps_are_accounted_for.ensures.reads;
  ticks = c.steps_are_accounted_for.ensures.ticks;
  serves = c.steps_are_accounted_for.ensures.serves;
  notes = c.steps_are_accounted_for.ensures.notes;
  publishes = c.steps_are_accounted_for.ensures.publishes;
  serving = c.serving_happens.ensures.serves;
}
