use Rattle.std.proofs.Common.{ℕ, List}
use Rattle.lease_core.specs.declared.entry.Entry.{Entry}
use Rattle.headline.proofs.serving_lemmas.Driven.{DriveLaws, GoingLaws, drove_for, drove_on, drove_once}
use Rattle.headline.proofs.serving.drives_are_accounted_for.Goals as goal
use Rattle.session_core.specs.State.{State}

laws : goal.After-engines_are_accounted_for → (before : ℕ → List Entry) (start : ℕ → State) → DriveLaws before start
laws c before start = record {
  turn = c.engines_are_accounted_for.ensures.turn before start;
  text_turn = λ shared. c.texts_are_taken.ensures.turn shared before;
  text_known = c.texts_are_taken.ensures.known;
}

going : goal.After-engines_are_accounted_for → GoingLaws
going c = record { turn = c.runs_go_on.ensures.turn; itself = c.runs_go_on.ensures.itself; further = c.runs_go_on.ensures.further }

pub returns-clause-once : goal.returns-clause-once
returns-clause-once c = λ before start. drove_once before start (laws c before start)

pub returns-clause-drives : goal.returns-clause-drives
returns-clause-drives c = λ before start. drove_for before start (laws c before start)

pub returns-clause-goes_on : goal.returns-clause-goes_on
returns-clause-goes_on c = drove_on (going c)
