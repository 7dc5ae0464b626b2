use Rattle.headline.proofs.clock_lemmas.Refuted.{at_once_refuted, before_refuted, early_refuted, still_refuted, taken_early_refuted}
use Rattle.headline.proofs.clock.early_ends_are_refuted.Goals as goal

pub returns-clause-still : goal.returns-clause-still
returns-clause-still c = still_refuted

pub returns-clause-before : goal.returns-clause-before
returns-clause-before c = before_refuted

pub returns-clause-early : goal.returns-clause-early
returns-clause-early c = early_refuted

pub returns-clause-at_once : goal.returns-clause-at_once
returns-clause-at_once c = at_once_refuted

pub returns-clause-taken_early : goal.returns-clause-taken_early
returns-clause-taken_early c = taken_early_refuted
