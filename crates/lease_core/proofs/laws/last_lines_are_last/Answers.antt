use Rattle.lease_core.proofs.Lasts.{last_or_push, with_last_push}
use Rattle.lease_core.proofs.laws.last_lines_are_last.Goals as goal

pub returns-clause-last : goal.returns-clause-last
returns-clause-last c = λ none lines l. last_or_push none lines l

pub returns-clause-changed : goal.returns-clause-changed
returns-clause-changed c = λ change lines l. with_last_push change lines l
