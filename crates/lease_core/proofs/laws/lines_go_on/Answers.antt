use Rattle.lease_core.proofs.LinesAfter.{lines-push, lines-append}
use Rattle.lease_core.proofs.laws.lines_go_on.Goals as goal

pub returns-clause-one : goal.returns-clause-one
returns-clause-one c = lines-push

pub returns-clause-list : goal.returns-clause-list
returns-clause-list c = lines-append
