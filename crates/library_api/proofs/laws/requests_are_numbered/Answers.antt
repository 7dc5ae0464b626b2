use Rattle.library_api.proofs.Numbered.{numbered, poll_closes}
use Rattle.library_api.proofs.laws.requests_are_numbered.Goals as goal

pub returns-clause-numbers : goal.returns-clause-numbers
returns-clause-numbers c = numbered

pub returns-clause-closed : goal.returns-clause-closed
returns-clause-closed c = poll_closes
