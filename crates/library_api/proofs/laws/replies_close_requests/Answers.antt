use Rattle.library_api.proofs.Replies.{all_pop, all_replied, of_the_open}
use Rattle.library_api.proofs.laws.replies_close_requests.Goals as goal

pub returns-clause-popped : goal.returns-clause-popped
returns-clause-popped c = all_pop

pub returns-clause-closed : goal.returns-clause-closed
returns-clause-closed c = all_replied

pub returns-clause-number : goal.returns-clause-number
returns-clause-number c = of_the_open
