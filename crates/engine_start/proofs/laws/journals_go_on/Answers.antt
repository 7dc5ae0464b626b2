use Rattle.engine_start.proofs.Recoveries.{journals_go_on}
use Rattle.engine_start.proofs.laws.journals_go_on.Goals as goal

pub returns : goal.returns
returns c = journals_go_on c.fit_bodies_are_bodies.ensures c.texts_of_messages.ensures c.session_texts_are_short.ensures
