use Rattle.example_broker.proofs.Fills.{other_texts}
use Rattle.example_broker.proofs.books.Book.note.Goals as goal

pub returns-clause-others : goal.returns-clause-others
returns-clause-others c = λ other differs. c.in-Ok.ensures.updates.2 other (other_texts _ _ differs)
