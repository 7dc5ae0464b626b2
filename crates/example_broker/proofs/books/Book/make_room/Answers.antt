use Rattle.std.proofs.Common.{refl}
use Rattle.example_broker.proofs.books.Book.make_room.Goals as goal

pub returns-clause-keeps : goal.returns-clause-keeps
returns-clause-keeps c = record { orders = λ id. c.reserve.ensures.entries.2 id; next = refl }
