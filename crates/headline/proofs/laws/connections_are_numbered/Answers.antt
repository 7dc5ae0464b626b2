use Rattle.std.proofs.Common.{length}
use Rattle.headline.proofs.Coming.{carried, carried_out, first_numbered, gathered_numbered}
use Rattle.headline.proofs.laws.connections_are_numbered.Goals as goal

pub returns-clause-first : goal.returns-clause-first
returns-clause-first c = first_numbered

pub returns-clause-carries : goal.returns-clause-carries
returns-clause-carries c = carried c.turns_are_walks.ensures c.serving_happens.ensures.serves

pub returns-clause-carries_out : goal.returns-clause-carries_out
returns-clause-carries_out c = carried_out c.turns_are_walks.ensures c.serving_happens.ensures.serves

pub returns-clause-gathers : goal.returns-clause-gathers
returns-clause-gathers c = λ at until old new gathers. gathered_numbered (length old.board.sessions) at until old new gathers
