use Rattle.session_desk.proofs.RoutedTo.{route_at}
use Rattle.session_desk.proofs.greeting.accepting.Goals as goal

pub returns-clause-within : goal.returns-clause-within
returns-clause-within c = (route_at c.args._desk.now.board c.args.routes.now c.args.j c.index.result.now c.requires.routes c.requires.within c.index.ensures).within

pub returns-clause-accepts : goal.returns-clause-accepts
returns-clause-accepts c = (route_at c.args._desk.now.board c.args.routes.now c.args.j c.index.result.now c.requires.routes c.requires.within c.index.ensures).accepts
