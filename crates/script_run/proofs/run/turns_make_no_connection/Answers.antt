use Rattle.script_run.proofs.Asked.{none_made}
use Rattle.script_run.proofs.run.turns_make_no_connection.Goals as goal

pub returns : goal.returns
returns c = none_made
