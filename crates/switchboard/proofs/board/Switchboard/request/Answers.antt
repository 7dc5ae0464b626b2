use Rattle.std.proofs.Common.{arith}
use Rattle.std.proofs.lemmas.Grind.{common_steps}
use Rattle.switchboard.proofs.Stopping.{on_err, session_nothing}
use Rattle.switchboard.proofs.board.Switchboard.request.Goals as goal

pub returns-in_err-reply-clause-nothing : goal.returns-in_err-reply-clause-nothing
returns-in_err-reply-clause-nothing c =
    on_err c.from_residual.result (session_nothing c.args.s c.args.self.now _ (grind (arith, common_steps)) (grind (arith, common_steps)))
