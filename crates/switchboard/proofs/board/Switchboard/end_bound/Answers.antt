use Rattle.std.proofs.Common.{None, arith}
use Rattle.std.proofs.lemmas.Grind.{common_steps}
use Rattle.switchboard.proofs.Stopping.{desk_nothing, on_err}
use Rattle.switchboard.proofs.board.Switchboard.end_bound.Goals as goal

pub returns-in_err-leave-clause-nothing : goal.returns-in_err-leave-clause-nothing
returns-in_err-leave-clause-nothing c =
    on_err c.from_residual.result (desk_nothing c.args.s None c.args.self.now _ (grind (arith, common_steps)) (grind (arith, common_steps)))
