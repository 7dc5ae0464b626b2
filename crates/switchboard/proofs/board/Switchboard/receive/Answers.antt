use Rattle.std.proofs.Common.{arith}
use Rattle.std.proofs.lemmas.Grind.{common_steps}
use Rattle.switchboard.proofs.Stopping.{on_err, receipt_stops}
use Rattle.switchboard.proofs.board.Switchboard.receive.Goals as goal

pub returns-in_err-end-clause-stops : goal.returns-in_err-end-clause-stops
returns-in_err-end-clause-stops c =
    on_err c.from_residual.result
    (λ placed. receipt_stops c.args.s c.args.k c.args.body.items c.args.at c.args.self.now _ c.requires.session placed (grind (arith, common_steps)) (grind (arith, common_steps)) (grind (arith, common_steps)))
