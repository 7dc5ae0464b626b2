use Rattle.std.proofs.Common.{arith}
use Rattle.std.proofs.lemmas.Grind.{common_steps}
use Rattle.switchboard.proofs.Stopping.{dial_stops, on_err}
use Rattle.switchboard.proofs.board.Switchboard.dial.Goals as goal

pub returns-in_err-dialled-clause-stops : goal.returns-in_err-dialled-clause-stops
returns-in_err-dialled-clause-stops c =
    on_err c.from_residual-in_err-dialled.result
    (dial_stops c.args.s c.args.number c.args.at c.dial-dialled.new.out c.args.self.now _ c.requires.session c.requires.free (grind (arith, common_steps)) (grind (arith, common_steps)) (grind (arith, common_steps)) (grind (arith, common_steps)))
