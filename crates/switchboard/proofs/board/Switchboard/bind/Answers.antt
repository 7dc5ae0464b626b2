use Rattle.std.proofs.Common.{arith}
use Rattle.std.proofs.lemmas.Grind.{common_steps}
use Rattle.switchboard.proofs.Stopping.{bind_stops, on_err}
use Rattle.switchboard.proofs.board.Switchboard.bind.Goals as goal

pub returns-in_err-end-clause-stops : goal.returns-in_err-end-clause-stops
returns-in_err-end-clause-stops c =
    on_err c.from_residual.result
    (bind_stops c.args.s c.args.k c.args.body.items c.args.at c.args.self.now _ c.requires.session c.requires.connection c.requires.unbound c.requires.free (grind (arith, common_steps)) (grind (arith, common_steps)) (grind (arith, common_steps)))
