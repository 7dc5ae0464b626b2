use Rattle.std.proofs.Common.{subst}
use Rattle.std.specs.Prelude.{IfErr}
use Rattle.engine_end.specs.Finishing.{FinishesShort}
use Rattle.engine_loop.proofs.engine.Engine.finish.Goals as goal

pub returns-clause-finishes_short : goal.returns-clause-finishes_short
returns-clause-finishes_short c = λ standing.
    let e = c.args.self in
    subst (λ until. IfErr c.finish.result (λ left. FinishesShort c.args.seats.items e.accepted e.moment until e.sessions left.1)) c.until-until.ensures c.finish.ensures.finishes_short
