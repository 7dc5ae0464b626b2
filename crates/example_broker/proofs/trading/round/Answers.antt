use Rattle.std.proofs.Common.{◌∙◌}
use Rattle.example_broker.proofs.Moves.{round_of}
use Rattle.example_broker.proofs.trading.round.Goals as goal

pub returns-clause-round : goal.returns-clause-round
returns-clause-round g c =
    round_of _ _ _ _ _ _ _ _ _ (c.follow.ensures.number ∙ c.look_if_due.ensures.number) c.look_if_due.ensures.looks c.poll-event.ensures.polls c.in_ok-answered.ensures.follows c.part.ensures.parts
