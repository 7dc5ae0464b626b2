use Rattle.engine_tests.proofs.playing.tells.Goals as goal

pub returns : goal.returns
returns c = record { running = c.fresh.ensures.engine c.args._shared.now _ _ c.requires.running }
