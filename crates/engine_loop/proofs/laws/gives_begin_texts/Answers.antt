use Rattle.engine_loop.proofs.Kept.{texts_begin}
use Rattle.engine_loop.proofs.laws.gives_begin_texts.Goals as goal

pub returns : goal.returns
returns c = texts_begin c.writes_begin_texts.ensures
