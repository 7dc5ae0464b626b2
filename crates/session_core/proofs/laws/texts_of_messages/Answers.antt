use Rattle.session_core.proofs.AdminTexts.{body_is, ticks_told}
use Rattle.session_core.proofs.laws.texts_of_messages.Goals as goal

pub returns : goal.returns
returns c = record { body = body_is; tick = ticks_told }
