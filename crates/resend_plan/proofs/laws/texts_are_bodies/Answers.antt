use Rattle.resend_plan.proofs.Texts.{is_body-text, length-text, frame_fits}
use Rattle.resend_plan.proofs.laws.texts_are_bodies.Goals as goal

pub returns-clause-is_body : goal.returns-clause-is_body
returns-clause-is_body c = is_body-text

pub returns-clause-length : goal.returns-clause-length
returns-clause-length c = length-text

pub returns-clause-frame : goal.returns-clause-frame
returns-clause-frame c = frame_fits
