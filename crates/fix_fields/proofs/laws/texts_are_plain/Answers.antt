use Rattle.fix_fields.proofs.Plain.{has_soh-decimal, has_soh-stamp_of}
use Rattle.fix_fields.proofs.laws.texts_are_plain.Goals as goal

pub returns : goal.returns
returns c = (λ n fits. has_soh-decimal n fits, λ ms. has_soh-stamp_of ms)
