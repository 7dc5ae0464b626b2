use Rattle.library_api.proofs.Deeds.{all_did}
use Rattle.library_api.proofs.laws.deeds_are_answered.Goals as goal

pub returns : goal.returns
returns c = all_did
