use Rattle.library_api.proofs.Readings.{follow}
use Rattle.library_api.proofs.laws.readings_follow_events.Goals as goal

pub returns : goal.returns
returns c = follow
