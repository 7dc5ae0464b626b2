use Rattle.wire_desk.proofs.Turn.{apart_accepted, apart_answered, fewer_standing}
use Rattle.wire_desk.proofs.laws.places_stay_apart.Goals as goal

pub returns-clause-accepted : goal.returns-clause-accepted
returns-clause-accepted c = apart_accepted

pub returns-clause-dialled : goal.returns-clause-dialled
returns-clause-dialled c = apart_answered

pub returns-clause-fewer : goal.returns-clause-fewer
returns-clause-fewer c = fewer_standing
