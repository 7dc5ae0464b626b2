use Rattle.wire_desk.proofs.Turn.{rising_accepted, rising_dialled, rising_first, rising_standing}
use Rattle.wire_desk.proofs.laws.places_stay_in_order.Goals as goal

pub returns-clause-first : goal.returns-clause-first
returns-clause-first c = rising_first

pub returns-clause-accepted : goal.returns-clause-accepted
returns-clause-accepted c = rising_accepted

pub returns-clause-dialled : goal.returns-clause-dialled
returns-clause-dialled c = rising_dialled

pub returns-clause-standing : goal.returns-clause-standing
returns-clause-standing c = rising_standing
