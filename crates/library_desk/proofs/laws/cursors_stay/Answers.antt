use Rattle.library_desk.proofs.Cursors.{cursors_on}
use Rattle.library_desk.proofs.laws.cursors_stay.Goals as goal

pub returns-clause-happening : goal.returns-clause-happening
returns-clause-happening c = λ happening old new cursors apart is are.
    cursors_on old new cursors (c.boards_stay_in_step.ensures.sessions happening old new apart is) (c.boards_stay_in_step.ensures.goes_on happening old new apart is) are
