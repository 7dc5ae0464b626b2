use Rattle.headline.proofs.run_lemmas.Borne.{life_reported}
use Rattle.headline.proofs.runs.reports_are_borne_out.Goals as goal

pub returns : goal.returns
returns c = λ before start requests engine links seats reports left leaves place life one report has number calls.
    life_reported c.calls_are_answered.ensures before start requests engine links seats reports left leaves place life one report has number calls
