-- Between two turns, as the code has it.
use Rattle.library_api.specs.Known.{Known}
use Rattle.plan_runner.specs.Turns.{Stage}
use Rattle.plan_runner.specs.declared.work.Work.{Work}

abbrev pub stage_of : Known → Work → Stage
stage_of library work = record { library = library; calls = work.calls.items; left = work.left }
