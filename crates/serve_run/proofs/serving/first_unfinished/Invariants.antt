use Rattle.std.proofs.Common.{◌≡◌, drop}
use Rattle.serve_run.specs.Serves.{first_unfinished}
use Rattle.serve_run.proofs.serving.first_unfinished.Given as goal

-- the libraries so far carried out their plans
abbrev pub invariant-loop-report : goal.invariant-loop-report
invariant-loop-report l = first_unfinished l.reports ≡ first_unfinished (drop l.report-index l.reports)
