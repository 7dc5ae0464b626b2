use Rattle.std.proofs.Common.{[], ◌∷◌, ◌++◌}
use Rattle.message_log.specs.Series.{with_entry}
use Rattle.resend_plan.proofs.Staying.{fit_first, fit_pushed, fit_same}
use Rattle.resend_plan.proofs.laws.logs_stay_fit.Goals as goal

pub returns-clause-first : goal.returns-clause-first
returns-clause-first c = fit_first ([] ∷ []) c.entries_are_pushed.ensures.none_at_first

pub returns-clause-entry : goal.returns-clause-entry
returns-clause-entry c = λ log entry. fit_pushed log (with_entry log entry) entry (c.entries_are_pushed.ensures.entry log entry)

pub returns-clause-series : goal.returns-clause-series
returns-clause-series c = λ log. fit_same log (log ++ [] ∷ []) (c.entries_are_pushed.ensures.series log)
