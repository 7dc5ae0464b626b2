use Rattle.std.proofs.Common.{◌≡◌, ◌++◌, ◌+◌, ◌-◌, ◌<◌}
use Rattle.message_log.specs.Series.{series_at}
use Rattle.resend_plan.proofs.Walk.{rest_of}
use Rattle.resend_plan.proofs.planning.plan_in.Given as goal

-- what is planned so far, and what is left, is the whole plan
abbrev pub invariant-loop-number : goal.invariant-loop-number
invariant-loop-number g l = record {
  some : 0 < l.number;
  planned : l.items.items ++ rest_of l.series l.at (series_at l.log.series l.series) l.last l.number ≡ rest_of l.series l.at (series_at l.log.series l.series) l.last l.begin;
}

abbrev pub decreases-loop-number : goal.decreases-loop-number
decreases-loop-number g l = l.last + 1 - l.number
