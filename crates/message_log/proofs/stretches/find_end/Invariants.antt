use Rattle.std.proofs.Common.{◌-◌, ◌+◌, ◌*◌, ◌^◌, ◌≤◌, length}
use Rattle.message_log.proofs.Halving.{Searched}
use Rattle.message_log.proofs.stretches.find_end.Given as goal

abbrev pub invariant-loop-low : goal.invariant-loop-low
invariant-loop-low g l = record {
  searched : Searched l.stretches.items l.series l.number l.low l.high;
  forward : l.fn.steps ≤ l.steps;
  cost : 2 ^ (l.steps - l.fn.steps) ≤ 2 * length l.stretches.items + 1;
  left : 2 ^ (l.steps - l.fn.steps) * (l.high - l.low) ≤ length l.stretches.items;
}

abbrev pub decreases-loop-low : goal.decreases-loop-low
decreases-loop-low g l = l.high - l.low
