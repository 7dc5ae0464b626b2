-- what is left to drain leads to the same end
use Rattle.std.proofs.Common.{◌≡◌, ℕ, ◌+◌, ◌-◌, ◌≤◌, vec_len, vec_capacity}
use Rattle.std.specs.FinMap.{len}
use Rattle.seq_gaps.specs.declared.offered.TheConstants.{HELD_LIMIT}
use Rattle.session_core.specs.Carry.{after_draining}
use Rattle.session_core.proofs.carry.drain.Given as goal

abbrev pub invariant-loop-i : goal.invariant-loop-i
invariant-loop-i l = record {
  same : (k : ℕ) → k ≡ HELD_LIMIT - l.i → after_draining k (record { line = l.line; acts = l.acts.items }) ≡ after_draining HELD_LIMIT (record { line = l.fn.line; acts = l.fn.acts.items });
  room : vec_len l.acts + len l.line.held ≤ vec_capacity l.acts;
}
