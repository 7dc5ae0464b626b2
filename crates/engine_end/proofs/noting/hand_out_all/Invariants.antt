use Rattle.std.proofs.Common.{◌≡◌, ℕ, ◌≤◌, length}
use Rattle.session_desk.specs.Steps.{pending_at}
use Rattle.engine_end.specs.Finishing.{records_of}
use Rattle.engine_end.proofs.noting.hand_out_all.Given as goal

-- the records of the first sessions are handed out, and of the others nothing is changed
abbrev pub invariant-loop-s : goal.invariant-loop-s
invariant-loop-s l = record {
  added_are : l.added.items ≡ records_of l.board l.initial.unkept.items l.s;
  count : length l.unkept.items ≡ length l.initial.unkept.items;
  others : (j : ℕ) → l.s ≤ j → pending_at l.unkept.items j ≡ pending_at l.initial.unkept.items j;
}
