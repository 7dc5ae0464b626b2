use Rattle.std.proofs.Common.{◌≡◌, ◌+◌, ◌≤◌, ◌++◌, vec_len, vec_capacity}
use Rattle.std.specs.VecDeque.{deque_len}
use Rattle.seq_gaps.specs.Calls.{AreAllowed, line_after_all, answers_to}
use Rattle.seq_gaps.proofs.calls.make_calls.Given as goal

-- the answers so far and those to what is left are those to all
abbrev pub invariant-loop-call : goal.invariant-loop-call
invariant-loop-call g l = record {
  told : l.answers.items ++ answers_to l.line l.rest.items ≡ answers_to l.fn.line l.fn.calls.items;
  behind : line_after_all l.line l.rest.items ≡ line_after_all l.fn.line l.fn.calls.items;
  allowed : AreAllowed l.line l.rest.items;
  room : vec_len l.answers + deque_len l.rest ≤ vec_capacity l.answers;
}

abbrev pub decreases-loop-call : goal.decreases-loop-call
decreases-loop-call g l = deque_len l.rest
