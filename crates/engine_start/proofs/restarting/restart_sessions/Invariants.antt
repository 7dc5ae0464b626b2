use Rattle.std.proofs.Common.{◌≡◌, ◌++◌, length}
use Rattle.std.specs.Vec.Iter.{into_iter_items}
use Rattle.engine_start.specs.Revived.{GoOnBehind}
use Rattle.engine_start.proofs.restarting.restart_sessions.Given as goal

-- the sessions so far go on
abbrev pub invariant-loop-one : goal.invariant-loop-one
invariant-loop-one l = record {
  all : l.yielded ++ into_iter_items l.one-iterator ≡ l.fn.revived.items;
  go_on : GoOnBehind l.config l.until l.fn.revived.items (length l.yielded) l.board l.unkept.items;
}
