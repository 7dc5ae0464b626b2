use Rattle.std.proofs.Common.{◌-◌, ◌≤◌, length, IsNone}
use Rattle.connection_core.specs.Connection.{room}
use Rattle.connection_tests.proofs.taking.take_all.Given as goal

abbrev pub invariant-loop-from : goal.invariant-loop-from
invariant-loop-from l = record {
  stands : IsNone l.connection.cause;
  room : 4096 ≤ room l.connection;
}

abbrev pub decreases-loop-from : goal.decreases-loop-from
decreases-loop-from l = length l.bytes - l.from
