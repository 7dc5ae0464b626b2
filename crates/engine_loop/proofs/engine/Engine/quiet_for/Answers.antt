use Rattle.std.proofs.Common.{arith}
use Rattle.engine_loop.proofs.engine.Engine.quiet_for.Goals as goal

pub returns-then-wait-from-clause-quiet : goal.returns-then-wait-from-clause-quiet
returns-then-wait-from-clause-quiet c = λ moment from below until.
    let least = c.min-due.ensures in
    let wait = c.saturating_sub-wait.ensures in
    record {
      sessions = (c.sessions_due.ensures moment until).1 (omega (arith, from, below, least, wait));
      connections = (c.logons_due.ensures moment until).1 (omega (arith, from, below, least, wait));
    }

pub returns-then-wait-from-clause-due : goal.returns-then-wait-from-clause-due
returns-then-wait-from-clause-due c = λ short until quiet.
    let least = c.min-due.ensures in
    let wait = c.saturating_sub-wait.ensures in
    let sessions = (c.sessions_due.ensures _ until).0 quiet.sessions in
    let connections = (c.logons_due.ensures _ until).0 quiet.connections in
    absurd (omega (arith, least, wait, sessions, connections))

pub returns-else-wait-from-clause-quiet : goal.returns-else-wait-from-clause-quiet
returns-else-wait-from-clause-quiet c = λ moment from below until.
    let least = c.min-due.ensures in
    let wait = c.saturating_sub-wait.ensures in
    let most = c.from.ensures in
    let long = c.if-wait-from.false in
    record {
      sessions = (c.sessions_due.ensures moment until).1 (omega (arith, from, below, least, wait, most, long));
      connections = (c.logons_due.ensures moment until).1 (omega (arith, from, below, least, wait, most, long));
    }
