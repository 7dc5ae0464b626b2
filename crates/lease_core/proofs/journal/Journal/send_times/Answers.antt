-- behind each send the lease is active still
use Rattle.std.proofs.Common.{arith}
use Rattle.lease_core.proofs.Raised.{active-with_sends, sends-with_sends, settled-with_sends}
use Rattle.lease_core.proofs.journal.Journal.send_times.Goals as goal

pub send-requires-clause-active : goal.send-requires-clause-active
send-requires-clause-active c = rw c.loop.invariant.entries (active-with_sends c.loop.counter c.args.self.now.entries c.requires.active)

pub send-requires-clause-settled : goal.send-requires-clause-settled
send-requires-clause-settled c = rw c.loop.invariant.entries (settled-with_sends c.loop.counter c.args.self.now.entries c.requires.settled)

pub send-requires-clause-fits : goal.send-requires-clause-fits
send-requires-clause-fits c =
    let sends = sends-with_sends c.loop.counter c.args.self.now.entries c.requires.active in
    rw c.loop.invariant.entries (omega (arith, sends, c.requires.fits))
