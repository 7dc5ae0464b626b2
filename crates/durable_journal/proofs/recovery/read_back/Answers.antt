use Rattle.std.proofs.Common.{List, sym, subst}
use Rattle.std.specs.Prelude.{IfSome}
use Rattle.lease_core.specs.declared.record.Record.{Record}
use Rattle.durable_journal.specs.Journal.{IsFound}
use Rattle.std.proofs.lemmas.Result.{err_from_is_err_and}
use Rattle.durable_journal.specs.declared.errors.RecoverError.TheVariants.{BadJournal}
use Rattle.durable_journal.proofs.Rests.{found_short, found_read, damaged_read, err_same}
use Rattle.durable_journal.proofs.Runs.{runs_none}
use Rattle.durable_journal.proofs.recovery.read_back.Goals as goal

pub returns-then-end-le1-clause-found : goal.returns-then-end-le1-clause-found
returns-then-end-le1-clause-found g c =
    let h = g.D.Disk.history in
    subst (λ (l : List Record). IfSome (h c.settle.new.disk) (IsFound c.args.sessions c.args.leases 0 l)) (sym c.new.ensures.items)
    (found_short c.args.sessions c.args.leases c.in_ok-end.end (h c.args.disk.now) (h c.settle.new.disk) c.in_ok-end.ensures.settles c.in_ok-end.ensures.end c.if-end-le1.true (runs_none c.args.sessions c.args.leases))

pub returns-in_err-gate-clause-damaged : goal.returns-in_err-gate-clause-damaged
returns-in_err-gate-clause-damaged g c = λ at is.
    let h = g.D.Disk.history in
    let p = err_from_is_err_and c.from_residual-in_err-gate.result c.from_residual-in_err-gate.ensures.1 in
    damaged_read c.args.sessions c.args.leases at c.in_ok-end.end (h c.args.disk.now) (h c.settle.new.disk) c.in_ok-end.ensures.settles c.in_ok-end.ensures.end c.if-end-le1.false (c.in_err-gate.ensures.damaged at (err_same c.from_residual-in_err-gate.result p.0 c.in_err-gate.field-0.0 (BadJournal at) p.1 p.2 is))

pub returns-clause-found : goal.returns-clause-found
returns-clause-found g c =
    let h = g.D.Disk.history in
    found_read c.args.sessions c.args.leases c.in_ok-gate.gate c.in_ok-gate.records.items (h c.args.disk.now) (h c.settle.new.disk) (h c.read_batches.new.disk) c.in_ok-end.ensures.settles c.read_batches.ensures.nothing_done c.in_ok-gate.ensures.found
