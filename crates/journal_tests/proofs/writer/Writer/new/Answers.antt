use Rattle.std.proofs.Common.{rules, ◌≡◌}
use Rattle.std.specs.Vec.Iter.{into_iter_items}
use Rattle.durable_journal.specs.Disk.{bytes_of}
use Rattle.journal_tests.proofs.Ready.{ready_first}
use Rattle.journal_tests.proofs.writer.Writer.new.Goals as goal

pub invariant_of-result : goal.invariant_of-result
invariant_of-result c =
    let found = c.in-Ok.ensures in
    let same : into_iter_items c.into_iter.result ≡ c.args.records.items = search rules in
    ready_first c.files_stand_once.ensures.once c.in-Ok.journal c.args.sessions c.args.leases c.args.records.items _ c.in-Ok.field-0-1.items
    (bytes_of c.args.disk.history) c.requires.short found.stands found.keeps found.batch found.sessions found.leases same c.requires.lawful
