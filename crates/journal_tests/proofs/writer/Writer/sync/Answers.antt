use Rattle.journal_tests.proofs.Ready.{ready_synced}
use Rattle.journal_tests.proofs.writer.Writer.sync.Goals as goal

pub invariant_of-result : goal.invariant_of-result
invariant_of-result c =
    let ready = c.self.invariant in
    let e = c.in-Ok.ensures in
    ready_synced c.self.inside.journal c.in-Ok.journal _ ready (e.kept ready.kept ready.stands) e.batch e.sessions e.leases
