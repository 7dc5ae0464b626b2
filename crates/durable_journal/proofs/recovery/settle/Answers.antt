use Rattle.std.proofs.Common.{◌∙◌}
use Rattle.durable_journal.proofs.Rests.{same_synced, same_torn, same_written, same_gated, end_after}
use Rattle.durable_journal.proofs.recovery.settle.Goals as goal

pub returns-in_err-end-clause-any_moment : goal.returns-in_err-end-clause-any_moment
returns-in_err-end-clause-any_moment g c = λ sessions leases. let h = g.D.Disk.history in same_synced sessions leases (h c.args.disk.now) (h c.length.new.self) (c.in_err-end.ensures.nothing_done ∙ c.in_ok-sync.ensures.synced)

pub returns-then-end-gt-LONGEST_JOURNAL-clause-any_moment : goal.returns-then-end-gt-LONGEST_JOURNAL-clause-any_moment
returns-then-end-gt-LONGEST_JOURNAL-clause-any_moment g c = λ sessions leases. let h = g.D.Disk.history in same_synced sessions leases (h c.args.disk.now) (h c.length.new.self) (c.in_ok-end.ensures.nothing_done ∙ c.in_ok-sync.ensures.synced)

pub returns-in_err-write_at-clause-any_moment : goal.returns-in_err-write_at-clause-any_moment
returns-in_err-write_at-clause-any_moment g c = λ sessions leases.
    let h = g.D.Disk.history in
    let ends = end_after (h c.args.disk.now) (h c.sync.new.self) c.in_ok-end.end c.in_ok-sync.ensures.synced c.in_ok-end.ensures.length in
    same_torn sessions leases (h c.args.disk.now) (h c.length.new.self) (h c.write_at.new.self) c.in_ok-end.end (c.in_ok-end.ensures.nothing_done ∙ c.in_ok-sync.ensures.synced) ends c.if-end-le1.true c.in_err-write_at.ensures.torn

pub returns-in_err-sync-2-clause-any_moment : goal.returns-in_err-sync-2-clause-any_moment
returns-in_err-sync-2-clause-any_moment g c = λ sessions leases.
    let h = g.D.Disk.history in
    let ends = end_after (h c.args.disk.now) (h c.sync.new.self) c.in_ok-end.end c.in_ok-sync.ensures.synced c.in_ok-end.ensures.length in
    same_written sessions leases (h c.args.disk.now) (h c.length.new.self) (h c.sync-then-end-le1.new.self) c.in_ok-end.end (c.in_ok-end.ensures.nothing_done ∙ c.in_ok-sync.ensures.synced) ends c.if-end-le1.true (c.in_err-sync-2.ensures.nothing_done ∙ c.in_ok-write_at.ensures.written)

pub returns-in_ok-sync-2-clause-any_moment : goal.returns-in_ok-sync-2-clause-any_moment
returns-in_ok-sync-2-clause-any_moment g c = λ sessions leases.
    let h = g.D.Disk.history in
    let ends = end_after (h c.args.disk.now) (h c.sync.new.self) c.in_ok-end.end c.in_ok-sync.ensures.synced c.in_ok-end.ensures.length in
    same_gated sessions leases (h c.args.disk.now) (h c.length.new.self) (h c.write_at.new.self) (h c.sync-then-end-le1.new.self) c.in_ok-end.end (c.in_ok-end.ensures.nothing_done ∙ c.in_ok-sync.ensures.synced) ends c.if-end-le1.true c.in_ok-write_at.ensures.written c.in_ok-sync-2.ensures.synced

pub returns-else-end-le1-clause-any_moment : goal.returns-else-end-le1-clause-any_moment
returns-else-end-le1-clause-any_moment g c = λ sessions leases. let h = g.D.Disk.history in same_synced sessions leases (h c.args.disk.now) (h c.length.new.self) (c.in_ok-end.ensures.nothing_done ∙ c.in_ok-sync.ensures.synced)
