use Rattle.durable_journal.proofs.Moments.{first_fails, second_fails, third_fails, fourth_fails, all_leaves, all_stands, all_steps}
use Rattle.durable_journal.proofs.writing.write_batch.Goals as goal

pub returns-in_err-write_at-clause-any_moment : goal.returns-in_err-write_at-clause-any_moment
returns-in_err-write_at-clause-any_moment g c = let h = g.D.Disk.history in first_fails c.args.gate c.args.text.now (h c.args.disk.now) (h c.write_at.new.self) c.requires.ready c.in_err-write_at.ensures.torn

pub returns-in_err-sync-clause-any_moment : goal.returns-in_err-sync-clause-any_moment
returns-in_err-sync-clause-any_moment g c = let h = g.D.Disk.history in second_fails c.args.gate c.args.text.now (h c.args.disk.now) (h c.write_at.new.self) (h c.sync.new.self) c.requires.ready c.in_ok-write_at.ensures.written c.in_err-sync.ensures.nothing_done

pub returns-in_err-write_at-2-clause-any_moment : goal.returns-in_err-write_at-2-clause-any_moment
returns-in_err-write_at-2-clause-any_moment g c = let h = g.D.Disk.history in third_fails c.args.gate c.args.text.now (h c.args.disk.now) (h c.write_at.new.self) (h c.sync.new.self) (h c.write_at-2.new.self) c.requires.ready c.in_ok-write_at.ensures.written c.in_ok-sync.ensures.synced c.in_err-write_at-2.ensures.torn

pub returns-in_err-sync-2-clause-any_moment : goal.returns-in_err-sync-2-clause-any_moment
returns-in_err-sync-2-clause-any_moment g c = let h = g.D.Disk.history in fourth_fails c.args.gate c.args.text.now (h c.args.disk.now) (h c.write_at.new.self) (h c.sync.new.self) (h c.write_at-2.new.self) (h c.sync-2.new.self) c.requires.ready c.in_ok-write_at.ensures.written c.in_ok-sync.ensures.synced c.in_ok-write_at-2.ensures.written c.in_err-sync-2.ensures.nothing_done

pub returns-clause-any_moment : goal.returns-clause-any_moment
returns-clause-any_moment g c = let h = g.D.Disk.history in all_leaves c.args.gate c.args.text.now (h c.args.disk.now) (h c.write_at.new.self) (h c.sync.new.self) (h c.write_at-2.new.self) (h c.sync-2.new.self) c.requires.ready c.in_ok-write_at.ensures.written c.in_ok-sync.ensures.synced c.in_ok-write_at-2.ensures.written c.in_ok-sync-2.ensures.synced

pub returns-clause-stands : goal.returns-clause-stands
returns-clause-stands g c = let h = g.D.Disk.history in all_stands c.args.gate c.args.text.now (h c.args.disk.now) (h c.write_at.new.self) (h c.sync.new.self) (h c.write_at-2.new.self) (h c.sync-2.new.self) c.requires.ready c.in_ok-write_at.ensures.written c.in_ok-sync.ensures.synced c.in_ok-write_at-2.ensures.written c.in_ok-sync-2.ensures.synced

pub returns-clause-steps : goal.returns-clause-steps
returns-clause-steps g c = let h = g.D.Disk.history in all_steps c.args.gate c.args.text.now (h c.args.disk.now) (h c.write_at.new.self) (h c.sync.new.self) (h c.write_at-2.new.self) (h c.sync-2.new.self) c.in_ok-write_at.ensures.written c.in_ok-sync.ensures.synced c.in_ok-write_at-2.ensures.written c.in_ok-sync-2.ensures.synced
