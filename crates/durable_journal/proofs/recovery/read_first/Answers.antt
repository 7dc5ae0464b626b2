use Rattle.durable_journal.proofs.Wholes.{read_first}
use Rattle.durable_journal.proofs.recovery.read_first.Goals as goal

pub returns-clause-found : goal.returns-clause-found
returns-clause-found g c = read_first (g.D.Disk.history c.args.disk.now) c.read_at.new.buf c.requires.some c.in_ok-read_at.ensures.bytes
