use Rattle.session_core.proofs.States.{fresh_is}
use Rattle.session_core.proofs.session.Session.new.Goals as goal

pub with_line-requires : goal.with_line-requires
with_line-requires c = rw c.in_ok-line.ensures (fresh_is c.line_laws.ensures c.args.us.items c.args.them.items)
