use Rattle.std.proofs.Common.{Some}
use Rattle.session_core.proofs.States.{first_is}
use Rattle.session_core.proofs.session.Session.dialling.Goals as goal

pub with_line-requires : goal.with_line-requires
with_line-requires c =
    rw c.in_ok-line.ensures (first_is c.line_laws.ensures c.args.us.items c.args.them.items (Some c.args.heart) c.args.expected c.requires.heart c.requires.from c.requires.to)
