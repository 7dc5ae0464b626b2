use Rattle.std.proofs.Common.{sym, subst}
use Rattle.connection_core.specs.Items.{AreItemsOf}
use Rattle.connection_core.proofs.Queue.{items_make}
use Rattle.connection_core.proofs.outbox.Outbox.prepare_first.Goals as goal

pub returns-in_ok-make_text-clause-items : goal.returns-in_ok-make_text-clause-items
returns-in_ok-make_text-clause-items c = λ items h.
    subst (AreItemsOf c.args.names.now c.args.log.now.series items) (sym c.in_ok-make_text.ensures.ok) (items_make c.args.names.now c.args.log.now.series items c.args.self.now.outgoing h)
