use Rattle.std.proofs.Common.{[], ◌∷◌, ◌++◌, ap, sym, subst, ◌∙◌}
use Rattle.connection_core.specs.Outgoing.{Outlet}
use Rattle.connection_core.specs.Items.{AreItemsOf}
use Rattle.connection_tests.proofs.desk.Desk.queue.Goals as goal

pub invariant_of-self-then-names_entry : goal.invariant_of-self-then-names_entry
invariant_of-self-then-names_entry c =
    let log = c.self.inside.log.series in
    let names = c.self.inside.names in
    let known = c.self.invariant in
    let named = c.names_entry.ensures c.if-names_entry.true in
    let same = c.reserve.ensures.outgoing ∙ ap (λ (o : Outlet). o.outgoing) c.outbox-out.ensures.out in
    let before : AreItemsOf names log known.items c.reserve.new.self.outgoing = subst (AreItemsOf names log known.items) (sym same) known.queued in
    record { short = known.short; fit = known.fit; items = known.items ++ c.args.item ∷ []; queued = c.queue.ensures.items names log known.items before named }
