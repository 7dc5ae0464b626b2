use Rattle.std.proofs.Common.{ap, sym, subst, ◌∙◌, ◌++◌, List}
use Rattle.std.proofs.lemmas.List.{take_all}
use Rattle.resend_plan.specs.declared.item.WireItem.{WireItem}
use Rattle.connection_core.specs.Outgoing.{with_items}
use Rattle.connection_core.specs.Items.{AreItemsOf}
use Rattle.connection_core.proofs.Queue.{items_queue}
use Rattle.connection_core.proofs.outbox.Outbox.queue_all.Goals as goal

pub returns-clause-items : goal.returns-clause-items
returns-clause-items c = λ names log before h named.
    let all = take_all c.loop-item.item-index c.args.items.now c.loop-item-test.false in
    let queued = c.loop-item.invariant.queued ∙ ap (λ (l : List WireItem). with_items l c.args.self.now.outgoing) all in
    subst (AreItemsOf names log (before ++ c.args.items.now)) (sym queued) (items_queue names log before c.args.items.now c.args.self.now.outgoing h named)
