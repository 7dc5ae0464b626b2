use Rattle.std.proofs.Common.{[], ◌∷◌}
use Rattle.std.proofs.lemmas.List.Elements.{All-nil, All-cons}
use Rattle.resend_plan.specs.Wire.{NamesEntry}
use Rattle.connection_core.specs.Outgoing.{Outgoing}
use Rattle.connection_core.specs.Items.{AreItemsOf}
use Rattle.connection_core.proofs.Queue.{items_queue}
use Rattle.connection_core.proofs.outbox.Outbox.queue.Goals as goal

pub returns-clause-items : goal.returns-clause-items
returns-clause-items c = λ names log items h named.
    let s = c.self.inside in
    let out : Outgoing = record { text = s.text.items; written = s.written; ends = s.ends.items; unmade = s.unmade.items } in
    let before : AreItemsOf names log items out = rw (← c.self.view_is) at h in
    rw c.push_back_reserved.ensures.items (items_queue names log items (c.args.item ∷ []) out before (All-cons (NamesEntry log) c.args.item [] named (All-nil (NamesEntry log))))
