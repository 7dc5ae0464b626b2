use Rattle.std.proofs.Common.{◌≤◌, length}
use Rattle.connection_core.specs.Outgoing.{Outgoing, waiting_text}
use Rattle.connection_core.specs.Items.{AreItemsOf}
use Rattle.connection_core.proofs.Queue.{items_write}
use Rattle.connection_core.proofs.outbox.Outbox.wrote.Goals as goal

pub returns-clause-items : goal.returns-clause-items
returns-clause-items c = λ names log items h.
    let s = c.self.inside in
    let out : Outgoing = record { text = s.text.items; written = s.written; ends = s.ends.items; unmade = s.unmade.items } in
    let before : AreItemsOf names log items out = rw (← c.self.view_is) at h in
    let most : c.args.n ≤ length (waiting_text out) = rw (← c.self.view_is) at c.requires in
    rw c.drop_ends.ensures (items_write names log items out c.args.n before most)
