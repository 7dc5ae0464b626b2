use Rattle.std.proofs.Common.{◌+◌, ◌-◌, sym, ap, ◌∙◌, arith}
use Rattle.connection_core.specs.Outgoing.{with_items}
use Rattle.resend_plan.specs.declared.item.WireItem.TheVariants.{New}
use Rattle.session_book.specs.Words.{new_items}
use Rattle.session_book.proofs.News.{items_to_come, queued_before}
use Rattle.session_book.proofs.leases.queue_sends.Goals as goal

pub loop-k-preserved : goal.loop-k-preserved
loop-k-preserved c =
    let k = c.loop-k.k in
    let rest = new_items c.args.series (c.args.first + (k + 1)) (c.args.sends - (k + 1)) in
    record {
      items =
          ap (λ o. with_items rest o) c.queue.ensures.outgoing
          ∙ queued_before c.loop-k.out.outgoing (New c.args.series (c.args.first + k)) rest
          ∙ ap (λ items. with_items items c.loop-k.out.outgoing) (sym (items_to_come c.args.series c.args.first k c.args.sends c.loop-k-test.true))
          ∙ c.loop-k.invariant.items;
      room = (let room = c.loop-k.invariant.room in let spare = c.queue.ensures.spare in omega arith);
    }
