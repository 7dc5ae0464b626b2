use Rattle.std.proofs.Common.{ap, length, arith, length-append}
use Rattle.message_log.specs.Stored.{Stored}
use Rattle.message_log.specs.Pages.{items_on}
use Rattle.message_log.proofs.PageLists.{length-items_on}
use Rattle.message_log.proofs.pages.Paged.len.Goals as goal

pub returns-clause-length : goal.returns-clause-length
returns-clause-length g c =
    let inside = c.self.inside in
    let size = ap (λ (s : Stored g.row.T.Denot). length s.items) c.self.view_is in
    omega (arith, size, length-append (items_on inside.full.items) inside.last.items, length-items_on inside.full.items c.self.invariant.full_pages)

pub returns-clause-few : goal.returns-clause-few
returns-clause-few g c = omega (arith, c.self.invariant.few, c.self.invariant.on_page)
