-- the page of the place is a full one, the one that is written on, or none
use Rattle.std.proofs.Common.{sym, ◌∙◌, ap, arith}
use Rattle.std.specs.List.{slice_get}
use Rattle.message_log.specs.Stored.{Stored}
use Rattle.message_log.proofs.Places.{none_past}
use Rattle.message_log.proofs.PageLists.{got_full, got_open, got_none}
use Rattle.message_log.proofs.pages.Paged.get.Goals as goal

pub returns-then-page-len-clause-item : goal.returns-then-page-len-clause-item
returns-then-page-len-clause-item g c =
    let inside = c.self.inside in
    let there = ap (λ (s : Stored g.row.T.Denot). slice_get s.items c.args.place) c.self.view_is in
    c.read.ensures.item ∙ sym (got_open inside.full.items inside.last.items c.self.invariant.full_pages c.args.place (c.if-page-len.true ∙ c.len.ensures)) ∙ there

pub returns-in_err-read-clause-item : goal.returns-in_err-read-clause-item
returns-in_err-read-clause-item g c =
    let inside = c.self.inside in
    let there = ap (λ (s : Stored g.row.T.Denot). slice_get s.items c.args.place) c.self.view_is in
    rw c.from_residual.ensures (sym (got_none inside.full.items inside.last.items c.self.invariant.full_pages c.args.place c.self.invariant.on_page (omega arith) (sym c.in_err-read.ensures.item)) ∙ there)

pub returns-in_ok-read-clause-item : goal.returns-in_ok-read-clause-item
returns-in_ok-read-clause-item g c =
    let inside = c.self.inside in
    let there = ap (λ (s : Stored g.row.T.Denot). slice_get s.items c.args.place) c.self.view_is in
    c.read-else-page-len-2.ensures.item ∙ sym (got_full inside.full.items inside.last.items c.self.invariant.full_pages c.args.place c.in_ok-read.field-0.now (sym c.in_ok-read.ensures.item)) ∙ there

pub returns-then-page-len-clause-none : goal.returns-then-page-len-clause-none
returns-then-page-len-clause-none g c = none_past c.read.result c.args.self.now.items c.args.place (returns-then-page-len-clause-item g c)

pub returns-in_err-read-clause-none : goal.returns-in_err-read-clause-none
returns-in_err-read-clause-none g c = none_past c.from_residual.result c.args.self.now.items c.args.place (returns-in_err-read-clause-item g c)

pub returns-in_ok-read-clause-none : goal.returns-in_ok-read-clause-none
returns-in_ok-read-clause-none g c = none_past c.read-else-page-len-2.result c.args.self.now.items c.args.place (returns-in_ok-read-clause-item g c)
