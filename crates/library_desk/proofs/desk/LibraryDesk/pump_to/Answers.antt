use Rattle.std.proofs.Common.{ap, arith, refl, ◌∙◌}
use Rattle.std.specs.Vec.{with_item}
use Rattle.switchboard.specs.Kept.{Kept}
use Rattle.library_desk.proofs.Links.{ends_linked}
use Rattle.library_desk.proofs.Pumped.{pumped}
use Rattle.library_desk.proofs.desk.LibraryDesk.pump_to.Goals as goal

pub returns-in_err-pump-clause-linked : goal.returns-in_err-pump-clause-linked
returns-in_err-pump-clause-linked c =
    let old = c.args.self.now in
    let after = record (c.index_mut-2.result.now) { tail = c.pump.new.tail } in
    ends_linked c.args.shared.now old (record old { ends = with_item old.ends c.from-place.result after; cursors = with_item old.cursors c.args.s c.pump.new.cursor }) c.from-place.result c.index_mut-2.result.now after refl refl refl
    c.index_mut-2.ensures.value refl c.pump.ensures.ring c.requires.linked

pub returns-clause-linked : goal.returns-clause-linked
returns-clause-linked c =
    let old = c.args.self.now in
    let after = record (c.index_mut-2.result.now) { tail = c.pump.new.tail } in
    ends_linked c.args.shared.now old (record old { ends = with_item old.ends c.from-place.result after; cursors = with_item old.cursors c.args.s c.pump.new.cursor }) c.from-place.result c.index_mut-2.result.now after refl refl refl
    c.index_mut-2.ensures.value refl c.pump.ensures.ring c.requires.linked

pub returns-clause-pumps : goal.returns-clause-pumps
returns-clause-pumps c =
    let old = c.args.self.now in
    let before = c.index_mut-2.result.now in
    let after = record before { tail = c.pump.new.tail } in
    let news = c.in_ok-pump.ensures in
    let board = old.desk.board in
    let libraries = c.requires.library in
    let many = c.requires.ready.cursors.count in
    pumped c.args.library c.args.s c.from-place.result old (record old { ends = with_item old.ends c.from-place.result after; cursors = with_item old.cursors c.args.s c.pump.new.cursor }) before after c.index_mut.result.now c.pump.new.cursor c.inbound.result.now.items c.in_ok-pump.field-0.stop
    c.from-place.ensures (let place = c.from-place.ensures in omega arith) (omega arith)
    c.requires.owner
    (c.inbound.ensures ∙ ap (λ (k : Kept). k.book.inbound) c.session-session.ensures)
    c.index_mut-2.ensures.value c.index_mut.ensures.value news.cursor news.forward news.within news.pushed refl news.log_end news.ring_full refl refl refl
