use Rattle.std.proofs.Common.{ap, refl}
use Rattle.lease_core.specs.declared.messages.Command.{Command}
use Rattle.lease_core.specs.declared.messages.Notice.{Notice}
use Rattle.lease_words.specs.Views.{EngineView}
use Rattle.library_desk.specs.declared.ends.EngineEnds.{EngineEnds}
use Rattle.ring_links.specs.Ends.{HeadView, TailView}
use Rattle.std.specs.Vec.{with_item}
use Rattle.engine_end.proofs.Relinked.{met_linked}
use Rattle.engine_end.proofs.meeting.meet.Goals as goal

pub returns-clause-linked : goal.returns-clause-linked
returns-clause-linked c =
    let old = c.args.desk.now in
    let after : EngineEnds = record { head = c.meet-2.new.head; tail = c.meet-3.new.tail } in
    let new = record old { desk = record (old.desk) { seat = c.meet.new.engine }; ends = with_item old.ends c.from-place.result after } in
    met_linked c.args.shared.now old new c.from-place.result c.index_mut-ends.result.now after (ap (λ (v : EngineView). v.table) c.meet.ensures.engine) refl refl refl c.index_mut-ends.ensures.value
    (ap (λ (h : HeadView Command). h.ring) c.meet-2.ensures.head) (ap (λ (t : TailView Notice). t.ring) c.meet-3.ensures.tail) c.requires.linked
