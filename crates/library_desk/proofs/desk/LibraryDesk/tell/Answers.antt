use Rattle.std.proofs.Common.{ap, refl}
use Rattle.std.specs.Vec.{with_item}
use Rattle.library_desk.proofs.Links.{ends_linked}
use Rattle.library_desk.proofs.desk.LibraryDesk.tell.Goals as goal

pub returns-clause-linked : goal.returns-clause-linked
returns-clause-linked c =
    let old = c.args.self.now in
    ends_linked c.args.shared.now old (record old { ends = with_item old.ends c.from-place.result c.tell.new.self }) c.from-place.result c.index_mut.result.now c.tell.new.self refl refl refl
    c.index_mut.ensures.value (ap (λ h. h.ring) c.tell.ensures.head) c.tell.ensures.notices c.requires.linked
