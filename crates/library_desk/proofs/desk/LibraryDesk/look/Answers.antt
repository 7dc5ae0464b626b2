use Rattle.std.proofs.Common.{refl}
use Rattle.std.specs.Vec.{with_item}
use Rattle.library_desk.proofs.Links.{ends_linked}
use Rattle.library_desk.proofs.desk.LibraryDesk.look.Goals as goal

pub returns-clause-linked : goal.returns-clause-linked
returns-clause-linked c =
    let old = c.args.self.now in
    ends_linked c.args.shared.now old (record old { ends = with_item old.ends c.from-place.result c.next.new.self }) c.from-place.result c.index_mut.result.now c.next.new.self refl refl refl
    c.index_mut.ensures.value c.next.ensures.looks.commands c.next.ensures.looks.notices c.requires.linked
