-- Behind a meeting all is linked as before.
use Rattle.std.proofs.Common.{◌≡◌, ℕ, List, length, get_or, map, set, sym, ap, ◌∙◌}
use Rattle.std.proofs.Math.Seq.{map-set_same}
use Rattle.std.proofs.lemmas.List.{length-set}
use Rattle.library_clock.specs.Watched.{Watched}
use Rattle.library_desk.specs.declared.desk.LibraryDesk.{LibraryDesk}
use Rattle.library_desk.specs.declared.ends.EngineEnds.{EngineEnds}
use Rattle.library_desk.specs.declared.shared.Shared.{Shared}
use Rattle.library_desk.specs.Serving.{IsLinked}
use Rattle.switchboard.specs.Board.{Board}

pub met_linked : (shared : Shared) (old new : LibraryDesk) (i : ℕ) (before after : EngineEnds) → new.desk.seat.table ≡ old.desk.seat.table → new.desk.board ≡ old.desk.board → new.watch ≡ old.watch → new.ends.items ≡ set old.ends.items i after
    → before ≡ get_or old.ends.items i before → after.head.ring ≡ before.head.ring → after.tail.ring ≡ before.tail.ring → IsLinked shared old → IsLinked shared new
met_linked shared old new i before after table board watch ends found commands notices linked =
    let count : length new.ends.items ≡ length old.ends.items = ap (λ (es : List EngineEnds). length es) ends ∙ length-set old.ends.items i after in
    record {
      table = table ∙ linked.table;
      depth = linked.depth;
      sessions = ap (λ (b : Board). length b.sessions) board ∙ linked.sessions;
      few = linked.few;
      libraries = count ∙ linked.libraries;
      known = linked.known;
      watched = ap (λ (w : Watched). length w.kept) watch ∙ linked.watched ∙ sym count;
      commands = ap (map (λ (e : EngineEnds). e.head.ring)) ends
          ∙ map-set_same (λ (e : EngineEnds). e.head.ring) old.ends.items i after before (commands ∙ ap (λ (e : EngineEnds). e.head.ring) found) ∙ linked.commands;
      notices = ap (map (λ (e : EngineEnds). e.tail.ring)) ends
          ∙ map-set_same (λ (e : EngineEnds). e.tail.ring) old.ends.items i after before (notices ∙ ap (λ (e : EngineEnds). e.tail.ring) found) ∙ linked.notices;
    }
