use Rattle.std.proofs.Common.{◌≡◌, ◌∷◌, List, sym, ap, subst, ◌∙◌}
use Rattle.std.proofs.lemmas.List.Elements.{All-tail}
use Rattle.std.specs.List.{All}
use Rattle.std.specs.Vec.Iter.{into_iter_items}
use Rattle.engine_end.proofs.Recorded.{settled_more}
use Rattle.lease_desk.specs.declared.desk.LeaseDesk.{LeaseDesk}
use Rattle.lease_words.specs.Views.{EngineView, LibraryView}
use Rattle.lease_words.specs.declared.view.LibraryKnows.{LibraryKnows}
use Rattle.engine_end.proofs.settling.settle_all.Goals as goal

pub loop-seat-preserved : goal.loop-seat-preserved
loop-seat-preserved c =
    let was = c.loop-seat.invariant in
    let first = c.args.desk.now in
    let seat = c.in-Some.seat in
    let steps : into_iter_items c.loop-seat.seat-iterator ≡ seat ∷ into_iter_items c.next.new.self = c.in-Some.ensures.steps.0 in
    record {
      settled = ap (λ (v : EngineView). record (c.loop-seat.desk) { seat = v }) c.settle.ensures
          ∙ ap (λ (d : LeaseDesk). record d { seat = record (d.seat) { settled = seat.knows ∷ d.seat.settled } }) was.settled
          ∙ ap (λ (ks : List LibraryKnows). record first { seat = record (first.seat) { settled = ks } }) (sym (settled_more c.loop-seat.yielded seat first.seat.settled));
      others = All-tail (λ (v : LibraryView). v.table ≡ c.args.leases.now) seat (into_iter_items c.next.new.self) (subst (All (λ (v : LibraryView). v.table ≡ c.args.leases.now)) steps was.others);
    }
