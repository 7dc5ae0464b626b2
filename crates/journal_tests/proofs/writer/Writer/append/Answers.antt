use Rattle.std.proofs.Common.{rules, ◌≡◌, ◌∷◌, ◌++◌, []}
use Rattle.std.specs.Vec.Iter.{into_iter_items}
use Rattle.journal_tests.proofs.Ready.{ready_runs, ready_appended}
use Rattle.journal_tests.proofs.writer.Writer.append.Goals as goal

pub append-requires-clause-run : goal.append-requires-clause-run
append-requires-clause-run c =
    let next : into_iter_items c.self.inside.rest ≡ c.in-Some.event ∷ into_iter_items c.next.new.self = search rules in
    ready_runs c.self.inside.journal c.in-Some.event _ _ c.self.invariant next c.files_stand_once.ensures.once c.beginnings_are_runs.ensures

pub invariant_of-result-2 : goal.invariant_of-result-2
invariant_of-result-2 c =
    let next : into_iter_items c.self.inside.rest ≡ c.in-Some.event ∷ into_iter_items c.next.new.self = search rules in
    let batch : c.append.new.self.batch ≡ c.self.inside.journal.batch ++ c.in-Some.event ∷ [] = search rules in
    let e = c.append.ensures in
    ready_appended c.self.inside.journal c.in-Some.event _ _ c.self.invariant next c.append.new.self e.disk e.sessions e.leases batch
