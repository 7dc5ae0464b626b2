use Rattle.std.proofs.Common.{Result, Ok, Err, refl, ap}
use Rattle.std.specs.Prelude.{OnOk}
use Rattle.lease_words.specs.Views.{EngineView}
use Rattle.wire_desk.proofs.desk.WireDesk.leave_if_tardy.Goals as goal

both : {T E A B C : Type 0} (r : Result T E) → OnOk r A → OnOk r B → (A → B → C) → OnOk r C
both (Ok x) one two of = of one two
both (Err e) one two of = tt

pub returns-clause-set_up : goal.returns-clause-set_up
returns-clause-set_up c =
    let was = c.requires.set_up in
    let old = c.args.desk.now in
    let new = c.part.new.desk in
    let lines = c.args.self.now in
    both c.part.result c.part.ensures.steady c.part.ensures.progresses
    (λ steady progresses. c.lines_progress.ensures.set_up c.args.leases.now old new lines lines progresses.goes_on (ap (λ (v : EngineView). v.table) c.part.ensures.seat) refl refl
    (c.lines_progress.ensures.noted old.board new.board lines.unkept.items progresses.goes_on was.noted) steady was)
