use Rattle.desk_tests.proofs.OutsetLemmas.{FirstLaws, begins, fresh}
use Rattle.desk_tests.proofs.making.board.Goals as goal

pub returns : goal.returns
returns c =
    let one = c.in_ok-first in
    let two = c.in_ok-second in
    let none = c.new-board in
    let laws : FirstLaws = record { none = c.boards_stay_ready.ensures.none; add = c.boards_stay_ready.ensures.add } in
    fresh one.first two.second one.ensures.entries two.ensures.entries one.ensures.leases two.ensures.leases c.args.dials none.result c.add.new.self c.add-2.new.self none.ensures.sessions c.in_ok-add.ensures.ok c.in_ok-add-2.ensures.ok
    one.ensures.dials two.ensures.dials
    (begins laws none.result c.add.new.self c.add-2.new.self one.first two.second none.ensures.sessions none.ensures.places none.ensures.connections c.in_ok-add.ensures.ok c.in_ok-add-2.ensures.ok one.ensures.free two.ensures.free
    c.add.ensures.lawful c.add-2.ensures.lawful)
