use Rattle.std.proofs.Common.{◌≡◌, Some, refl}
use Rattle.switchboard.specs.Board.{connection_at}
use Rattle.switchboard.specs.Happenings.{prepares}
use Rattle.wire_desk.proofs.writing.prepare.Goals as goal

names_it : (c : goal.After-from) → (connection_at c.args.desk.now.board c.args.k).session ≡ Some c.from.result
names_it c = cc

pub prepare-requires-clause-session : goal.prepare-requires-clause-session
prepare-requires-clause-session c = (let run = c.requires.steady.run in
    c.ready_boards_allow.ensures.there run.before c.args.desk.now.board c.from.result c.args.k run.ready c.requires.connection (names_it c))

pub prepare-requires-clause-named : goal.prepare-requires-clause-named
prepare-requires-clause-named c = (let run = c.requires.steady.run in
    c.ready_boards_allow.ensures.named run.before c.args.desk.now.board c.from.result c.args.k run.ready c.requires.connection (names_it c))

pub returns-in-Some-clause-steady : goal.returns-in-Some-clause-steady
returns-in-Some-clause-steady c =
    let run = c.requires.steady.run in
    let old = c.args.desk.now.board in
    let new = c.prepare.new.self in
    let event = prepares c.from.result c.args.k in
    let names : (connection_at c.args.desk.now.board c.args.k).session ≡ Some c.from.result = cc in
    let happens = c.prepare.ensures.happens names in
    record {
      run = record { before = run.before; ready = c.boards_stay_ready.ensures.happening run.before event old new happens run.ready };
      in_step = c.boards_stay_in_step.ensures.step run.before event old new c.args.desk.now.seat refl happens run.ready c.requires.steady.in_step;
    }

pub returns-in-Some-clause-written : goal.returns-in-Some-clause-written
returns-in-Some-clause-written c =
    let run = c.requires.steady.run in
    let names : (connection_at c.args.desk.now.board c.args.k).session ≡ Some c.from.result = cc in
    c.boards_go_on.ensures.written run.before (prepares c.from.result c.args.k) c.args.desk.now.board c.prepare.new.self refl (c.prepare.ensures.happens names) run.ready c.args.k c.requires.connection
