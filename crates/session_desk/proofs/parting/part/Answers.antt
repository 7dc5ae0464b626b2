use Rattle.std.proofs.Common.{◌≡◌, Some}
use Rattle.switchboard.specs.Board.{connection_at}
use Rattle.session_desk.proofs.Agreeing.{none_is}
use Rattle.session_desk.proofs.parting.part.Goals as goal

pub end-requires-clause-session : goal.end-requires-clause-session
end-requires-clause-session c =
    let board = c.args.desk.now.board in
    let run = c.requires.steady.run in
    let named : (connection_at board c.args.k).session ≡ Some c.in-Some.s = (cc) in
    (c.ready_boards_allow.ensures.alone run.before board c.args.k c.in-Some.s run.ready c.requires.connection named (none_is (connection_at board c.args.k).cause c.requires.stands)).0
