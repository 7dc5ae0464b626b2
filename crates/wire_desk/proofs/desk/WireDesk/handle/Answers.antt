use Rattle.std.proofs.Common.{◌≡◌, ◌<◌, ℕ, Option, None, Some, refl, sym, subst}
use Rattle.switchboard.specs.Board.{connection_at}
use Rattle.wire_desk.specs.Stops.{StopsInBody}
use Rattle.wire_desk.proofs.OneByOne.{no_cause}
use Rattle.wire_desk.proofs.Untold.{on_err}
use Rattle.wire_desk.proofs.desk.WireDesk.handle.Goals as goal

pub hear-requires-clause-session : goal.hear-requires-clause-session
hear-requires-clause-session c =
    let board = c.args.desk.now.board in
    let run = c.requires.set_up.steady.run in
    let named : (connection_at board c.args.k).session ≡ Some c.in-Some.s = (cc) in
    (c.ready_boards_allow.ensures.alone run.before board c.args.k c.in-Some.s run.ready c.requires.connection named (no_cause (connection_at board c.args.k).cause c.requires.stands)).0

pub hear-requires-clause-seated : goal.hear-requires-clause-seated
hear-requires-clause-seated c = subst (λ n. c.in-Some.s < n) c.requires.set_up.sessions (hear-requires-clause-session c)

pub returns-in_ok-hear-in-Some-clause-set_up : goal.returns-in_ok-hear-in-Some-clause-set_up
returns-in_ok-hear-in-Some-clause-set_up c =
    let told = c.in_ok-hear-in-Some.ensures in
    c.lines_progress.ensures.set_up c.args.leases.now c.args.desk.now c.hear.new.desk c.args.self.now _ told.proceeds.goes_on c.hear.ensures.table refl refl told.noted told.steady c.requires.set_up

pub returns-in_ok-hear-in-Some-clause-connections : goal.returns-in_ok-hear-in-Some-clause-connections
returns-in_ok-hear-in-Some-clause-connections c =
    c.none_comes.ensures.hears c.in-Some.s c.args.k c.args.body.items c.args.at c.args.until c.args.desk.now c.hear.new.desk c.args.self.now.unkept.items c.hear.new.unkept.items c.in_ok-hear-in-Some.field-0 c.in_ok-hear-in-Some.ensures.hears

pub returns-in_ok-greet-in-None-clause-set_up : goal.returns-in_ok-greet-in-None-clause-set_up
returns-in_ok-greet-in-None-clause-set_up c =
    let told = c.in_ok-greet-in-None.ensures in
    c.lines_progress.ensures.set_up c.args.leases.now c.args.desk.now c.greet.new.desk c.args.self.now _ told.proceeds.goes_on c.greet.ensures.table refl refl told.noted told.steady c.requires.set_up

pub returns-in_err-greet-in-None-clause-stops : goal.returns-in_err-greet-in-None-clause-stops
returns-in_err-greet-in-None-clause-stops c =
    let unnamed : (connection_at c.args.desk.now.board c.args.k).session ≡ None = (cc) in
    on_err c.from_residual-in_err-greet-in-None.result
    (subst (λ (session : Option ℕ). StopsInBody session c.args.k c.args.body.items c.args.at c.args.until c.args.desk.now c.greet.new.desk) (sym unnamed) c.in_err-greet-in-None.ensures.stops)
