use Rattle.std.proofs.Common.{[], ◌∷◌, length, refl, sym, subst, arith}
use Rattle.switchboard.specs.Board.{Board, connection_at, place_at}
use Rattle.switchboard.specs.Going.{KeepsBytes}
use Rattle.session_desk.proofs.Proceeding.{bytes_further}
use Rattle.session_desk.proofs.Same.{lines_stay, same_behind, within_of}
use Rattle.lease_desk.specs.Desk.{bodies_of}
use Rattle.switchboard.specs.Happenings.{reserves, shows}
use Rattle.session_desk.proofs.steps.gather.Goals as goal

pub returns-in_err-gather-clause-steady : goal.returns-in_err-gather-clause-steady
returns-in_err-gather-clause-steady c =
    let run = c.requires.steady.run in
    record {
      run = record { before = run.before; ready = c.boards_stay_ready.ensures.happening run.before (reserves c.args.s) c.args.desk.now.board c.gather.new.self.board c.in_err-gather.ensures.rests.happens run.ready };
      in_step = c.gather.ensures.in_step c.requires.steady.in_step;
    }

pub returns-clause-steady : goal.returns-clause-steady
returns-clause-steady c =
    let run = c.requires.steady.run in
    let gathers = c.in_ok-gather.ensures.gathers in
    let events = reserves c.args.s ∷ shows c.args.s gathers.word (bodies_of gathers.items) c.args.at c.args.until ∷ [] in
    record {
      run = record { before = run.before; ready = c.boards_stay_ready.ensures.run run.before events c.args.desk.now.board c.gather.new.self.board gathers.reaches run.ready };
      in_step = c.gather.ensures.in_step c.requires.steady.in_step;
    }

pub returns-clause-connections : goal.returns-clause-connections
returns-clause-connections c =
    let old = c.args.desk.now.board in
    let run = c.requires.steady.run in
    lines_stay (place_at old c.args.s) old c.gather.new.self.board c.in_ok-gather.ensures.gathers.others.connections
    (within_of (place_at old c.args.s) (length old.connections) (c.ready_boards_allow.ensures.place run.before old c.args.s run.ready c.requires.session))

pub returns-clause-same : goal.returns-clause-same
returns-clause-same c =
    let gathers = c.in_ok-gather.ensures.gathers in
    same_behind c.args.s c.args.at c.args.until gathers.word (bodies_of gathers.items) c.args.desk.now.board c.gather.new.self.board gathers.reaches

pub returns-clause-proceeds : goal.returns-clause-proceeds
returns-clause-proceeds c =
    let run = c.requires.steady.run in
    let gathers = c.in_ok-gather.ensures.gathers in
    let old = c.args.desk.now.board in
    let new = c.gather.new.self.board in
    let first = reserves c.args.s in
    let second = shows c.args.s gathers.word (bodies_of gathers.items) c.args.at c.args.until in
    let law = c.boards_go_on.ensures in
    let between = gathers.reaches.0 in
    let last = gathers.reaches.1.1.0 in
    let ready = c.boards_stay_ready.ensures.happening run.before first old between gathers.reaches.1.0 run.ready in
    record {
      goes_on = law.run (first ∷ second ∷ []) old new gathers.reaches;
      leases = c.gather.ensures.goes_on;
      bytes = λ k within.
          let one = law.quiet run.before first old between refl gathers.reaches.1.0 run.ready k within in
          let more = (law.happening first old between gathers.reaches.1.0).more in
          let two = law.quiet run.before second between last refl gathers.reaches.1.1.1.0 ready k (omega arith) in
          subst (λ (b : Board). KeepsBytes (connection_at old k) (connection_at b k)) (sym gathers.reaches.1.1.1.1) (bytes_further (connection_at old k) (connection_at between k) (connection_at last k) one two);
    }
