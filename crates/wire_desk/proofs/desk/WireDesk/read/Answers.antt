use Rattle.std.proofs.Common.{◌≡◌, ◌<◌, ℕ, List, inr, length, false, sym, ap, subst, ◌∙◌, arith}
use Rattle.connection_core.specs.Connection.{ConnectionState}
use Rattle.gate_io.specs.Wire.{Door, OthersStay}
use Rattle.switchboard.specs.Board.{connection_at}
use Rattle.wire_desk.specs.Lines.{IsWired}
use Rattle.wire_desk.specs.Places.{open_places}
use Rattle.wire_desk.specs.Steps.{ReadsAs, sessions_of}
use Rattle.wire_desk.specs.declared.desk.WireDesk.{WireDesk}
use Rattle.wire_desk.proofs.Progress.{stood}
use Rattle.wire_desk.proofs.Untold.{on_err}
use Rattle.wire_desk.proofs.desk.WireDesk.read.Goals as goal

pub returns-clause-reads : goal.returns-clause-reads
returns-clause-reads g c =
    let between = sessions_of c.follow_read.new.desk c.follow_read.new.self.unkept.items in
    let start = sessions_of c.args.desk.now c.args.self.now.unkept.items in
    record {
      between = between;
      reads = subst (λ (bytes : List ℕ). ReadsAs c.read-got.result c.args.self.now.routes c.args.k bytes c.args.at c.args.until start between)
          (sym (ap (λ (w : WireDesk). w.buffer.items) c.leave_if_tardy.ensures.rest ∙ ap (λ (w : WireDesk). w.buffer.items) c.follow_read.ensures.rest)) c.in_ok-follow_read.ensures.reads;
      tardy = c.in_ok-leave_if_tardy.ensures.leaves;
    }

pub returns-clause-wired : goal.returns-clause-wired
returns-clause-wired g c =
    let old = c.args.desk.now.board in
    let middle = c.follow_read.new.desk.board in
    let new = c.leave_if_tardy.new.desk.board in
    let k = c.args.k in
    let first = c.in_ok-follow_read.ensures in
    let last = c.in_ok-leave_if_tardy.ensures in
    let links = g.W.Wire.link in
    let before = links c.args.wire.now in
    let after = links c.read-got.new.self in
    let number : c.number-number.result ≡ (connection_at old k).number = c.number-number.ensures ∙ ap (λ (x : ConnectionState). x.number) c.connection.ensures in
    let places : open_places c.leave_if_tardy.new.self ≡ open_places c.args.self.now =
    ap (λ (w : WireDesk). open_places w) c.leave_if_tardy.ensures.rest ∙ ap (λ (w : WireDesk). open_places w) c.follow_read.ensures.rest in
    let within : k < length middle.connections = subst (λ n. k < n) (sym first.progresses.count) c.requires.connection in
    subst (λ (xs : List ℕ). IsWired new xs (g.W.Wire.door c.read-got.new.self) after) (sym places)
    (subst (λ (door : Door). IsWired new (open_places c.args.self.now) door after) (sym c.read-got.ensures.door_stays)
    (c.lines_progress.ensures.wired k old new (open_places c.args.self.now) (g.W.Wire.door c.args.wire.now) before after c.requires.connection
    (c.lines_progress.ensures.further k old middle new first.progresses last.progresses)
    (subst (OthersStay before after) number c.read-got.ensures.others_stay)
    (subst (λ n. (after n).closed ≡ false) number c.read-got.ensures.stays_open.open_still)
    (subst (λ n. (after n).written ≡ (before n).written) number c.read-got.ensures.written_stays)
    (λ none.
    let held = last.held none in
    let had = first.roomy (stood (connection_at middle k).cause (connection_at new k).cause (last.progresses.goes_on.each k within).ended none) in
    let long : length (connection_at new k).held ≡ length (connection_at middle k).held = ap (λ (xs : List ℕ). length xs) held in
    omega arith)
    c.requires.wired))

pub returns-in_err-leave_if_tardy-clause-stops : goal.returns-in_err-leave_if_tardy-clause-stops
returns-in_err-leave_if_tardy-clause-stops g c = on_err c.from_residual-in_err-leave_if_tardy.result (inr (inr (record {
  got = c.read-got.result;
  buffer = _;
  between = sessions_of c.follow_read.new.desk c.follow_read.new.self.unkept.items;
  reads = c.in_ok-follow_read.ensures.reads;
  stops = c.in_err-leave_if_tardy.ensures.nothing;
})))
