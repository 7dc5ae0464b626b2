use Rattle.std.proofs.Common.{◌≡◌, ◌≤◌, List, ℕ, refl, sym, ap, subst, ◌∙◌, length, take}
use Rattle.std.specs.Prelude.{IfSome}
use Rattle.connection_core.specs.Connection.{ConnectionState}
use Rattle.connection_core.specs.Outgoing.{Outgoing, waiting_text, written_text}
use Rattle.gate_io.specs.Wire.{WireTakesFrom}
use Rattle.gate_io.specs.declared.wires.WireWrote.TheVariants as wrote
use Rattle.switchboard.specs.Board.{connection_at}
use Rattle.switchboard.specs.Happenings.{writes}
use Rattle.wire_desk.specs.Lines.{TookWhatIsWritten}
use Rattle.wire_desk.proofs.Writes.{as_asked, some_of, took_none, took_on}
use Rattle.wire_desk.proofs.writing.write_once.Goals as goal

pub returns-in-Bytes-clause-written : goal.returns-in-Bytes-clause-written
returns-in-Bytes-clause-written g c =
    let old = connection_at c.args.desk.now.board c.args.k in
    let number : c.number.result ≡ old.number = c.number.ensures ∙ ap (λ (x : ConnectionState). x.number) c.connection-connection.ensures in
    let piece : c.waiting-piece.result.now ≡ take c.args.limit (waiting_text old.out.outgoing) = c.waiting-piece.ensures ∙ ap (λ (x : ConnectionState). take c.args.limit (waiting_text x.out.outgoing)) c.connection-connection.ensures in
    let before = (g.W.Wire.link c.args.wire.now c.number.result).written in
    let after = (g.W.Wire.link c.write.new.self c.number.result).written in
    let takes : WireTakesFrom before (wrote.Bytes c.in-Bytes.n) (take c.args.limit (waiting_text old.out.outgoing)) after =
    subst (λ (p : List ℕ). WireTakesFrom before (wrote.Bytes c.in-Bytes.n) p after) piece c.in-Bytes.ensures.content in
    let within : c.in-Bytes.n ≤ length (take c.args.limit (waiting_text old.out.outgoing)) = subst (λ (p : List ℕ). c.in-Bytes.n ≤ length p) piece c.in-Bytes.ensures.within.1 in
    let was : IfSome before (λ bytes. bytes ≡ written_text old.out.outgoing) = subst (λ n. TookWhatIsWritten (g.W.Wire.link c.args.wire.now n) old) (sym number) c.requires.written in
    let now = took_on before after old.out.outgoing c.args.limit c.in-Bytes.n within takes was in
    subst (λ n. TookWhatIsWritten (g.W.Wire.link c.write.new.self n) (connection_at c.wrote.new.self c.args.k)) number
    (subst (λ (o : Outgoing). IfSome after (λ bytes. bytes ≡ written_text o)) (sym c.wrote.ensures.outgoing) now)

pub returns-in-Bytes-clause-planned : goal.returns-in-Bytes-clause-planned
returns-in-Bytes-clause-planned g c =
    let old = connection_at c.args.desk.now.board c.args.k in
    let number : c.number.result ≡ old.number = c.number.ensures ∙ ap (λ (x : ConnectionState). x.number) c.connection-connection.ensures in
    let piece : c.waiting-piece.result.now ≡ take c.args.limit (waiting_text old.out.outgoing) = c.waiting-piece.ensures ∙ ap (λ (x : ConnectionState). take c.args.limit (waiting_text x.out.outgoing)) c.connection-connection.ensures in
    as_asked c.args.limit c.number.result c.waiting-piece.result.now old (g.W.Wire.link c.args.wire.now) (g.W.Wire.link c.write.new.self) (wrote.Bytes c.in-Bytes.n) number piece (some_of c.is_empty.result c.waiting-piece.result.now c.is_empty.ensures cc) c.in-Bytes.ensures.planned

pub returns-in-Bytes-clause-steady : goal.returns-in-Bytes-clause-steady
returns-in-Bytes-clause-steady g c =
    let run = c.requires.steady.run in
    let old = c.args.desk.now.board in
    let new = c.wrote.new.self in
    let event = writes c.args.k c.in-Bytes.n in
    let happens = c.wrote.ensures.happens in
    record {
      run = record { before = run.before; ready = c.boards_stay_ready.ensures.happening run.before event old new happens run.ready };
      in_step = c.boards_stay_in_step.ensures.step run.before event old new c.args.desk.now.seat refl happens run.ready c.requires.steady.in_step;
    }

pub returns-in-Blocked-clause-written : goal.returns-in-Blocked-clause-written
returns-in-Blocked-clause-written g c =
    let old = connection_at c.args.desk.now.board c.args.k in
    let number : c.number.result ≡ old.number = c.number.ensures ∙ ap (λ (x : ConnectionState). x.number) c.connection-connection.ensures in
    let was = subst (λ n. TookWhatIsWritten (g.W.Wire.link c.args.wire.now n) old) (sym number) c.requires.written in
    subst (λ n. TookWhatIsWritten (g.W.Wire.link c.write.new.self n) old) number
    (took_none wrote.Blocked (g.W.Wire.link c.args.wire.now c.number.result).written (g.W.Wire.link c.write.new.self c.number.result).written c.waiting-piece.result.now (written_text old.out.outgoing) tt c.in-Blocked.ensures.content was)

pub returns-in-Failed-clause-written : goal.returns-in-Failed-clause-written
returns-in-Failed-clause-written g c =
    let old = connection_at c.args.desk.now.board c.args.k in
    let number : c.number.result ≡ old.number = c.number.ensures ∙ ap (λ (x : ConnectionState). x.number) c.connection-connection.ensures in
    let was = subst (λ n. TookWhatIsWritten (g.W.Wire.link c.args.wire.now n) old) (sym number) c.requires.written in
    subst (λ n. TookWhatIsWritten (g.W.Wire.link c.write.new.self n) old) number
    (took_none wrote.Failed (g.W.Wire.link c.args.wire.now c.number.result).written (g.W.Wire.link c.write.new.self c.number.result).written c.waiting-piece.result.now (written_text old.out.outgoing) tt c.in-Failed.ensures.content was)

pub returns-in-Blocked-clause-planned : goal.returns-in-Blocked-clause-planned
returns-in-Blocked-clause-planned g c =
    let old = connection_at c.args.desk.now.board c.args.k in
    let number : c.number.result ≡ old.number = c.number.ensures ∙ ap (λ (x : ConnectionState). x.number) c.connection-connection.ensures in
    let piece : c.waiting-piece.result.now ≡ take c.args.limit (waiting_text old.out.outgoing) = c.waiting-piece.ensures ∙ ap (λ (x : ConnectionState). take c.args.limit (waiting_text x.out.outgoing)) c.connection-connection.ensures in
    as_asked c.args.limit c.number.result c.waiting-piece.result.now old (g.W.Wire.link c.args.wire.now) (g.W.Wire.link c.write.new.self) wrote.Blocked number piece (some_of c.is_empty.result c.waiting-piece.result.now c.is_empty.ensures cc) c.in-Blocked.ensures.planned

pub returns-in-Failed-clause-planned : goal.returns-in-Failed-clause-planned
returns-in-Failed-clause-planned g c =
    let old = connection_at c.args.desk.now.board c.args.k in
    let number : c.number.result ≡ old.number = c.number.ensures ∙ ap (λ (x : ConnectionState). x.number) c.connection-connection.ensures in
    let piece : c.waiting-piece.result.now ≡ take c.args.limit (waiting_text old.out.outgoing) = c.waiting-piece.ensures ∙ ap (λ (x : ConnectionState). take c.args.limit (waiting_text x.out.outgoing)) c.connection-connection.ensures in
    as_asked c.args.limit c.number.result c.waiting-piece.result.now old (g.W.Wire.link c.args.wire.now) (g.W.Wire.link c.write.new.self) wrote.Failed number piece (some_of c.is_empty.result c.waiting-piece.result.now c.is_empty.ensures cc) c.in-Failed.ensures.planned
