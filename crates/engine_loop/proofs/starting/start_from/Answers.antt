use Rattle.std.proofs.Common.{List, subst, sym}
use Rattle.engine_start.specs.Restarts.{hold_until}
use Rattle.session_book.specs.Records.{Pending}
use Rattle.session_desk.specs.Steps.{AreNoted}
use Rattle.switchboard.specs.Ready.{entries_of}
use Rattle.engine_loop.proofs.Outset.{begins_at_work, begins_online, restarted}
use Rattle.engine_loop.proofs.starting.start_from.Goals as goal

pub returns-clause-work : goal.returns-clause-work
returns-clause-work c =
    let config = c.args.config in
    let desk = c.in_ok-sessions.sessions in
    let board = desk.desk.board in
    let begun = c.in_ok-sessions.ensures in
    let made = c.in_ok-engine.ensures in
    let ready = c.boards_stay_ready.ensures.first (entries_of board) board begun.sessions.first in
    let noted : AreNoted c.in_ok-engine.engine.lines.unkept.items board = subst (λ (ps : List Pending). AreNoted ps board) (sym made.unkept) begun.unkept.noted in
    begins_at_work config c.args.moment _ c.in_ok-engine.engine desk made.sessions c.requires.config c.requires.moment begun.linked begun.in_order
    (restarted config (hold_until config c.args.moment) c.args.records.items board begun.sessions) ready made.routes noted made.lines.buffer made.figures

pub returns-clause-online : goal.returns-clause-online
returns-clause-online c =
    let config = c.args.config in
    let desk = c.in_ok-sessions.sessions in
    let begun = c.in_ok-sessions.ensures in
    let made = c.in_ok-engine.ensures in
    begins_online c.places_stay_apart.ensures.first c.places_stay_in_order.ensures.first config c.args.moment c.in_ok-engine.engine desk made.sessions c.requires.config
    (restarted config (hold_until config c.args.moment) c.args.records.items desk.desk.board begun.sessions) begun.sessions.first.connections made.lines made.dials made.figures
