use Rattle.std.proofs.Common.{List, length, ◌∙◌, ap}
use Rattle.std.specs.Prelude.{replicate}
use Rattle.session_core.specs.declared.names.Names.{Names}
use Rattle.session_desk.specs.Steps.{nothing_noted}
use Rattle.switchboard.specs.Ready.{entries_of}
use Rattle.engine_loop.proofs.Outset.{begins_at_work, begins_online, noted_begin, started}
use Rattle.engine_loop.proofs.starting.start.Goals as goal

pub returns-clause-work : goal.returns-clause-work
returns-clause-work c =
    let config = c.args.config in
    let desk = c.in_ok-sessions.sessions in
    let board = desk.desk.board in
    let begun = c.in_ok-sessions.ensures in
    let made = c.in_ok-engine.ensures in
    let ready = c.boards_stay_ready.ensures.first (entries_of board) board begun.sessions.first in
    let noted = noted_begin config board c.in_ok-engine.engine.lines.unkept.items begun.sessions (made.unkept ∙ c.in_ok-unkept.ensures ∙ ap (λ (ns : List Names). replicate (length ns) nothing_noted) c.as_slice.ensures) in
    begins_at_work config c.args.moment _ c.in_ok-engine.engine desk made.sessions c.requires.config c.requires.moment begun.linked begun.in_order (started config board begun.sessions) ready made.routes noted made.lines.buffer made.figures

pub returns-clause-online : goal.returns-clause-online
returns-clause-online c =
    let config = c.args.config in
    let desk = c.in_ok-sessions.sessions in
    let begun = c.in_ok-sessions.ensures in
    let made = c.in_ok-engine.ensures in
    begins_online c.places_stay_apart.ensures.first c.places_stay_in_order.ensures.first config c.args.moment c.in_ok-engine.engine desk made.sessions c.requires.config (started config desk.desk.board begun.sessions) begun.sessions.first.connections made.lines
    made.dials made.figures
