use Rattle.std.proofs.Common.{refl, subst}
use Rattle.session_desk.specs.Stops.{StopsTicking}
use Rattle.engine_loop.proofs.Stopped.{on_err}
use Rattle.engine_loop.proofs.engine.Engine.tick_session.Goals as goal

pub returns-clause-work : goal.returns-clause-work
returns-clause-work c =
    let told = c.in_ok-tick.ensures in
    let goes = told.proceeds.goes_on in
    let was = c.requires.work.set_up in
    let lines = c.args.self.now.lines in
    let old = c.args.self.now.sessions.desk in
    let new = c.tick.new.desk in
    c.engines_stay.ensures.work c.args.shared.now c.args.self.now _ refl goes told.proceeds.leases
    (c.lines_progress.ensures.set_up c.args.shared.now.leases old new lines lines goes c.tick.ensures.table refl refl (c.lines_progress.ensures.noted old.board new.board lines.unkept.items goes was.noted) told.steady was)
    c.requires.work

pub returns-clause-online : goal.returns-clause-online
returns-clause-online c = λ door links was.
    let told = c.in_ok-tick.ensures in
    c.engines_stay.ensures.still c.args.self.now _ door links told.proceeds.goes_on
    (c.none_comes.ensures.ticks c.args.s c.args.self.now.moment c.until-until.result c.args.self.now.sessions.desk c.tick.new.desk c.in_ok-tick.field-0 told.ticks) told.proceeds.bytes refl refl refl refl refl refl was

pub returns-in_err-tick-clause-stops : goal.returns-in_err-tick-clause-stops
returns-in_err-tick-clause-stops c =
    let e = c.args.self.now in
    on_err c.from_residual.result (subst (λ until. StopsTicking c.args.s e.moment until e.sessions.desk c.tick.new.desk) c.until-until.ensures c.in_err-tick.ensures.stops)
