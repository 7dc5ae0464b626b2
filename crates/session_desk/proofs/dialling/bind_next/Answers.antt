use Rattle.std.proofs.Common.{List, Some, get_or, length, refl, ap, ◌∙◌}
use Rattle.std.proofs.lemmas.List.{get_or-set_other, length-set}
use Rattle.switchboard.specs.Outgoing.{no_outgoing}
use Rattle.session_book.specs.Book.{with_outbox}
use Rattle.session_book.specs.Kept.{Kept}
use Rattle.switchboard.specs.Board.{book_at, desk_with, no_session, session_at}
use Rattle.session_desk.proofs.Agreeing.{agree_where, opened_keeps}
use Rattle.switchboard.specs.Happenings.{dials}
use Rattle.session_desk.proofs.dialling.bind_next.Goals as goal

pub returns-clause-steady : goal.returns-clause-steady
returns-clause-steady c =
    let run = c.requires.steady.run in
    let old = c.args.desk.now.board in
    let new = c.dial.new.self in
    let event = dials c.args.s c.args.number c.args.at in
    let happens = c.in_ok-k.ensures.happens c.requires.new_number in
    record {
      run = record { before = run.before; ready = c.boards_stay_ready.ensures.happening run.before event old new happens run.ready };
      in_step = c.boards_stay_in_step.ensures.step run.before event old new c.args.desk.now.seat refl happens run.ready c.requires.steady.in_step;
    }

pub returns-clause-agree : goal.returns-clause-agree
returns-clause-agree c = (returns-clause-steady c).in_step.agree

pub returns-in_err-k-clause-agree : goal.returns-in_err-k-clause-agree
returns-in_err-k-clause-agree c =
    let old = c.args.desk.now.board in
    let new = c.dial.new.self in
    let s = c.args.s in
    agree_where c.agreement_stays.ensures.session s old new c.args.desk.now.seat
    (ap (λ (xs : List Kept). length xs) c.dial.ensures.sessions ∙ length-set old.sessions s (session_at new s))
    (λ j other. ap (λ (xs : List Kept). (get_or xs j no_session).book) c.dial.ensures.sessions ∙ ap (λ (k : Kept). k.book) (get_or-set_other old.sessions s j (session_at new s) no_session other))
    (opened_keeps c.leases_stay.ensures.opened c.sessions_go_on.ensures.opened c.args.number c.args.at _ _ (with_outbox (book_at old s) no_outgoing) (desk_with new s (Some (length old.connections))) c.in_err-k.ensures.begun)
    c.requires.steady.in_step.agree

pub returns-clause-proceeds : goal.returns-clause-proceeds
returns-clause-proceeds c =
    let run = c.requires.steady.run in
    c.sessions_proceed.ensures.happening run.before (dials c.args.s c.args.number c.args.at) c.args.desk.now.board c.dial.new.self refl refl (c.in_ok-k.ensures.happens c.requires.new_number) run.ready
