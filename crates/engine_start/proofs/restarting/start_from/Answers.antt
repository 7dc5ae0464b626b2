use Rattle.std.proofs.Common.{◌≡◌, ℕ, ◌<◌, ◌≤◌, length, sym, ap, subst, ◌∙◌}
use Rattle.engine_start.proofs.Again.{begins_again, leases_are, notes_closing, restarts_sessions, resumes_leases}
use Rattle.engine_start.proofs.Outset.{cursors_are}
use Rattle.engine_start.specs.Restarts.{RestartsSessions, hold_until, lines_of_sessions, resumed_shape}
use Rattle.engine_start.specs.Revived.{GoOnBehind}
use Rattle.lease_core.specs.declared.limits.TheConstants.{MOST_LEASES}
use Rattle.lease_words.specs.Tokens.{new_engine_seat}
use Rattle.lease_words.specs.Views.{EngineView, TableRef, engine_at, pending}
use Rattle.lease_words.specs.declared.view.Shape.{Shape}
use Rattle.switchboard.specs.Board.{Board}
use Rattle.switchboard.specs.Ready.{entries_of}
use Rattle.engine_start.proofs.restarting.start_from.Goals as goal

pub resume_table-requires-clause-leases : goal.resume_table-requires-clause-leases
resume_table-requires-clause-leases c =
    leases_are c.args.config.now c.hold_until-until.result c.args.records.items c.in_ok-revived.revived.items c.in_ok-board.board c.in_ok-board.unkept.items c.in_ok-revived.ensures.records c.in_ok-board.ensures

-- the sessions go on, on the board of the engine
go_on : (c : goal.In_ok-desk)
    → GoOnBehind c.args.config.now (hold_until c.args.config.now c.args.moment) c.in_ok-revived.revived.items (length c.args.config.now.names) c.in_ok-desk.desk.desk.board c.in_ok-board.unkept.items
go_on c =
    let config = c.args.config.now in
    let revived = c.in_ok-revived.revived.items in
    subst (λ (n : ℕ). GoOnBehind config n revived (length config.names) c.in_ok-desk.desk.desk.board c.in_ok-board.unkept.items) c.hold_until-until.ensures
    (subst (λ (b : Board). GoOnBehind config c.hold_until-until.result revived (length config.names) b c.in_ok-board.unkept.items) (sym c.in_ok-desk.ensures.board) c.in_ok-board.ensures)

sessions_of : (c : goal.In_ok-desk) → RestartsSessions c.args.config.now (hold_until c.args.config.now c.args.moment) c.args.records.items c.in_ok-desk.desk.desk.board
sessions_of c =
    restarts_sessions c.args.config.now (hold_until c.args.config.now c.args.moment) c.args.records.items c.in_ok-revived.revived.items c.in_ok-desk.desk.desk.board c.in_ok-board.unkept.items c.in_ok-revived.ensures.records (go_on c)

shape_is : (c : goal.In_ok-desk) → c.in_ok-desk.shared.leases.shape ≡ resumed_shape c.args.config.now c.in_ok-desk.desk.desk.board
shape_is c = ap (λ (t : TableRef). t.shape) c.in_ok-desk.ensures.leases ∙ c.in_ok-leases.ensures.shape ∙ ap (resumed_shape c.args.config.now) (sym c.in_ok-desk.ensures.board)

session_count : (c : goal.In_ok-desk) → c.in_ok-desk.shared.leases.shape.sessions ≡ length c.in_ok-desk.desk.desk.board.sessions
session_count c = ap (λ (x : Shape). x.sessions) (shape_is c) ∙ sym (go_on c).count_is

lines_before_are : (c : goal.In_ok-desk) → c.in_ok-desk.shared.leases.shape.before ≡ lines_of_sessions c.in_ok-desk.desk.desk.board.sessions
lines_before_are c = ap (λ (x : Shape). x.before) (shape_is c)

pub returns-clause-in_order : goal.returns-clause-in_order
returns-clause-in_order c =
    let config = c.args.config.now in
    let board = c.in_ok-desk.desk.desk.board in
    let table = c.in_ok-desk.shared.leases in
    let seat = c.in_ok-desk.desk.desk.seat in
    let made = c.in_ok-desk.ensures in
    let sessions = sessions_of c in
    let ready = c.boards_stay_ready.ensures.first (entries_of board) board sessions.first in
    let same_seat : seat ≡ c.in_ok-leases.seat = made.desk.seat ∙ ap new_engine_seat made.leases ∙ sym c.in_ok-leases.ensures.engine in
    let leases =
    leases_are config (hold_until config c.args.moment) c.args.records.items c.in_ok-revived.revived.items board c.in_ok-board.unkept.items c.in_ok-revived.ensures.records (go_on c) in
    record {
      in_step = begins_again board table seat made.desk.seat (session_count c) (lines_before_are c) ready.sound
          (λ s. ap (λ (v : EngineView). pending (engine_at v s)) same_seat ∙ c.in_ok-leases.ensures.taken s)
          (λ s small. subst (λ n. n ≤ MOST_LEASES) (sym (leases s small)) c.requires.config.leases.to_most);
      cursors = cursors_are (length config.names) board c.in_ok-desk.desk.cursors.items (go_on c).count_is sessions.owned made.desk.cursors;
    }

pub returns-clause-sessions : goal.returns-clause-sessions
returns-clause-sessions c = sessions_of c

pub returns-clause-leases : goal.returns-clause-leases
returns-clause-leases c =
    λ s small. resumes_leases c.in_ok-desk.desk.desk.board c.in_ok-desk.shared.leases c.in_ok-desk.desk.desk.seat c.in_ok-desk.ensures.desk.seat (session_count c) (lines_before_are c) s
    (subst (λ n. s < n) (sym (go_on c).count_is) small)

pub returns-clause-unkept : goal.returns-clause-unkept
returns-clause-unkept c =
    notes_closing c.args.config.now (hold_until c.args.config.now c.args.moment) c.args.records.items c.in_ok-revived.revived.items c.in_ok-desk.desk.desk.board c.in_ok-board.unkept.items c.in_ok-revived.ensures.records (go_on c)
