use Rattle.std.proofs.Common.{◌≡◌, List, length, sym, ap, subst, ◌∙◌}
use Rattle.engine_start.proofs.Outset.{begins_in_step, cursors_begin}
use Rattle.engine_start.specs.Starts.{StartsSessions, new_shape}
use Rattle.lease_words.specs.Views.{TableRef}
use Rattle.session_core.specs.declared.names.Names.{Names}
use Rattle.switchboard.specs.Ready.{entries_of}
use Rattle.engine_start.proofs.starting.start.Goals as goal

pub returns-clause-in_order : goal.returns-clause-in_order
returns-clause-in_order c =
    let config = c.args.config.now in
    let board = c.in_ok-desk.desk.desk.board in
    let made = c.in_ok-desk.ensures in
    let sessions = subst (StartsSessions config) (sym made.board) c.in_ok-sessions.ensures in
    let ready = c.boards_stay_ready.ensures.first (entries_of board) board sessions.first in
    let shape : c.in_ok-desk.shared.leases.shape ≡ new_shape config =
    ap (λ (t : TableRef). t.shape) made.leases ∙ c.in_ok-leases.ensures.shape ∙ ap (λ (names : List Names). record (new_shape config) { sessions = length names }) c.as_slice.ensures in
    record {
      in_step = begins_in_step config c.in_ok-desk.shared.leases c.in_ok-desk.desk.desk.seat board c.requires.config shape made.desk.seat ready.sound sessions;
      cursors = cursors_begin config board c.in_ok-desk.desk.cursors.items sessions made.desk.cursors;
    }
