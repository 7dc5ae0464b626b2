-- How sessions, seat and cursors begin.
use Rattle.std.proofs.Common.{◌≡◌, ℕ, zero, suc, ◌+◌, ◌<◌, ◌≤◌, List, [], ◌∷◌, ◌++◌, get_or, length, map, refl, sym, ap, subst, ◌∙◌, arith}
use borrow.Author.Count.{below_more}
use Rattle.std.proofs.Math.ListN.{get_or-append}
use Rattle.std.proofs.Math.Seq.{get_or-append_seam}
use Rattle.std.proofs.lemmas.List.{length-append}
use Rattle.catchup_pump.specs.declared.cursor.Cursor.{Cursor}
use Rattle.engine_config.specs.Config.{IsConfig}
use Rattle.engine_config.specs.declared.config.Config.{Config}
use Rattle.engine_start.specs.Starts.{IsShapeOf, StartsCursors, StartsSessions, new_cursor, new_shape}
use Rattle.engine_start.specs.Sides.{AreSides}
use Rattle.engine_start.specs.declared.sides.Sides.{Sides}
use Rattle.engine_start.proofs.NewEnds.{engine_commands, engine_count, engine_notices}
use Rattle.lease_core.specs.Lines.{lines_of}
use Rattle.lease_core.specs.State.{owner_of, state_of}
use Rattle.lease_core.specs.declared.entry.Entry.{Entry}
use Rattle.lease_core.specs.declared.limits.TheConstants.{MOST_LEASES, MOST_LIBRARIES}
use Rattle.lease_desk.specs.Desk.{IsInStep, owner_at}
use Rattle.lease_words.specs.Tokens.{new_engine_seat, new_library_seats}
use Rattle.lease_words.specs.declared.layout.TheConstants.{LANE_SLOTS}
use Rattle.lease_words.specs.Views.{EngineView, TableRef, engine_at, new_engine_session, new_engine_sessions, no_engine_session, pending}
use Rattle.lease_words.specs.declared.view.EngineSession.{EngineSession}
use Rattle.lease_words.specs.declared.view.Shape.{Shape}
use Rattle.library_desk.specs.Serving.{AreCursors, IsCursorOf, IsLinked, cursor_at, no_cursor}
use Rattle.library_desk.specs.declared.desk.LibraryDesk.{LibraryDesk}
use Rattle.library_desk.specs.declared.ends.EngineEnds.{EngineEnds}
use Rattle.library_desk.specs.declared.shared.Shared.{Shared}
use Rattle.session_book.specs.Book.{Book}
use Rattle.session_core.specs.declared.routing.TheConstants.{MOST_SESSIONS}
use Rattle.switchboard.specs.Board.{Board, book_at}
use Rattle.switchboard.specs.Sound.{IsSound}

pub session_of : (shape : Shape) (first n s : ℕ) → s < n → get_or (new_engine_sessions shape first n) s no_engine_session ≡ new_engine_session shape (first + s)
session_of shape first zero s small = absurd (omega arith)
session_of shape first (suc n) zero small = ap (new_engine_session shape) (omega arith)
session_of shape first (suc n) (suc s) small = session_of shape (suc first) n s (omega arith) ∙ ap (new_engine_session shape) (omega arith)

-- the engine has seen no lease and taken nothing
record IsNew (es : EngineSession) : Type 0 where
  lines : es.lines ≡ []
  taken : pending es ≡ 0
  published : es.published ≡ 0

new_session : (shape : Shape) (s : ℕ) → shape.before ≡ [] → IsNew (new_engine_session shape s)
new_session shape s none = record {
  lines = ap (λ before. get_or before s []) none;
  taken = subst (λ before. pending (new_engine_session (record shape { before = before }) s) ≡ 0) (sym none) (omega arith);
  published = refl;
}

no_lines : (entries : List Entry) → entries ≡ [] → lines_of entries ≡ []
unfolding state_of
no_lines entries none = ap lines_of none

pub begins_in_step : (config : Config) (t : TableRef) (seat : EngineView) (board : Board) → IsConfig config → t.shape ≡ new_shape config → seat ≡ new_engine_seat t
    → IsSound board → StartsSessions config board → IsInStep board seat
begins_in_step config t seat board is shape seat_is sound starts = record {
  sound = sound;
  agree = λ s small.
      let within : s < length config.names = subst (λ n. s < n) starts.count small in
      let known : engine_at seat s ≡ new_engine_session t.shape s =
      ap (λ (v : EngineView). engine_at v s) seat_is ∙ session_of t.shape 0 t.shape.sessions s (subst (λ n. s < n) (sym (ap (λ (x : Shape). x.sessions) shape)) within) ∙ ap (new_engine_session t.shape) (omega arith) in
      let new = new_session t.shape s (ap (λ (x : Shape). x.before) shape) in
      let entries : (book_at board s).entries ≡ [] = ap (λ (b : Book). b.entries) (starts.books s within) in
      record {
        lines = no_lines (book_at board s).entries entries ∙ sym (ap (λ (es : EngineSession). es.lines) known ∙ new.lines);
        taken = ap pending known ∙ new.taken;
        published = (let unpublished : (engine_at seat s).published ≡ 0 = ap (λ (es : EngineSession). es.published) known ∙ new.published in omega arith);
      };
  few = λ s small.
      let within : s < length config.names = subst (λ n. s < n) starts.count small in
      subst (λ n. n ≤ MOST_LEASES) (sym (ap (λ (b : Book). b.leases) (starts.books s within))) is.leases.to_most;
}

nobody : (entries : List Entry) → entries ≡ [] → owner_of (state_of entries) ≡ 0
unfolding state_of
nobody entries none = ap (λ es. owner_of (state_of es)) none

-- new cursors are those of sessions that nobody has
pub cursors_are : (sessions : ℕ) (board : Board) (cursors : List Cursor) → length board.sessions ≡ sessions → ((s : ℕ) → s < sessions → owner_at board s ≡ 0) → StartsCursors sessions cursors → AreCursors board cursors
cursors_are sessions board cursors count nobody_has starts = record {
  count = starts.count ∙ sym count;
  each = λ s small.
      let within : s < sessions = subst (λ n. s < n) count small in
      let free : owner_at board s ≡ 0 = nobody_has s within in
      subst (IsCursorOf board s) (sym (starts.each s within)) (record {
        session = refl;
        within = omega arith;
        lease = λ some. absurd (omega arith);
      });
}

pub cursors_begin : (config : Config) (board : Board) (cursors : List Cursor) → StartsSessions config board → StartsCursors (length config.names) cursors → AreCursors board cursors
cursors_begin config board cursors sessions starts =
    cursors_are (length config.names) board cursors sessions.count (λ s within. nobody (book_at board s).entries (ap (λ (b : Book). b.entries) (sessions.books s within))) starts

-- one cursor more
pub cursors_more : (s : ℕ) (old new : List Cursor) → new ≡ old ++ new_cursor s ∷ [] → StartsCursors s old → StartsCursors (s + 1) new
cursors_more s old new is starts = record {
  count = ap (λ (cs : List Cursor). length cs) is ∙ length-append old (new_cursor s ∷ []) ∙ ap (λ n. n + 1) starts.count;
  each = below_more (λ k. cursor_at new k ≡ new_cursor k) s
      (λ k small. ap (λ (cs : List Cursor). get_or cs k no_cursor) is ∙ get_or-append old (new_cursor s ∷ []) no_cursor k (let same = starts.count in omega arith) ∙ starts.each k small)
      (ap (λ (cs : List Cursor). get_or cs s no_cursor) is ∙ ap (λ n. get_or (old ++ new_cursor s ∷ []) n no_cursor) (sym starts.count) ∙ get_or-append_seam old (new_cursor s) [] no_cursor);
}

-- the seat and the engine's ends belong to the table and the rings
pub begins_linked : (config : Config) (shared : Shared) (sides : Sides) (d : LibraryDesk) → IsConfig config → IsShapeOf config shared.leases.shape
    → AreSides (new_library_seats shared.leases 1 config.libraries) sides → shared.commands.items ≡ sides.commands.items → shared.notices.items ≡ sides.notices.items → d.ends.items ≡ sides.engine.items
    → d.desk.seat ≡ new_engine_seat shared.leases → length d.watch.kept ≡ config.libraries → length d.desk.board.sessions ≡ length config.names → IsLinked shared d
begins_linked config shared sides d is shape are commands notices ends seat watched sessions =
    let libraries = shape.libraries in
    let count : length d.ends.items ≡ config.libraries = ap (λ (es : List EngineEnds). length es) ends ∙ engine_count shared.leases config.libraries sides are in
    record {
      table = ap (λ (v : EngineView). v.table) seat;
      depth = subst (λ n. n ≤ LANE_SLOTS) (sym shape.depth) is.lane.to_most;
      sessions = sessions ∙ sym shape.sessions;
      few = subst (λ n. n ≤ MOST_SESSIONS) (sym shape.sessions) is.sessions;
      libraries = count ∙ sym libraries;
      known = subst (λ n. n ≤ MOST_LIBRARIES) (sym libraries) is.libraries;
      watched = watched ∙ sym count;
      commands = ap (map (λ (e : EngineEnds). e.head.ring)) ends ∙ engine_commands shared.leases config.libraries sides are ∙ sym commands;
      notices = ap (map (λ (e : EngineEnds). e.tail.ring)) ends ∙ engine_notices shared.leases config.libraries sides are ∙ sym notices;
    }
