-- What the second half of a turn writes is of the text that the journals told before it.
use Rattle.std.proofs.Common.{◌≡◌, ℕ, zero, suc, List, length, sym, ap, subst, ◌∙◌}
use Rattle.engine_loop.specs.Kept.{HaveEntriesOf, HaveKeptTexts}
use Rattle.engine_loop.specs.Turns.{AtWire, GivesTurn, PublishesSession}
use Rattle.engine_loop.specs.declared.engine.Engine.{Engine}
use Rattle.engine_loop.specs.declared.records.Taken.{Taken}
use Rattle.engine_loop.specs.declared.records.Turn.{Turn}
use Rattle.lease_core.specs.declared.entry.Entry.{Entry}
use Rattle.lease_core.specs.declared.record.Record.{Record}
use Rattle.lease_desk.specs.Desk.{InTurn}
use Rattle.switchboard.specs.Board.{Board}
use Rattle.switchboard.specs.Ready.{IsReady}
use Rattle.wire_desk.specs.Places.{open_places}
use Rattle.wire_desk.specs.Steps.{WritesInTurn, WrittenSoFar, written_so_far}
use Rattle.wire_desk.specs.Texts.{HaveTextsFrom}

-- publishing changes neither session nor connection
board_stays : (count : ℕ) (old new : Engine) → InTurn PublishesSession count old new → new.sessions.desk.board ≡ old.sessions.desk.board
board_stays zero old new same = ap (λ (e : Engine). e.sessions.desk.board) same
board_stays (suc count) old new steps = steps.2.board ∙ board_stays count old steps.0 steps.1

-- what the crate below says
abbrev pub WritesBeginTexts : Type 0
WritesBeginTexts =
    (before : ℕ → List Entry) (places : List ℕ) (count : ℕ) (old new : WrittenSoFar) → WritesInTurn places count old new → IsReady before old.sessions.desk.board
    → HaveTextsFrom before old.sessions.desk.board new.sessions.desk.board

pub texts_begin : WritesBeginTexts → (before : ℕ → List Entry) (old new : AtWire) (taken : Taken) (turn : Turn) → GivesTurn old new taken turn → IsReady before old.engine.sessions.desk.board
    → HaveTextsFrom before old.engine.sessions.desk.board new.engine.sessions.desk.board
texts_begin law before old new taken turn is ready =
    let published = is.gives.published in
    let same : published.sessions.desk.board ≡ old.engine.sessions.desk.board = board_stays (length old.engine.sessions.desk.board.sessions) old.engine published is.gives.publishes in
    let unkept = published.lines.unkept.items in
    let places = open_places published.lines in
    subst (λ (b : Board). HaveTextsFrom before b new.engine.sessions.desk.board) same
    (law before places (length places) (written_so_far published.sessions.desk unkept old.links 0) (written_so_far new.engine.sessions.desk unkept new.links turn.written)
    is.gives.writes.writes (subst (IsReady before) (sym same) ready))

pub kept_texts : (before : ℕ → List Entry) (kept : List Record) (old new : Board) → IsReady before old → HaveEntriesOf old kept → HaveTextsFrom before old new → HaveKeptTexts before kept old new
kept_texts before kept old new ready entries texts s k within named = record {
  entries = sym (entries s (ready.named s k within named));
  text = texts s k within named;
}
