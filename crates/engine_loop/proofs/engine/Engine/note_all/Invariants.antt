use Rattle.std.proofs.Common.{◌≡◌, ◌<◌, ℕ}
use Rattle.lease_desk.specs.Desk.{InTurn}
use Rattle.session_book.specs.Records.{HasNotedAll}
use Rattle.session_desk.specs.Steps.{AreNoted, pending_at}
use Rattle.switchboard.specs.Board.{book_at}
use Rattle.engine_loop.specs.Turns.{NotesSession}
use Rattle.engine_loop.proofs.engine.Engine.note_all.Given as goal

abbrev pub invariant-loop-s : goal.invariant-loop-s
invariant-loop-s l = record {
  turn : InTurn NotesSession l.s l.initial.self l.self;
  noted : AreNoted l.self.lines.unkept.items l.self.sessions.desk.board;
  all : (j : ℕ) → j < l.s → HasNotedAll (pending_at l.self.lines.unkept.items j) (book_at l.self.sessions.desk.board j);
  rest : l.self ≡ record (l.initial.self) { lines = record (l.initial.self.lines) { unkept = l.self.lines.unkept } };
}
