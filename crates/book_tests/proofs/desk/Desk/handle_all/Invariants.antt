use Rattle.std.proofs.Common.{length}
use Rattle.book_tests.proofs.desk.Desk.handle_all.Given as goal

-- fewer bytes are held behind each piece
abbrev pub decreases-loop-piece : goal.decreases-loop-piece
decreases-loop-piece l = length l.self.connection.held
