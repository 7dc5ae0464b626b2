use Rattle.std.proofs.Common.{◌≡◌, ◌++◌, List, ℕ, length, map}
use Rattle.fix_frame.specs.Cut.{CutPiece, IsCutSoFar}
use Rattle.byte_tests.specs.Parts.{kept}
use Rattle.byte_tests.proofs.feeding.drain.Given as goal

-- what was given goes on with what is given now
abbrev pub invariant-loop-piece : goal.invariant-loop-piece
invariant-loop-piece l =
    record {
      limit : l.cutter.limit ≡ l.fn.cutter.limit;
      so_far : (text : List ℕ) (before : List CutPiece) → IsCutSoFar l.fn.cutter.limit text (before ++ map kept l.fn.given.items) l.fn.cutter.held
          → IsCutSoFar l.cutter.limit text (before ++ map kept l.given.items) l.cutter.held;
    }

abbrev pub decreases-loop-piece : goal.decreases-loop-piece
decreases-loop-piece l = length l.cutter.held
