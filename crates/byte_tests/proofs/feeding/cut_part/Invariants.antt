use Rattle.std.proofs.Common.{◌≡◌, ◌≤◌, ◌++◌, ◌-◌, [], List, ℕ, length, map, take}
use Rattle.fix_frame.specs.Cut.{CutPiece, IsCutSoFar, cut}
use Rattle.byte_tests.specs.Parts.{kept}
use Rattle.fix_frame.specs.Cutting.{free}
use Rattle.fix_frame.specs.declared.layout.TheConstants.{LEAST_ROOM}
use Rattle.byte_tests.proofs.feeding.cut_part.Given as goal

-- what was fed so far
abbrev pub invariant-loop-from : goal.invariant-loop-from
invariant-loop-from l =
    record {
      within : l.from ≤ length l.part;
      limit : l.cutter.limit ≡ l.fn.cutter.limit;
      room : LEAST_ROOM ≤ free l.cutter;
      all : (cut l.fn.cutter.limit l.fn.cutter.held).pieces ≡ [] → (cut l.cutter.limit l.cutter.held).pieces ≡ [];
      so_far : (text : List ℕ) (before : List CutPiece) → IsCutSoFar l.fn.cutter.limit text before l.fn.cutter.held
          → IsCutSoFar l.cutter.limit (text ++ take l.from l.part) (before ++ map kept l.given.items) l.cutter.held;
    }

abbrev pub decreases-loop-from : goal.decreases-loop-from
decreases-loop-from l = length l.part - l.from
