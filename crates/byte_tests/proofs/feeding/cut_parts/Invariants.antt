use Rattle.std.proofs.Common.{◌≡◌, ◌≤◌, ℕ, [], take, vec_len}
use Rattle.fix_frame.specs.Cut.{IsCutSoFar, cut}
use Rattle.byte_tests.specs.Parts.{bytes_in, pieces_in}
use Rattle.fix_frame.specs.Cutting.{free}
use Rattle.fix_frame.specs.declared.layout.TheConstants.{LEAST_ROOM}
use Rattle.byte_tests.proofs.feeding.cut_parts.Given as goal

-- the pieces of the parts so far
abbrev pub invariant-loop-part : goal.invariant-loop-part
invariant-loop-part l =
    record {
      limit : l.cutter.limit ≡ l.limit;
      room : LEAST_ROOM ≤ free l.cutter;
      all : (cut l.cutter.limit l.cutter.held).pieces ≡ [];
      count : vec_len l.given ≡ l.part-index;
      so_far : IsCutSoFar l.cutter.limit (bytes_in (take l.part-index l.parts)) (pieces_in l.given.items) l.cutter.held;
      each : (k : ℕ) → k ≤ l.part-index → pieces_in (take k l.given.items) ≡ (cut l.limit (bytes_in (take k l.parts))).pieces;
    }
