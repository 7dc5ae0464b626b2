-- What a cutter is to its callers, and what its calls do.
use Rattle.std.specs.Prelude.{ℕ, ◌+◌, ◌-◌, List, length}
use Rattle.fix_frame.specs.declared.cutter.Piece.{Piece}
use Rattle.fix_frame.specs.declared.cutter.Piece.TheVariants.{Good, Garbled}
use Rattle.fix_frame.specs.declared.layout.TheConstants.{LEAST_ROOM}
use Rattle.fix_frame.specs.Cut.{CutPiece, good, garbled}

-- a cutter: the most bytes of a frame, and the bytes that it holds uncut
pub record Cutting : Type 0 where
  pub limit : ℕ
  pub held : List ℕ

-- how many bytes it has room for
abbrev pub free : Cutting → ℕ
free cutter = cutter.limit + LEAST_ROOM - length cutter.held

-- the piece that a call gave
abbrev pub lent_piece : Piece → CutPiece
lent_piece (Good body) = good body.now
lent_piece (Garbled length) = garbled length
