-- A piece in memory of its own.
use Rattle.fix_frame.specs.declared.cutter.OwnedPiece.{OwnedPiece}
use Rattle.fix_frame.specs.declared.cutter.OwnedPiece.TheVariants.{Good, Garbled}
use Rattle.fix_frame.specs.Cut.{CutPiece, good, garbled}

-- the piece that a call gave
abbrev pub cut_piece : OwnedPiece → CutPiece
cut_piece (Good body) = good body.items
cut_piece (Garbled length) = garbled length
