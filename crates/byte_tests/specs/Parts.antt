-- Bytes that come in parts, and the pieces that come with them.
use Rattle.std.specs.Prelude.{ℕ, List, map, flat_map, Vec}
use Rattle.std.specs.Global.{Global}
use Rattle.byte_tests.specs.declared.feeding.OwnedPiece.{OwnedPiece}
use Rattle.byte_tests.specs.declared.feeding.OwnedPiece.TheVariants.{Good, Garbled}
use Rattle.fix_frame.specs.Cut.{CutPiece, good, garbled}

-- a piece that keeps its bytes, as the cut has it
abbrev pub kept : OwnedPiece → CutPiece
kept (Good body) = good body
kept (Garbled length) = garbled length

-- the bytes of some parts, and the pieces that came with them
abbrev pub bytes_in : List (Vec ℕ Global) → List ℕ
bytes_in parts = flat_map (λ part. part.items) parts

abbrev pub pieces_in : List (Vec OwnedPiece Global) → List CutPiece
pieces_in given = flat_map (λ pieces. map kept pieces.items) given
