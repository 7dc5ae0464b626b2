-- The loan of a piece out of a cutter.
use Rattle.std.specs.Prelude.{◌≡◌, ℕ, List, [], ◌∷◌, ◌++◌, Option, MatchOption}
use Rattle.std.specs.Borrow.{MutBor, Fml}
use Rattle.std.specs.Io.BufRead.{Rests}
use Rattle.fix_frame.specs.declared.cutter.Cutter.{Cutter}
use Rattle.fix_frame.specs.declared.cutter.Piece.{Piece}
use Rattle.fix_frame.specs.contracts.cutter.Cutter.{the_row}
use Rattle.fix_frame.specs.Cut.{CutPiece, cut, TakesPiece, IsCutSoFar}
use Rattle.fix_frame.specs.Cutting.{Cutting, lent_piece}

-- what a call of `next` leaves: the piece has gone, and where there is none nothing changed
pub record IsAfterNext (old : Cutting) (given : Option Piece) (new : Cutting) : Type 0 where
  pub limit : new.limit ≡ old.limit
  pub held : MatchOption given (new.held ≡ old.held) (λ piece. TakesPiece old.limit old.held (lent_piece piece) new.held)
  pub so_far : (text : List ℕ) (before : List CutPiece) → IsCutSoFar old.limit text before old.held
      → MatchOption given ((cut old.limit text).pieces ≡ before) (λ piece. IsCutSoFar new.limit text (before ++ lent_piece piece ∷ []) new.held)

-- a cutter once the piece that it lent is given back
abbrev pub GivesNext : MutBor Cutter → Option Piece → Fml
GivesNext cutter given = Rests the_row cutter (λ new. IsAfterNext cutter.now given new)
