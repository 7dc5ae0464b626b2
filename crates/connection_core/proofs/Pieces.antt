-- What is known of the pieces that were handed out.
use Rattle.std.proofs.Common.{◌≡◌, ℕ, List, sym, subst, ◌∙◌}
use Rattle.fix_frame.specs.Cut.{CutPiece, IsCutSoFar}
use Rattle.connection_core.specs.Connection.{ConnectionState, IsGiven}

-- they are the same while nothing is taken and nothing is handed out
pub given_same : (old new : ConnectionState) (pieces : List CutPiece) → IsGiven old pieces → new.taken ≡ old.taken → new.held ≡ old.held → new.garbled ≡ old.garbled → IsGiven new pieces
given_same old new pieces h taken held garbled =
    let in_new_text = subst (λ (text : List ℕ). IsCutSoFar 65536 text pieces old.held) (sym taken) h.so_far in
    record { so_far = subst (λ (bytes : List ℕ). IsCutSoFar 65536 new.taken pieces bytes) (sym held) in_new_text; counted = garbled ∙ h.counted }
