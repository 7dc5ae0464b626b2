use Rattle.std.proofs.Common.{◌≡◌, ◌++◌, ◌∷◌, [], List, map, sym, ap, ◌∙◌, subst, append_assoc}
use Rattle.std.proofs.lemmas.List.{map_push}
use Rattle.byte_tests.specs.declared.feeding.OwnedPiece.{OwnedPiece}
use Rattle.fix_frame.specs.Cut.{CutPiece, IsCutSoFar}
use Rattle.byte_tests.specs.Parts.{kept}
use Rattle.fix_frame.specs.Cutting.{lent_piece}
use Rattle.byte_tests.proofs.feeding.drain.Goals as goal

-- one more piece
more : (before : List CutPiece) (given new : List OwnedPiece) (x : OwnedPiece) (piece : CutPiece) → kept x ≡ piece → new ≡ given ++ x ∷ []
    → (before ++ map kept given) ++ piece ∷ [] ≡ before ++ map kept new
more before given new x piece is e =
    append_assoc before (map kept given) (piece ∷ []) ∙ ap (λ (ps : List CutPiece). before ++ ps)
    (ap (λ (p : CutPiece). map kept given ++ p ∷ []) (sym is) ∙ (sym (map_push kept given x) ∙ ap (map kept) (sym e)))

pub loop-piece-preserved : goal.loop-piece-preserved
loop-piece-preserved c =
    let h = rw c.in-Some.is at c.next.follows.holds-at-none in
    record {
      limit = h.limit ∙ c.loop-piece.invariant.limit;
      so_far = λ text before k.
          subst (λ (ps : List CutPiece). IsCutSoFar c.next.follows.lender-at-none.limit text ps c.next.follows.lender-at-none.held)
          (more before c.loop-piece.given.items c.push.new.self.items c.in_ok-owned.field-0 (lent_piece c.in-Some.piece) c.in_ok-owned.ensures c.in_ok-push.ensures.items)
          (h.so_far text (before ++ map kept c.loop-piece.given.items) (c.loop-piece.invariant.so_far text before k));
    }
