use Rattle.std.proofs.Common.{◌≡◌, List, Option, None, Some, sym, ap, subst, ◌∙◌}
use Rattle.std.specs.List.{slice_get}
use Rattle.std.specs.Option.{MatchOption}
use Rattle.engine_start.specs.declared.ends.LibraryEnds.{LibraryEnds}
use Rattle.engine_speed.proofs.gateway.open.Goals as goal

-- what is said of the one that is there
said_of : {X : Type 0} (o : Option X) (x : X) (N : Type 0) (S : X → Type 0) → o ≡ Some x → MatchOption o N S → S x
said_of None x N S is said = absurd (cc is)
said_of (Some y) x N S is said = subst S (cc is) said

pub returns-clause-ends : goal.returns-clause-ends
returns-clause-ends c =
    let first = said_of c.next.result c.in_ok-ends.ends _ _ c.in_ok-ends.ensures c.next.ensures.cases in
    c.in_ok-gateway.ensures.ends 0 c.in_ok-ends.ends (ap (λ (xs : List LibraryEnds). slice_get xs 0) (sym c.into_iter.ensures.rest ∙ first.0))
