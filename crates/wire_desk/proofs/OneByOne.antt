-- The pieces of a connection are handled one after another.
use Rattle.std.proofs.Common.{◌≡◌, ℕ, suc, List, [], ◌∷◌, Bool, true, false, Option, None, Some, IsNone, refl, ap, ◌∙◌}
use Rattle.std.specs.Prelude.{option_map}
use Rattle.std.specs.Option.{is_some, option_to_list}
use Rattle.fix_frame.specs.Cut.{CutPiece}
use Rattle.fix_frame.specs.Owned.{cut_piece}
use Rattle.fix_frame.specs.declared.cutter.OwnedPiece.{OwnedPiece}
use Rattle.session_core.specs.declared.causes.Cause.{Cause}
use Rattle.session_desk.specs.declared.routes.Routes.{Routes}
use Rattle.wire_desk.specs.Steps.{HandledSoFar, HandlesOrStops, Sessions}

pub none_is : (o : Option ℕ) → IsNone o → o ≡ None
none_is None is = refl
none_is (Some x) is = absurd (cc)

pub no_cause : (cause : Option Cause) → IsNone cause → cause ≡ None
no_cause None is = refl
no_cause (Some x) is = absurd (cc)

pub stands : (cause : Option Cause) → is_some cause ≡ false → cause ≡ None
stands None is = refl
stands (Some x) is = absurd (cc)

pub next_is : (given : Option OwnedPiece) (piece : OwnedPiece) (pieces : List CutPiece) → pieces ≡ option_to_list (option_map cut_piece given) → given ≡ Some piece → pieces ≡ cut_piece piece ∷ []
next_is given piece pieces are is = are ∙ ap (λ g. option_to_list (option_map cut_piece g)) is

pub one_more : (more : Bool) (routes : Routes) (k at until : ℕ) (start middle now : Sessions) → HandledSoFar true routes k at until start middle → HandlesOrStops more routes k at until middle now → HandledSoFar more routes k at until start now
one_more true routes k at until start middle now so_far next = (suc so_far.0, (middle, so_far.1, next))
one_more false routes k at until start middle now so_far stops = record { count = so_far.0; between = middle; handles = so_far.1; stops = stops }
