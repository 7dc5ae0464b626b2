use Rattle.std.proofs.Common.{◌+◌, ◌*◌, ◌∷◌, [], get_or, sym, ◌∙◌, refl, eqb, eqb-true}
use Rattle.fix_frame.specs.Cut.{fits}
use Rattle.fix_frame.proofs.Digits.{all_at}
use Rattle.fix_frame.proofs.Places.{tried}
use Rattle.fix_frame.proofs.look.can_become.Goals as goal

pub loop-digit-preserved : goal.loop-digit-preserved
loop-digit-preserved c =
    let ten = 0 ∷ 1 ∷ 2 ∷ 3 ∷ 4 ∷ 5 ∷ 6 ∷ 7 ∷ 8 ∷ 9 ∷ [] in
    tried (λ d. fits c.args.limit (c.args.field.count + 1) (10 * c.args.field.value + d)) ten c.loop-digit.digit c.loop-digit.digit c.loop-digit-test.true
    (eqb-true _ _ (all_at (λ i. eqb (get_or ten i 0) i) 10 refl c.loop-digit.digit c.loop-digit-test.true)) (sym c.if-fits-2.ensures) ∙ c.loop-digit.invariant
