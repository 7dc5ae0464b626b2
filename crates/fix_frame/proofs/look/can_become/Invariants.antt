use Rattle.std.proofs.Common.{◌≡◌, ◌+◌, ◌*◌, drop, ◌∷◌, []}
use Rattle.std.specs.List.{list_any}
use Rattle.fix_frame.specs.Cut.{fits, can_become}
use Rattle.fix_frame.proofs.look.can_become.Given as goal

-- one of the digits that are left decides
abbrev pub invariant-loop-digit : goal.invariant-loop-digit
invariant-loop-digit l =
    list_any (λ d. fits l.limit (l.field.count + 1) (10 * l.field.value + d)) (drop l.digit (0 ∷ 1 ∷ 2 ∷ 3 ∷ 4 ∷ 5 ∷ 6 ∷ 7 ∷ 8 ∷ 9 ∷ [])) ≡ can_become l.limit l.field.count l.field.value
