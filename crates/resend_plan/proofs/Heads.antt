-- A header is made of its type, the names as they are kept, and the number.
use Rattle.std.proofs.Common.{◌≡◌, ℕ, List, [], ◌∷◌, ◌++◌, decimal, arith, ap, ◌∙◌, append_assoc}
use Rattle.resend_plan.specs.Wire.{field_of, header, parties}
use Rattle.resend_plan.specs.declared.item.Names2.{Names2}

-- lists one behind the other, however they were put together
apart : (kind a b t d e : List ℕ) → ((kind ++ ((a ++ b) ++ t)) ++ d) ++ e ≡ ((kind ++ a) ++ b) ++ ((t ++ d) ++ e)
apart kind a b t d e = grind (arith, append_assoc)

pub header_by_parts : (names : Names2) (kind : List ℕ) (n : ℕ) → ((kind ++ parties names) ++ decimal n) ++ (1 ∷ []) ≡ header names kind n
unfolding header parties
header_by_parts names kind n =
    apart kind (field_of 49 names.us) (field_of 56 names.them) (decimal 34 ++ (61 ∷ [])) (decimal n) (1 ∷ [])
    ∙ ap (λ (t : List ℕ). kind ++ field_of 49 names.us ++ field_of 56 names.them ++ (t ++ (1 ∷ []))) (append_assoc (decimal 34) (61 ∷ []) (decimal n))
