-- A list that grows at its end, with room kept for it.
use Rattle.std.specs.Prelude.{ℕ, List, refl}
use Rattle.std.specs.Coded.{Coded, code_by, coded×, coded_list, coded_ℕ}

-- the items in order, and how many more are taken with no memory asked for
pub record Stored (T : Type 0) : Type 0 where
  pub items : List T
  pub spare : ℕ

-- as a pair
abbrev pub stored_code : {T : Type 0} → Coded T → Coded (Stored T)
stored_code {T} t =
    code_by (List T × ℕ) (coded× (coded_list t) coded_ℕ) (λ s. (s.items, s.spare)) (λ p. record { items = p.0; spare = p.1 }) (λ _. refl)
