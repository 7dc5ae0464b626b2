-- What holds of a list holds of the vector that a call gives for it.
use Rattle.std.proofs.Common.{◌≡◌, List, IfOk, OnOk, sym, subst}
use Rattle.std.specs.Prelude.{Vec, Result}
use Rattle.std.specs.Global.{Global}
use Rattle.std.proofs.lemmas.Result.{IfOk-weaker}

pub of_list : {X E : Type 0} (whole : List X) (P : List X → Type 0) (r : Result (Vec X Global) E) → IfOk r (λ v. v.items ≡ whole) → P whole → IfOk r (λ v. P v.items)
of_list whole P r is holds = IfOk-weaker r (λ v. v.items ≡ whole) (λ v. P v.items) (λ v same. subst P (sym same) holds) is

pub of_filled : {X A E : Type 0} (whole items : List X) (P : List X → Type 0) (r : Result A E) → OnOk r (items ≡ whole) → P whole → OnOk r (P items)
of_filled whole items P r is holds = IfOk-weaker r (λ _. items ≡ whole) (λ _. P items) (λ _ same. subst P (sym same) holds) is
