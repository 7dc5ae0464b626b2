use Rattle.std.proofs.Common.{◌≡◌, inl, inr, Bool, true, false, [], refl}
use Rattle.engine_end.specs.Finishing.{all_records}
use Rattle.engine_loop.proofs.laws.engines_leave_as_they_stood.Goals as goal

by_cases : {P : Type 0} (b : Bool) → (b ≡ true → P) → (b ≡ false → P) → P
by_cases true if_true if_false = if_true refl
by_cases false if_true if_false = if_false refl

pub returns-clause-short : goal.returns-clause-short
returns-clause-short c = λ seats engine left stood short. by_cases engine.failed
    (λ failed. record { gathered = engine.sessions.desk; gathers = inl refl; added = []; leaves = stood failed })
    (λ stands. let is = short stands in record { gathered = is.gathered; gathers = inr (stands, is.gathers); added = []; leaves = is.leaves })

pub returns-clause-whole : goal.returns-clause-whole
returns-clause-whole c = λ seats engine left going is. by_cases engine.failed
    (λ failed. absurd (going failed))
    (λ stands. record { gathered = is.gathered; gathers = inr (stands, inr (inl is.gathers)); added = all_records is.gathered.board engine.lines.unkept.items; leaves = is.leaves })
