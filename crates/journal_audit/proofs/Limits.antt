-- The number of leases by the lines behind a session's head.
use Rattle.std.proofs.Common.{◌≡◌, ℕ, List, [], ◌∷◌, Some, None, refl, ap, ◌∙◌}
use Rattle.lease_core.specs.declared.entry.Entry.{Entry}
use Rattle.lease_core.specs.declared.limits.TheConstants.{MOST_LEASES}
use Rattle.journal_audit.specs.Cut.{Cut}
use Rattle.journal_audit.specs.EntryLines.{entry_in}
use Rattle.journal_audit.specs.Rules.{limit_by, limit_in}

limit-nil : limit_in [] ≡ MOST_LEASES
unfolding limit_in
limit-nil = refl

pub limit_none : (cut : Cut) → cut.lines ≡ [] → limit_in cut.lines ≡ MOST_LEASES
limit_none cut none = ap limit_in none ∙ limit-nil

pub limit_other : (line : List ℕ) (lines : List (List ℕ)) → entry_in line ≡ None → limit_in (line ∷ lines) ≡ MOST_LEASES
unfolding limit_in
limit_other line lines none = rw none refl

pub limit_said : (line : List ℕ) (lines : List (List ℕ)) (e : Entry) (limit : ℕ) → entry_in line ≡ Some e → limit_by e ≡ Some limit → limit_in (line ∷ lines) ≡ limit
unfolding limit_in
limit_said line lines e limit is said = rw is (rw said refl)

pub limit_later : (line : List ℕ) (lines : List (List ℕ)) (e : Entry) → entry_in line ≡ Some e → limit_by e ≡ None → limit_in (line ∷ lines) ≡ limit_in lines
unfolding limit_in
limit_later line lines e is silent = rw is (rw silent refl)
