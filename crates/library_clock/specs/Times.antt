-- Deadlines of sessions: at place s of the list the one of session s, if it has one.
use Rattle.std.specs.Prelude.{◌≡◌, ℕ, ◌≤◌, Bool, false, ◌&&◌, Option, Some, None, nat_le, eqb, List, slice_index_or, length}
use Rattle.std.specs.Ordering.{nat_cmp, ordering_then}
use Rattle.std.specs.declared.cmp.Ordering.{Ordering}
use Rattle.std.specs.BTreeSet.{BTreeSet, contains}

-- a deadline has come at a moment that isn't before it
abbrev pub is_due : ℕ → Option ℕ → Bool
is_due moment (Some at) = nat_le at moment
is_due moment None = false

-- the deadline of a session, if it has one
abbrev pub deadline_of : List (Option ℕ) → ℕ → Option ℕ
deadline_of deadlines s = slice_index_or deadlines s None

-- by moment, and then by session
abbrev pub pair_cmp : ℕ × ℕ → ℕ × ℕ → Ordering
pair_cmp a b = ordering_then (nat_cmp a.0 b.0) (nat_cmp a.1 b.1)

-- whether q is the pair that stands for a session's deadline
abbrev pub is_pair_of : Option ℕ → ℕ → ℕ × ℕ → Bool
is_pair_of (Some at) s q = eqb at q.0 && eqb s q.1
is_pair_of None s q = false

-- the set has the pair of each session that has a deadline, and nothing else
pub record Mirrors (at : List (Option ℕ)) (by_moment : BTreeSet (ℕ × ℕ)) : Type 0 where
  pub same : (q : ℕ × ℕ) → contains pair_cmp by_moment q ≡ is_pair_of (slice_index_or at q.1 None) q.1 q
  pub few : length at ≤ 65535
