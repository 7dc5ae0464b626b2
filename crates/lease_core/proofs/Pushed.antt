-- One entry more: what the journal comes to, and whether it is lawful.
use Rattle.std.proofs.Common.{◌≡◌, ℕ, suc, ◌+◌, ◌≤◌, List, [], ◌∷◌, ◌++◌, length, sum, fold, arith}
use Rattle.std.proofs.lemmas.List.Sums.{fold-append}
use Rattle.lease_core.specs.declared.entry.Entry.{Entry}
use Rattle.lease_core.specs.declared.entry.Entry.TheVariants.{Arrive, Admin, Reset, Send}
use Rattle.lease_core.specs.State.{State, state_of, state_after, opening, with_last, one_more}
use Rattle.lease_core.proofs.Lasts.{sum-cons}
use Rattle.lease_core.specs.Runs.{IsNext, IsRunFrom, IsRun}

pub state_of-push : (entries : List Entry) (e : Entry) → state_of (entries ++ e ∷ []) ≡ state_after (state_of entries) e
unfolding state_of
state_of-push entries e = fold-append state_after opening entries (e ∷ [])

from_push : (limit : ℕ) (s : State) (entries : List Entry) (e : Entry) → IsRunFrom limit s entries → IsNext limit (fold state_after s entries) e → IsRunFrom limit s (entries ++ e ∷ [])
from_push limit s [] e run next = (next, tt)
from_push limit s (x ∷ xs) e run next = (run.0, from_push limit (state_after s x) xs e run.1 next)

to_push : (limit : ℕ) (s : State) (entries : List Entry) (e : Entry) → IsRunFrom limit s (entries ++ e ∷ []) → IsRunFrom limit s entries × IsNext limit (fold state_after s entries) e
to_push limit s [] e run = (tt, run.0)
to_push limit s (x ∷ xs) e run = let rest = to_push limit (state_after s x) xs e run.1 in ((run.0, rest.0), rest.1)

pub run_push : (limit : ℕ) (entries : List Entry) (e : Entry) → IsRun limit entries → IsNext limit (state_of entries) e → IsRun limit (entries ++ e ∷ [])
unfolding IsRun state_of
run_push limit entries e run next = from_push limit opening entries e run next

pub run_before : (limit : ℕ) (entries : List Entry) (e : Entry) → IsRun limit (entries ++ e ∷ []) → IsRun limit entries × IsNext limit (state_of entries) e
unfolding IsRun state_of
run_before limit entries e run = to_push limit opening entries e run

-- what holds at first and is kept by each lawful entry holds behind each lawful journal
module _ (limit : ℕ) (P : State → Type 0) (kept : (s : State) (e : Entry) → P s → IsNext limit s e → P (state_after s e)) where
  along_from : (s : State) (entries : List Entry) → P s → IsRunFrom limit s entries → P (fold state_after s entries)
  along_from s [] p run = p
  along_from s (e ∷ es) p run = along_from (state_after s e) es (kept s e p run.0) run.1

  pub along : P opening → (entries : List Entry) → IsRun limit entries → P (state_of entries)
  unfolding IsRun state_of
  along first entries run = along_from opening entries first run

-- neither log is longer than the journal
pub record IsBelow (n : ℕ) (s : State) : Type 0 where
  pub inbound : s.inbound ≤ n
  pub sent : sum s.series ≤ n

sum_more : (ns : List ℕ) → sum (with_last one_more ns) ≤ sum ns + 1
sum_more [] = omega arith
sum_more (n ∷ []) = omega arith
sum_more (n ∷ m ∷ ms) = omega (arith, sum_more (m ∷ ms), sum-cons n (m ∷ ms), sum-cons n (with_last one_more (m ∷ ms)))

sum_reset : (ns : List ℕ) → sum (ns ++ 0 ∷ []) ≤ sum ns
sum_reset [] = omega arith
sum_reset (n ∷ ns) = omega (arith, sum_reset ns, sum-cons n ns, sum-cons n (ns ++ 0 ∷ []))

below_next : (n : ℕ) (s : State) (e : Entry) → IsBelow n s → IsBelow (suc n) (state_after s e)
below_next n s (Arrive pos) b = record { inbound = omega (arith, b.inbound); sent = omega (arith, b.sent) }
below_next n s (Admin number) b = record { inbound = omega (arith, b.inbound); sent = omega (arith, b.sent, sum_more s.series) }
below_next n s (Send lease library ordinal number) b = record { inbound = omega (arith, b.inbound); sent = omega (arith, b.sent, sum_more s.series) }
below_next n s (Reset series) b = record { inbound = omega (arith, b.inbound); sent = omega (arith, b.sent, sum_reset s.series) }
below_next n s _ b = record { inbound = omega (arith, b.inbound); sent = omega (arith, b.sent) }

below_from : (n : ℕ) (s : State) (entries : List Entry) → IsBelow n s → IsBelow (n + length entries) (fold state_after s entries)
below_from n s [] b = record { inbound = omega (arith, b.inbound); sent = omega (arith, b.sent) }
below_from n s (e ∷ es) b = let rest = below_from (suc n) (state_after s e) es (below_next n s e b) in record { inbound = omega (arith, rest.inbound); sent = omega (arith, rest.sent) }

pub below : (entries : List Entry) → IsBelow (length entries) (state_of entries)
unfolding state_of
below entries = let all = below_from 0 opening entries (record { inbound = omega arith; sent = omega arith }) in record { inbound = omega (arith, all.inbound); sent = omega (arith, all.sent) }
