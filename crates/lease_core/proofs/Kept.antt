-- What is kept beside the entries, behind one entry more.
use Rattle.std.proofs.Common.{ℕ, ◌<◌, ◌≤◌, List, [], ◌∷◌, ◌++◌, length, sum, refl, sym, ap, ◌∙◌, subst, arith}
use Rattle.lease_core.specs.declared.entry.Entry.{Entry}
use Rattle.lease_core.specs.declared.entry.Holding.{Holding}
use Rattle.lease_core.specs.declared.totals.Totals.{Totals}
use Rattle.lease_core.specs.State.{state_of, opening, holdings_after, engine_from, last_or}
use Rattle.lease_core.specs.Runs.{IsNext, IsRun}
use Rattle.lease_core.specs.Totals.{totals_of, totals_after, Counts}
use Rattle.lease_core.specs.Kept.{IsKept}
use Rattle.lease_core.proofs.Lasts.{sum-cons}
use Rattle.lease_core.proofs.Pushed.{state_of-push, run_push, along, below}
use Rattle.lease_core.proofs.Lawful.{Lawful, first_lawful, lawful_next}
use Rattle.lease_core.proofs.Nexts.{counts_next, totals_next}

pub lawful : (limit : ℕ) (entries : List Entry) → IsRun limit entries → Lawful limit (state_of entries)
lawful limit entries run = along limit (Lawful limit) (lawful_next limit) (first_lawful limit) entries run

pub first_kept : (limit : ℕ) → IsKept [] limit (engine_from 0 ∷ []) (totals_of opening)
unfolding state_of IsRun
first_kept limit = record { run = tt; holdings_are = refl; totals_are = refl }

pub kept_push : (entries : List Entry) (limit : ℕ) (holdings : List Holding) (totals : Totals) (e : Entry) → IsKept entries limit holdings totals → IsNext limit (state_of entries) e → IsKept (entries ++ e ∷ []) limit (holdings_after holdings totals.inbound e) (totals_after totals e)
kept_push entries limit holdings totals e k next =
    let s = state_of entries in
    let pushed = state_of-push entries e in record {
      run = run_push limit entries e k.run next;
      holdings_are = ap (λ hs. holdings_after hs totals.inbound e) k.holdings_are ∙ ap (λ (t : Totals). holdings_after s.holdings t.inbound e) k.totals_are ∙ sym (ap (λ t. t.holdings) pushed);
      totals_are = ap (λ t. totals_after t e) k.totals_are ∙ sym (totals_next limit s e (lawful limit entries k.run) next) ∙ sym (ap totals_of pushed);
    }

-- what the caches allow
pub some_held : (entries : List Entry) (limit : ℕ) (holdings : List Holding) (totals : Totals) → IsKept entries limit holdings totals → 0 < length holdings
some_held entries limit holdings totals k = subst (λ hs. 0 < length hs) (sym k.holdings_are) (lawful limit entries k.run).begun

pub counted_next : (entries : List Entry) (limit : ℕ) (holdings : List Holding) (totals : Totals) (e : Entry) → IsKept entries limit holdings totals → IsNext limit (state_of entries) e → Counts e (last_or (engine_from 0) holdings)
counted_next entries limit holdings totals e k next = subst (λ hs. Counts e (last_or (engine_from 0) hs)) (sym k.holdings_are) (counts_next limit (state_of entries) e (lawful limit entries k.run) next)

pub few_arrived : (entries : List Entry) (limit : ℕ) (holdings : List Holding) (totals : Totals) → IsKept entries limit holdings totals → totals.inbound ≤ length entries
few_arrived entries limit holdings totals k = let b = below entries in omega (arith, b.inbound, ap (λ (t : Totals). t.inbound) k.totals_are)

pub few_sent : (entries : List Entry) (limit : ℕ) (holdings : List Holding) (totals : Totals) → IsKept entries limit holdings totals → totals.sent ≤ length entries
few_sent entries limit holdings totals k = let b = below entries in omega (arith, b.sent, ap (λ (t : Totals). t.sent) k.totals_are)

last_in_sum : (ns : List ℕ) (n : ℕ) → n ≤ sum (n ∷ ns) → last_or n ns ≤ sum (n ∷ ns)
last_in_sum [] n h = h
last_in_sum (m ∷ ms) n h = let rest = last_in_sum ms m (omega (arith, sum-cons m ms)) in omega (arith, rest, sum-cons n (m ∷ ms))

last_below_sum : (ns : List ℕ) → last_or 0 ns ≤ sum ns
last_below_sum [] = omega arith
last_below_sum (n ∷ ns) = last_in_sum ns n (omega (arith, sum-cons n ns))

pub few_in_series : (entries : List Entry) (limit : ℕ) (holdings : List Holding) (totals : Totals) → IsKept entries limit holdings totals → totals.sent_in_series ≤ length entries
few_in_series entries limit holdings totals k = let b = below entries in omega (arith, b.sent, last_below_sum (state_of entries).series, ap (λ (t : Totals). t.sent_in_series) k.totals_are)
