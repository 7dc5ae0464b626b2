-- the last place is written, with what the last holding becomes
use Rattle.std.proofs.Common.{◌≡◌, ℕ, ◌+◌, ◌-◌, ap, ◌∙◌, subst, arith}
use Rattle.lease_core.specs.declared.entry.Entry.{Entry}
use Rattle.lease_core.specs.declared.entry.Entry.TheVariants.{Send}
use Rattle.lease_core.specs.declared.entry.Holding.{Holding}
use Rattle.lease_core.specs.State.{engine_from, holding_with_end, holding_with_send}
use Rattle.lease_core.specs.Totals.{Counts}
use Rattle.lease_core.proofs.Lasts.{set-last, get_or-last, last_or-any}
use Rattle.lease_core.proofs.journal.record_holding.Goals as goal

pub returns-in-Arrive-clause-items : goal.returns-in-Arrive-clause-items
returns-in-Arrive-clause-items c =
    let there = c.index_mut.ensures.value ∙ get_or-last c.index_mut.result.now c.args.holdings.now.items (c.len-last.result - 1) (omega arith) (omega arith) in
    rw c.in-Arrive.is (set-last (holding_with_end (c.args.inbound + 1)) c.index_mut.result.now _ c.args.holdings.now.items (c.len-last.result - 1) (omega arith) (omega arith) (ap (holding_with_end (c.args.inbound + 1)) there))

-- the ordinal of a send is one more than the sends before it
send_told : (e : Entry) (lease library ordinal number : ℕ) (h : Holding) → e ≡ Send lease library ordinal number → Counts e h → ordinal ≡ h.sends + 1
send_told e lease library ordinal number h is counts = subst (λ x. Counts x h) is counts

send_last : (h k : Holding) (ordinal : ℕ) → h ≡ k → ordinal ≡ k.sends + 1 → record h { sends = ordinal } ≡ holding_with_send k
send_last h k ordinal there next = ap (λ (x : Holding). let y : Holding = record x { sends = ordinal } in y) there ∙ ap (λ n. let y : Holding = record k { sends = n } in y) next

pub returns-in-Send-clause-items : goal.returns-in-Send-clause-items
returns-in-Send-clause-items c =
    let there = c.index_mut-in-Send.ensures.value ∙ get_or-last c.index_mut-in-Send.result.now c.args.holdings.now.items (c.len-last-in-Send.result - 1) (omega arith) (omega arith) in
    let one = last_or-any (engine_from 0) c.index_mut-in-Send.result.now c.args.holdings.now.items (omega arith) in
    let next = send_told c.args.entry _ _ _ _ _ c.in-Send.is c.requires.counts ∙ ap (λ (h : Holding). h.sends + 1) one in
    rw c.in-Send.is (set-last holding_with_send c.index_mut-in-Send.result.now _ c.args.holdings.now.items (c.len-last-in-Send.result - 1) (omega arith) (omega arith) (send_last _ _ c.in-Send.ordinal there next))
