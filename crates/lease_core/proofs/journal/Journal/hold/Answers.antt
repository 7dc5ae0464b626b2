-- a hold follows where it is owed
use Rattle.std.proofs.Common.{◌≡◌, true, refl, sym, ap, ◌∙◌}
use Rattle.lease_core.specs.declared.totals.Totals.{Totals}
use Rattle.lease_core.specs.State.{state_of}
use Rattle.lease_core.specs.Runs.{owes_hold}
use Rattle.lease_core.proofs.GivenBack.{next_hold}
use Rattle.lease_core.proofs.Settled.{settled_by}
use Rattle.lease_core.proofs.journal.Journal.hold.Goals as goal

pub push-requires-clause-next : goal.push-requires-clause-next
push-requires-clause-next c =
    let owes : owes_hold (state_of c.args.self.now.entries).latest ≡ true = ap (λ (t : Totals). owes_hold t.latest) (sym c.totals.ensures.totals) ∙ sym c.owes_hold.ensures ∙ c.if-owes_hold.true in
    rw c.totals.ensures.totals (next_hold _ _ c.args.until owes)

pub returns-then-owes_hold-clause-settled : goal.returns-then-owes_hold-clause-settled
returns-then-owes_hold-clause-settled c = rw c.push.ensures.entries (settled_by _ _ refl)
