-- the test says just that the entry may stand next
use Rattle.std.proofs.Common.{◌≡◌, sym, ap, ◌∙◌}
use Rattle.lease_core.specs.declared.totals.Totals.{Totals}
use Rattle.lease_core.specs.State.{state_of}
use Rattle.lease_core.specs.Kept.{Kept}
use Rattle.lease_core.specs.Totals.{totals_of}
use Rattle.lease_core.specs.Accepts.{accepts}
use Rattle.lease_core.proofs.Accepted.{next_from, accepts_next}
use Rattle.lease_core.proofs.recovery.Recovery.accepts.Goals as goal

pub returns : goal.returns
returns c =
    let tells : c.accepts.result ≡ accepts c.args.self.now.leases (totals_of (state_of c.args.self.now.entries)) c.args.entry.now =
    c.accepts.ensures
    ∙ ap (λ n. accepts n c.totals.result.now c.args.entry.now) c.limit.ensures.limit
    ∙ ap (λ (t : Totals). accepts c.self.inside.journal.leases t c.args.entry.now) c.totals.ensures.totals
    ∙ ap (λ (k : Kept). accepts k.leases (totals_of (state_of k.entries)) c.args.entry.now) c.self.view_is in
    (λ h. next_from c.args.self.now.leases (state_of c.args.self.now.entries) c.args.entry.now (sym tells ∙ h), λ next. tells ∙ accepts_next c.args.self.now.leases (state_of c.args.self.now.entries) c.args.entry.now next)
