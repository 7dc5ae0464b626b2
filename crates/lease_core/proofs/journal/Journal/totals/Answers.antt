-- no number is above the length of the journal
use Rattle.std.proofs.Common.{◌<◌, arith, sym, subst}
use Rattle.lease_core.specs.declared.totals.Totals.{Totals}
use Rattle.lease_core.proofs.Kept.{few_in_series, lawful}
use Rattle.lease_core.proofs.journal.Journal.totals.Goals as goal

pub returns-clause-few : goal.returns-clause-few
returns-clause-few c = let few = few_in_series _ _ _ _ c.self.invariant in omega (arith, few)

pub returns-clause-series : goal.returns-clause-series
returns-clause-series c = subst (λ (t : Totals). 0 < t.series) (sym c.self.invariant.totals_are) (lawful _ _ c.self.invariant.run).numbered
