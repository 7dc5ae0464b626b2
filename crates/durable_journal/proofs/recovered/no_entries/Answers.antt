use Rattle.std.proofs.Common.{◌≡◌, ◌++◌, ◌∷◌, [], List, Some, ℕ, length, sym, ap, subst, arith, length-append}
use Rattle.std.specs.Prelude.{slice_get}
use Rattle.lease_core.specs.Kept.{Kept}
use Rattle.durable_journal.proofs.Kept.{kept_none, each_push}
use Rattle.durable_journal.proofs.recovered.no_entries.Goals as goal

pub loop-s-preserved : goal.loop-s-preserved
loop-s-preserved c =
    let items : c.push.new.self.items ≡ c.loop-s.recoveries.items ++ c.in_ok-new.field-0 ∷ [] = c.in_ok-push.ensures.items in
    record {
      len = omega (arith, ap (λ (l : List Kept). length l) items, length-append c.loop-s.recoveries.items (c.in_ok-new.field-0 ∷ []), c.loop-s.invariant.len);
      each = subst (λ (l : List Kept). (s : ℕ) (kept : Kept) → slice_get l s ≡ Some kept → (kept.entries ≡ []) × (kept.leases ≡ c.args.leases)) (sym items)
          (each_push c.args.leases c.loop-s.recoveries.items c.in_ok-new.field-0 c.loop-s.invariant.each c.in_ok-new.ensures.entries c.in_ok-new.ensures.leases);
    }

pub returns-clause-kept : goal.returns-clause-kept
returns-clause-kept c = kept_none c.args.leases c.loop-s.recoveries.items c.loop-s.invariant.each
