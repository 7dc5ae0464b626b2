use Rattle.std.proofs.Common.{[], length, ap, sym, subst, arith}
use Rattle.message_log.specs.declared.entry.OutEntry.{OutEntry}
use Rattle.message_log.specs.Series.{SeriesLog}
use Rattle.resend_plan.specs.declared.item.Names2.{Names2}
use Rattle.resend_plan.specs.Fit.{HasFitBodies}
use Rattle.connection_core.specs.Items.{AreItemsOf}
use Rattle.connection_tests.proofs.desk.Desk.new.Goals as goal

pub invariant_of-result : goal.invariant_of-result
invariant_of-result c =
    let names : Names2 = record { us = c.of-us.result; them = c.of-them.result } in
    let log = c.new.result.series in
    record {
      short = record {
        us = omega (arith, ap length c.of-us.ensures, ap length c.in_ok-from_slice.ensures.items);
        them = omega (arith, ap length c.of-them.ensures, ap length c.in_ok-from_slice-2.ensures.items);
      };
      fit = subst HasFitBodies (sym (ap (λ (l : SeriesLog OutEntry). l.series) c.new.ensures)) c.logs_stay_fit.ensures.first;
      items = [];
      queued = subst (AreItemsOf names log []) (sym c.requires) (c.items_stay_queued.ensures.first names log);
    }
