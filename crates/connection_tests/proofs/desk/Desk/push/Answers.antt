use Rattle.std.proofs.Common.{◌≡◌, ◌≤◌, true, length, ap, sym, subst, arith, rules}
use Rattle.fix_frame.specs.Frame.{IsBody}
use Rattle.message_log.specs.declared.entry.OutEntry.{OutEntry}
use Rattle.resend_plan.specs.Fit.{IsFit, HasFitBodies}
use Rattle.connection_tests.proofs.desk.Desk.push.Goals as goal

pub invariant_of-self-2 : goal.invariant_of-self-2
invariant_of-self-2 c =
    let known = c.self.invariant in
    let log = c.self.inside.log.series in
    let yes : c.is_body.result ≡ true = search rules in
    let is_body : IsBody c.of.result = rw (c.of.ensures, ← c.deref.ensures.value) (c.is_body.ensures.0 yes) in
    let short : length c.of.result ≤ 8192 = omega (arith, ap length c.of.ensures, c.len.ensures, c.if-len-gt-LONGEST_APPLICATION_BODY.false) in
    let fit : IsFit c.of.result = record { is_body = is_body; short = short } in
    let entry : OutEntry = record { at = 1767605400000; admin = c.args.admin; body = c.of.result } in
    record {
      short = known.short;
      fit = subst HasFitBodies (sym c.in_ok-push.ensures.ok) (c.logs_stay_fit.ensures.entry log entry known.fit fit);
      items = known.items;
      queued = c.items_stay_queued.ensures.grow c.self.inside.names log c.push.new.self.series known.items c.self.inside.connection.out.outgoing known.queued c.push.ensures.goes_on;
    }
