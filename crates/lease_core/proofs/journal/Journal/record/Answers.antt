-- behind the sends the lease is active still, and its library is the same
use Rattle.std.proofs.Common.{◌≡◌, ◌-◌, ap, sym, ◌∙◌, arith}
use Rattle.lease_core.specs.declared.totals.Totals.{Totals}
use Rattle.lease_core.specs.State.{state_of}
use Rattle.lease_core.specs.Runs.{owes_hold}
use Rattle.lease_core.specs.Lines.{entries_after_sends, news_count, entries_after_hold}
use Rattle.lease_core.proofs.Raised.{active-with_sends, library-with_sends, settled-with_sends}
use Rattle.lease_core.proofs.GivenBack.{released_owner, not_given_back, held_settled}
use Rattle.lease_core.proofs.journal.Journal.record.Goals as goal

pub give_back-requires-clause-active : goal.give_back-requires-clause-active
give_back-requires-clause-active c = rw c.send_times.ensures.entries (active-with_sends (c.args.w.count - c.totals.result.now.lease.sends) c.args.self.now.entries c.requires.active)

pub give_back-requires-clause-settled : goal.give_back-requires-clause-settled
give_back-requires-clause-settled c = rw c.send_times.ensures.entries (settled-with_sends (c.args.w.count - c.totals.result.now.lease.sends) c.args.self.now.entries c.requires.settled)

pub give_back-requires-clause-owner : goal.give_back-requires-clause-owner
give_back-requires-clause-owner c =
    let same = library-with_sends (c.args.w.count - c.totals.result.now.lease.sends) c.args.self.now.entries c.requires.active in
    rw (c.send_times.ensures.entries, same) (released_owner c.args.w.standing c.args.w.owner _ c.in-Released.is c.requires.current.owner)

pub returns-in-Active : goal.returns-in-Active
returns-in-Active c =
    let old = c.args.self.now.entries in
    let news = news_count old c.args.w in
    let stays = not_given_back c.args.w.standing c.args.w.owner (entries_after_sends news old) c.in-Active.is in
    let counted : c.args.w.count - c.totals.result.now.lease.sends ≡ news = ap (λ (t : Totals). c.args.w.count - t.lease.sends) c.totals.ensures.totals in
    let sent = c.send_times.ensures.entries ∙ ap (λ n. entries_after_sends n old) counted in
    let settled = settled-with_sends news old c.requires.settled in record {
      entries = sent ∙ sym (ap (entries_after_hold c.args.until) stays.0 ∙ held_settled c.args.until (entries_after_sends news old) settled);
      ended = sym stays.1;
      leases = c.send_times.ensures.leases;
      spare = omega (arith, counted, c.send_times.ensures.spare);
      settled = ap (λ es. owes_hold (state_of es).latest) sent ∙ settled;
    }
