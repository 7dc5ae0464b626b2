use Rattle.std.proofs.Common.{add-one, ap, arith, length, sym, ◌∙◌}
use Rattle.lease_desk.specs.Desk.{owner_at}
use Rattle.lease_desk.specs.declared.desk.LeaseDesk.{LeaseDesk}
use Rattle.library_desk.proofs.Owned.{passed_over}
use Rattle.library_desk.proofs.desk.LibraryDesk.pump_all.Goals as goal

pub pump_to-requires-clause-owner : goal.pump_to-requires-clause-owner
pump_to-requires-clause-owner c =
    let found = c.in-Some.ensures.found in
    let sessions = c.sessions-sessions.ensures.sessions in
    ap (λ (d : LeaseDesk). owner_at d.board c.in-Some.s) c.loop-s.invariant.desk ∙ sym (c.requires.owners c.in-Some.s (let within = found.1 in omega (arith, within, sessions))) ∙ found.2

pub loop-s-smaller : goal.loop-s-smaller
loop-s-smaller c =
    let from = c.in-Some.ensures.found.0 in
    let within = c.in-Some.ensures.found.1 in
    omega (arith, from, within)

pub loop-s-preserved : goal.loop-s-preserved
loop-s-preserved c =
    let was = c.loop-s.invariant in
    let now = c.in_ok-pump_to.ensures in
    let from = c.in-Some.ensures.found.0 in
    let within = c.in-Some.ensures.found.1 in
    let sessions = c.sessions-sessions.ensures.sessions in
    record {
      pumps = rw add-one (c.loop-s.self, passed_over c.args.library c.loop-s.from c.in-Some.s c.args.self.now c.loop-s.self from (λ s a b is. c.in-Some.ensures.first s a b (c.requires.owners s (omega (arith, b, within, sessions)) ∙ sym (ap (λ (d : LeaseDesk). owner_at d.board s) was.desk) ∙ is)) was.pumps, now.pumps);
      within = omega (arith, within);
      desk = now.desk ∙ was.desk;
      linked = now.linked;
      ready = now.ready;
      ends = now.linked.libraries ∙ sym c.requires.linked.libraries;
    }

pub returns-clause-pumps : goal.returns-clause-pumps
returns-clause-pumps c =
    let was = c.loop-s.invariant in
    let sessions = c.sessions-sessions.ensures.sessions in
    let within = was.within in
    passed_over c.args.library c.loop-s.from (length c.args.self.now.desk.board.sessions) c.args.self.now c.loop-s.self (omega (arith, within, sessions)) (λ s a b is. c.in_default.ensures.none s a (omega (arith, b, sessions)) (c.requires.owners s b ∙ sym (ap (λ (d : LeaseDesk). owner_at d.board s) was.desk) ∙ is)) was.pumps
