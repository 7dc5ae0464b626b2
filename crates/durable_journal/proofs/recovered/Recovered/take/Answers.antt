use Rattle.std.proofs.Common.{◌≡◌, ◌++◌, ◌∷◌, [], ℕ, sym, subst, rules}
use Rattle.lease_core.specs.declared.record.Record.{Record}
use Rattle.std.proofs.Common.{List}
use Rattle.durable_journal.specs.Files.{AreRuns}
use Rattle.durable_journal.specs.Recovered.{ReadSoFar, AreKept, TakesEntry, RefusesEntry}
use Rattle.durable_journal.proofs.Kept.{kept_taken, kept_refused}
use Rattle.durable_journal.proofs.recovered.Recovered.take.Goals as goal

pub returns-then-not-branch-clause-refused : goal.returns-then-not-branch-clause-refused
returns-then-not-branch-clause-refused c = λ _ runs.
    let e = c.args.event in
    let refuses : RefusesEntry c.self.inside.recoveries.items c.from.result e.entry = (c.in_ok-take_entry.ensures.refused c.if-not-branch.true).1 in
    kept_refused c.entries_decide_one_by_one.ensures.run c.self.inside.leases c.self.inside.recoveries.items c.self.inside.records.items e c.self.invariant
    (subst (λ (n : ℕ). RefusesEntry c.self.inside.recoveries.items n e.entry) c.from.ensures refuses)
    (subst (λ (v : ReadSoFar). AreRuns v.sessions v.leases (v.records ++ e ∷ [])) (sym c.self.view_is) runs)

pub invariant_of-self-2 : goal.invariant_of-self-2
invariant_of-self-2 c =
    let e = c.args.event in
    let items : c.push.new.self.items ≡ c.self.inside.records.items ++ e ∷ [] = search rules in
    let takes : TakesEntry c.self.inside.recoveries.items c.from.result e.entry c.take_entry.new.recoveries.items = c.in_ok-take_entry.ensures.taken c.if-not-branch.false in
    subst (λ (l : List Record). AreKept c.self.inside.leases c.take_entry.new.recoveries.items l) (sym items)
    (kept_taken c.entries_decide_one_by_one.ensures.run c.self.inside.leases c.self.inside.recoveries.items c.take_entry.new.recoveries.items c.self.inside.records.items e c.self.invariant
    (subst (λ (n : ℕ). TakesEntry c.self.inside.recoveries.items n e.entry c.take_entry.new.recoveries.items) c.from.ensures takes)
    c.take_entry.ensures.len)
