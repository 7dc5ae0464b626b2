use Rattle.std.proofs.Common.{◌∙◌, ◌++◌, ◌∷◌, ◌<◌, [], ℕ, length, sym, subst, rules}
use Rattle.durable_journal.specs.Files.{AreRuns}
use Rattle.durable_journal.specs.Recovered.{IsFront, HasNoFront}
use Rattle.durable_journal.proofs.Fronts.{read_more, stops_unread, stops_refused, front_smaller}
use Rattle.durable_journal.proofs.reading.read_records.Goals as goal

pub returns-in_default-clause-refused : goal.returns-in_default-clause-refused
returns-in_default-clause-refused c = λ _.
    let rest = c.record.rest.now in
    let some : 0 < length rest = search rules in
    let none : HasNoFront rest = rw c.in_default.is at c.in_ok-event.ensures.none in
    stops_unread c.args.bytes.now c.args.recovered.now c.record.recovered rest c.record.invariant.read some none

pub returns-then-not-branch-clause-refused : goal.returns-then-not-branch-clause-refused
returns-then-not-branch-clause-refused c = λ _.
    let rest = c.record.rest.now in
    let now = c.record.recovered in
    let old = c.args.recovered.now in
    let r = c.in-Some.event in
    let front : IsFront rest r c.in-Some.behind.now = search rules in
    stops_refused c.args.bytes.now old now rest r c.in-Some.behind.now c.record.invariant.read front
    (λ runs. c.in_ok-take.ensures.refused c.if-not-branch.true
    (subst (λ (n : ℕ). AreRuns n now.leases (now.records ++ r ∷ [])) (sym c.record.invariant.sessions) (subst (λ (n : ℕ). AreRuns old.sessions n (now.records ++ r ∷ [])) (sym c.record.invariant.leases) runs)))

pub record-smaller : goal.record-smaller
record-smaller c =
    let front : IsFront c.record.rest.now c.in-Some.event c.in-Some.behind.now = search rules in
    front_smaller c.record.rest.now c.in-Some.event c.in-Some.behind.now front

pub record-preserved : goal.record-preserved
record-preserved c =
    let front : IsFront c.record.rest.now c.in-Some.event c.in-Some.behind.now = search rules in
    record {
      read = read_more c.args.bytes.now c.args.recovered.now c.record.recovered c.take.new.self c.record.rest.now c.in-Some.event c.in-Some.behind.now c.record.invariant.read front (c.in_ok-take.ensures.taken c.if-not-branch.false);
      sessions = c.take.ensures.sessions ∙ c.record.invariant.sessions;
      leases = c.take.ensures.leases ∙ c.record.invariant.leases;
    }
