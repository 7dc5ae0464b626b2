use Rattle.std.proofs.Common.{◌≡◌, ◌++◌, ◌∙◌, List, ℕ, take, drop, length, sym, ap, arith, rules, take-append-drop}
use Rattle.std.proofs.lemmas.List.{length-take}
use Rattle.std.proofs.lemmas.Option.{same_Some}
use Rattle.durable_journal.proofs.Fronts.{none_short, none_cut, none_like, none_lawful}
use Rattle.durable_journal.proofs.reading.read_record.Goals as goal

pub returns-then-bytes-lt-RECORD_HEAD-clause-none : goal.returns-then-bytes-lt-RECORD_HEAD-clause-none
returns-then-bytes-lt-RECORD_HEAD-clause-none c = none_short c.args.bytes.now c.if-bytes-lt-RECORD_HEAD.true

pub returns-then-rest-head-clause-none : goal.returns-then-rest-head-clause-none
returns-then-rest-head-clause-none c = none_cut c.read_head.result.0 c.args.bytes.now c.read_head.result.1.now c.read_head.ensures.types c.read_head.ensures.text (omega (arith, c.if-rest-head.true))

pub returns-in_default-clause-none : goal.returns-in_default-clause-none
returns-in_default-clause-none c =
    none_like c.read_head.result.0 c.args.bytes.now c.read_head.result.1.now c.read_head.ensures.types c.read_head.ensures.text
    (λ e types moment is. c.in_default.not-Some e (c.entry_of.ensures.only e types moment is))

pub returns-then-not-branch-clause-none : goal.returns-then-not-branch-clause-none
returns-then-not-branch-clause-none c =
    let h = c.read_head.result.0 in
    let rest0 = c.read_head.result.1.now in
    let body_is : c.of.result ≡ take h.length rest0 = search rules in
    none_lawful h c.in-Some.entry c.args.bytes.now rest0 c.of.result (drop h.length rest0) c.read_head.ensures.types c.read_head.ensures.text
    (sym (take-append-drop h.length rest0) ∙ ap (λ (l : List ℕ). l ++ drop h.length rest0) (sym body_is))
    (ap (λ (l : List ℕ). length l) body_is ∙ omega (arith, length-take h.length rest0, c.if-rest-head.false))
    (λ e types moment is. same_Some c.in-Some.entry e (sym c.in-Some.is ∙ c.entry_of.ensures.only e types moment is))
    (λ is. grind (arith, c.in_ok-is_record.ensures.1 is, c.if-not-branch.true))
