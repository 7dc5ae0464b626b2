use Rattle.std.proofs.Common.{◌+◌, List, ℕ, take, drop, sym, ap, ◌∙◌, arith, add-one, eq-eqb, eqb-true}
use Rattle.std.proofs.lemmas.List.{take_rest}
use Rattle.journal_audit.specs.Cut.{cut_of, with_line}
use Rattle.journal_audit.proofs.LineCuts.{cut-at, cut-none}
use Rattle.journal_audit.proofs.split.split_line.Goals as goal

pub returns-in-Some-clause-line : goal.returns-in-Some-clause-line
returns-in-Some-clause-line c =
    let text = c.args.text.now in
    let i = c.in-Some.i in
    cut-at text i (λ k h e. c.in-Some.ensures.0.before k (omega arith) h (eq-eqb _ _ e)) c.in-Some.ensures.0.high (eqb-true _ _ c.in-Some.ensures.1)
    ∙ ap (λ (xs : List ℕ). with_line (take i text) (cut_of xs)) (ap (λ m. drop m text) (sym (add-one i)) ∙ sym (take_rest text (i + 1)))

pub returns-in-None-clause-none : goal.returns-in-None-clause-none
returns-in-None-clause-none c =
    cut-none c.args.text.now (λ k h e. c.in-None.ensures k (omega arith) h (eq-eqb _ _ e))
