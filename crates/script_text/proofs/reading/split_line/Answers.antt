use Rattle.std.proofs.Common.{◌+◌, List, ℕ, ◌∷◌, take, drop, sym, ap, ◌∙◌, arith, add-one, eq-eqb, eqb-true}
use Rattle.std.proofs.lemmas.List.{take_rest}
use Rattle.script_text.specs.Meaning.{lines_of}
use Rattle.script_text.proofs.LineCuts.{lines-cut, lines-whole-nil}
use Rattle.script_text.proofs.reading.split_line.Goals as goal

pub returns-in-Some-clause-lines : goal.returns-in-Some-clause-lines
returns-in-Some-clause-lines c =
    let text = c.args.text.now in
    let i = c.in-Some.i in
    lines-cut text i (λ k h e. c.in-Some.ensures.0.before k (omega arith) h (eq-eqb _ _ e)) c.in-Some.ensures.0.high (eqb-true _ _ c.in-Some.ensures.1)
    ∙ ap (λ (xs : List ℕ). take i text ∷ lines_of xs) (ap (λ m. drop m text) (sym (add-one i)) ∙ sym (take_rest text (i + 1)))

pub returns-in-None-clause-lines : goal.returns-in-None-clause-lines
returns-in-None-clause-lines c =
    lines-whole-nil c.args.text.now c.requires (λ k h e. c.in-None.ensures k (omega arith) h (eq-eqb _ _ e))
