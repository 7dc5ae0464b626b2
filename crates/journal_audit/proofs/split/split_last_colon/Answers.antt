use Rattle.std.proofs.Common.{◌+◌, List, ℕ, take, drop, Some, sym, ap, ◌∙◌, arith, add-one, eq-eqb, eqb-true}
use Rattle.std.proofs.lemmas.List.{take_rest}
use Rattle.journal_audit.proofs.Colons.{no_colon, colon_at}
use Rattle.journal_audit.proofs.split.split_last_colon.Goals as goal

pub returns-in-Some : goal.returns-in-Some
returns-in-Some c =
    let text = c.args.text.now in
    let i = c.in-Some.i in
    sym (colon_at text i c.in-Some.ensures.0.high (eqb-true _ _ c.in-Some.ensures.1) (λ k from to e. c.in-Some.ensures.0.after k (omega arith) to (eq-eqb _ _ e))
    ∙ ap (λ (xs : List ℕ). Some (record { before = take i text; behind = xs })) (ap (λ m. drop m text) (sym (add-one i)) ∙ sym (take_rest text (i + 1))))

pub returns-in-None : goal.returns-in-None
returns-in-None c = sym (no_colon c.args.text.now (λ k from to e. c.in-None.ensures k (omega arith) to (eq-eqb _ _ e)))
