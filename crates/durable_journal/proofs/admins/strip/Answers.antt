use Rattle.std.proofs.Common.{◌≡◌, ◌∙◌, ◌++◌, ◌-◌, ℕ, List, length, take, drop, true, sym, ap, arith, length-drop, take-append-drop}
use Rattle.std.specs.Prelude.{nat_eq}
use Rattle.std.specs.Cmp.Lexicographic.{pointwise}
use Rattle.std.proofs.lemmas.List.{take_all}
use Rattle.durable_journal.proofs.Sessions.{prefix_taken, point_is, point_by}
use Rattle.durable_journal.proofs.admins.strip.Goals as goal

pub returns-then-ne-clause-only : goal.returns-then-ne-clause-only
returns-then-ne-clause-only c = λ more is.
    let b = c.args.bytes.now in
    let p = c.args.prefix.now in
    let same : pointwise nat_eq (take (length p) b) p ≡ true = point_by (take (length p) b) p (prefix_taken b p more is) in
    absurd (grind (arith, same, c.ne.ensures, c.if-ne.true))

pub returns-clause-found : goal.returns-clause-found
returns-clause-found c =
    let b = c.args.bytes.now in
    let p = c.args.prefix.now in
    let same : pointwise nat_eq (take (length p) b) p ≡ true = grind (arith, c.ne.ensures, c.if-ne.false) in
    let front : take (length p) b ≡ p = point_is (take (length p) b) p same in
    sym (take-append-drop (length p) b) ∙ ap (λ (l : List ℕ). l ++ drop (length p) b) front ∙ ap (λ (l : List ℕ). p ++ l) (sym (take_all (length b - length p) (drop (length p) b) (omega (arith, length-drop (length p) b))))
