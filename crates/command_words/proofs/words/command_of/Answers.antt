use Rattle.std.proofs.Common.{◌∙◌, IfOk, List, ℕ, IsTrue, map, string_bytes, subst, sym}
use Rattle.std.specs.List.{list_all}
use Rattle.command_words.specs.Words.{Gives, is_word}
use Rattle.command_words.proofs.Shapes.{four_placed, stand_mapped, two_placed}
use Rattle.command_words.proofs.words.command_of.Goals as goal

pub of_two-requires : goal.of_two-requires
of_two-requires c =
    let is = two_placed c.in_ok-command.field-0 (map string_bytes c.args.words.now) c.in-Some.command c.in-Some.subject c.in_ok-command.ensures.all (cc) (cc) (cc) in
    subst (λ (words : List (List ℕ)). IsTrue (list_all is_word words)) is (stand_mapped c.args.words.now ∙ sym c.may_stand.ensures ∙ c.if-not-may_stand.false)

pub of_four-requires : goal.of_four-requires
of_four-requires c =
    let is = four_placed c.in_ok-command.field-0 (map string_bytes c.args.words.now) c.in-Some-2.command c.in-Some-2.path c.in-Some-2.address c.in-Some-2.turns c.in_ok-command.ensures.all (cc) (cc) (cc) (cc) in
    subst (λ (words : List (List ℕ)). IsTrue (list_all is_word words)) is (stand_mapped c.args.words.now ∙ sym c.may_stand.ensures ∙ c.if-not-may_stand.false)

pub returns-in-Some-clause-chosen : goal.returns-in-Some-clause-chosen
returns-in-Some-clause-chosen c =
    let is = two_placed c.in_ok-command.field-0 (map string_bytes c.args.words.now) c.in-Some.command c.in-Some.subject c.in_ok-command.ensures.all (cc) (cc) (cc) in
    subst (λ (words : List (List ℕ)). IfOk c.of_two.result (Gives words)) (sym is) c.of_two.ensures.chosen

pub returns-in-Some-2-clause-chosen : goal.returns-in-Some-2-clause-chosen
returns-in-Some-2-clause-chosen c =
    let is = four_placed c.in_ok-command.field-0 (map string_bytes c.args.words.now) c.in-Some-2.command c.in-Some-2.path c.in-Some-2.address c.in-Some-2.turns c.in_ok-command.ensures.all (cc) (cc) (cc) (cc) in
    subst (λ (words : List (List ℕ)). IfOk c.of_four.result (Gives words)) (sym is) c.of_four.ensures.chosen
