use Rattle.std.proofs.Common.{ap, subst, sym, inl, inr, ◌∙◌, List, codes, map, string_bytes}
use Rattle.clap.specs.Words.{App, HasKind, Kinds, Text, fault_of, first_of, found_of, is_simple, is_simple_and_free, matches_of}
use Rattle.clap.proofs.WalkLemmas.{first_value-rows}
use Rattle.command_words.proofs.Walks.{four_are_taken, is_simple_line, is_free_line, more_are_refused}
use Rattle.command_words.proofs.places.places_of.Goals as goal

pub returns-in_err-matches-clause-usage : goal.returns-in_err-matches-clause-usage
returns-in_err-matches-clause-usage c = λ is few.
    let words : List Text = map string_bytes c.args.words.now in
    let e = c.in_err-matches.field-0.0 in
    let line = c.in_ok-command.ensures in
    let said = c.in_err-matches.ensures.kinds (ap is_simple_and_free line ∙ is_free_line) in
    let known = subst (λ (a : App). HasKind (fault_of a words) e) line said in
    let wanted = subst (λ (kinds : Kinds). HasKind kinds e) (four_are_taken words c.requires few).no_fault known in
    let made = (rw is at c.from_residual-in_err-matches.ensures.1).0 in
    elim wanted [
      | inl memory ↦ let bad = made memory in cc bad
      | inr none ↦ absurd none
    ]

pub returns-clause-all : goal.returns-clause-all
returns-clause-all c =
    let words : List Text = map string_bytes c.args.words.now in
    let m = c.in_ok-matches.matches in
    let line = c.in_ok-command.ensures in
    let none = sym (ap (λ (a : App). fault_of a words) line) ∙ c.in_ok-matches.ensures.kinds (ap is_simple_and_free line ∙ is_free_line) in
    let few = more_are_refused words c.requires none in
    let rows = (c.in_ok-matches.ensures.matches (ap is_simple line ∙ is_simple_line)).0 ∙ ap (λ (a : App). matches_of a words) line in
    let at_place = λ (id : Text). first_value-rows (found_of m) id ∙ ap (first_of id) rows in
    let all = (four_are_taken words c.requires few).rows in
    record {
      command = c.get_str.ensures ∙ at_place (codes "command") ∙ all.command;
      subject = c.get_str-2.ensures ∙ at_place (codes "subject") ∙ all.subject;
      address = c.get_str-3.ensures ∙ at_place (codes "address") ∙ all.address;
      turns = c.get_str-4.ensures ∙ at_place (codes "turns") ∙ all.turns;
      few = few;
    }
