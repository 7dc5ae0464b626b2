use Rattle.std.proofs.Common.{◌≡◌, length, sym, ap, ◌∙◌, Ok, arith}
use Rattle.std.proofs.lemmas.Bool.Decides.{nat_tests}
use Rattle.script_text.proofs.LawfulScripts.{lawful-script}
use Rattle.script_text.proofs.Meanings.{reading_fault, reading_line, reading_end}
use Rattle.script_text.proofs.reading.read_script.Goals as goal

pub returns-in-Err-clause-fault : goal.returns-in-Err-clause-fault
returns-in-Err-clause-fault c =
    reading_fault _ _ _ _ _ _ _ _ c.split_line.ensures.lines (sym c.in-Err.is ∙ c.in_ok-line.ensures) c.loop-rest.invariant.meaning

pub loop-rest-preserved : goal.loop-rest-preserved
loop-rest-preserved c =
    record {
      meaning = reading_line _ _ _ _ _ _ _ _ _ c.split_line.ensures.lines (sym c.in-Ok.is ∙ c.in_ok-line.ensures) c.in_ok-put-in-Ok.ensures.said c.loop-rest.invariant.meaning;
      count = omega (arith, c.split_line.ensures.shorter, c.loop-rest.invariant.count);
      made = c.in_ok-put-in-Ok.ensures.made;
    }

pub returns-clause-ok : goal.returns-clause-ok
returns-clause-ok c =
    let none : length c.loop-rest.rest.now ≡ 0 = grind (arith, nat_tests) in
    reading_end _ _ _ _ _ none c.loop-rest.invariant.meaning ∙ ap Ok (sym c.finish.ensures)

pub returns-clause-lawful : goal.returns-clause-lawful
returns-clause-lawful c =
    let none : length c.loop-rest.rest.now ≡ 0 = grind (arith, nat_tests) in
    lawful-script c.moments_have_a_bound.ensures _ _ _ (reading_end _ _ _ _ _ none c.loop-rest.invariant.meaning ∙ ap Ok (sym c.finish.ensures))
