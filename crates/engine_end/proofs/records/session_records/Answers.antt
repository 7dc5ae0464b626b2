use Rattle.std.proofs.Common.{◌≡◌, [], ◌∷◌, ◌++◌, arith, sym, subst}
use Rattle.std.proofs.lemmas.Grind.{common_steps}
use Rattle.std.proofs.lemmas.List.Elements.{All-push}
use Rattle.std.specs.List.{All}
use Rattle.engine_end.proofs.Recorded.{one_more}
use Rattle.engine_end.specs.Records.{HasLawfulJournal, left_in, left_of}
use Rattle.engine_end.proofs.records.session_records.Goals as goal

pub loop-book-preserved : goal.loop-book-preserved
loop-book-preserved c =
    let was = c.loop-book.invariant in
    let made = c.session_record.result in
    let gone = c.in-Some.ensures.steps.1 in
    let pushed : c.push.new.self.items ≡ c.loop-book.records.items ++ made ∷ [] = grind (arith, common_steps) in
    record {
      left = one_more left_in left_of c.loop-book.records.items c.push.new.self.items c.loop-book.yielded made c.in-Some.book pushed c.session_record.ensures.left was.left;
      journals = subst (All HasLawfulJournal) (sym pushed) (All-push HasLawfulJournal c.loop-book.records.items made was.journals c.session_record.ensures.journal);
      room = grind (arith, common_steps);
    }
