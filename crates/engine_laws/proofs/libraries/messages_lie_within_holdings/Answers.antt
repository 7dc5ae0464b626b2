use Rattle.std.proofs.Common.{◌≡◌, ℕ, List, [], sym, ap, subst}
use Rattle.std.proofs.lemmas.List.Elements.{All-nil}
use Rattle.std.specs.List.{All}
use Rattle.engine_end.specs.Finishing.{with_seats}
use Rattle.lease_core.specs.declared.entry.Entry.{Entry}
use Rattle.library_desk.specs.declared.desk.LibraryDesk.{LibraryDesk}
use Rattle.engine_laws.specs.libraries.Spans.{AllLieWithin, LiesWithin}
use Rattle.engine_laws.proofs.library_lemmas.Turns.{all_gathered, records_handed_out, turn_made, turn_taken}
use Rattle.engine_laws.proofs.library_lemmas.Within.{GoesDesk, Held, Laws, boards_go_on, desk_goes_on, kept, met, served}
use Rattle.engine_laws.proofs.libraries.messages_lie_within_holdings.Goals as goal

laws : goal.After-owners_go_on → Laws
laws c = record {
  going = c.owners_go_on.ensures;
  journals = record { adjoin = c.holdings_adjoin.ensures; one = c.entries_decide_one_by_one.ensures.state; runs = c.entries_decide_one_by_one.ensures.runs };
  lease_told = c.lines_tell_the_owner.ensures.lease;
  pushed_last = c.last_lines_are_last.ensures.last;
  itself = c.boards_go_on.ensures.itself;
  further = c.boards_go_on.ensures.further;
  joins = c.boards_stay_ready.ensures.further;
  ready = c.boards_stay_ready.ensures.happening;
  runs_ready = c.boards_stay_ready.ensures.run;
}

-- no entries before
none : ℕ → List Entry
none s = []

goes_on : (c : goal.After-owners_go_on) (old new : LibraryDesk) → GoesDesk (laws c) none old.desk new.desk → new ≡ record old { desk = new.desk } → AllLieWithin old → AllLieWithin new
goes_on c old new goes rest = boards_go_on (laws c) old new goes.on (ap (λ (d : LibraryDesk). d.ends.items) rest)

pub returns-clause-first : goal.returns-clause-first
returns-clause-first c = λ config shared d engine library e from_one has.
    let pushed : e.tail.pushed ≡ [] = ap (λ t. t.pushed) (engine.each _ e has).tail in
    subst (λ ns. All (LiesWithin d.desk.board library) ns) (sym pushed) (All-nil (LiesWithin d.desk.board library))

pub returns-clause-serves : goal.returns-clause-serves
returns-clause-serves c = λ before library at until old new turn from_one is ready fed was. (served (laws c) before library at until old new turn from_one is (ready, (fed, was))).1.1

pub returns-clause-takes : goal.returns-clause-takes
returns-clause-takes c = λ before reading old new taken is ready fed was.
    (turn_taken (Held (laws c) before) (GoesDesk (laws c) before) (desk_goes_on (laws c) before) (kept (laws c) before) (served (laws c) before) reading old new taken is (ready, (fed, was))).1.1

pub returns-clause-turn : goal.returns-clause-turn
returns-clause-turn c = λ before reading old new turn is ready fed was.
    (turn_made (Held (laws c) before) (GoesDesk (laws c) before) (desk_goes_on (laws c) before) (kept (laws c) before) (served (laws c) before) reading old new turn is (ready, (fed, was))).1.1

pub returns-clause-hands_out : goal.returns-clause-hands_out
returns-clause-hands_out c = λ old new records is was. records_handed_out AllLieWithin (GoesDesk (laws c) none) (goes_on c) old new records is was

pub returns-clause-meets : goal.returns-clause-meets
returns-clause-meets c = λ library old new tail_old tail_new head_old head_new from_one rings rest was. met library old new tail_old tail_new head_old head_new from_one rings rest was

pub returns-clause-gathers : goal.returns-clause-gathers
returns-clause-gathers c = λ seats at until old gathered gathers was.
    all_gathered AllLieWithin (GoesDesk (laws c) none) (goes_on c) (kept (laws c) none) at until (with_seats seats old) gathered gathers was
