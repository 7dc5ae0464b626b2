use Rattle.std.proofs.Common.{◌≡◌, [], refl, sym, ap, subst, arith}
use Rattle.std.proofs.lemmas.List.Elements.{All-nil}
use Rattle.engine_end.specs.Finishing.{with_seats}
use Rattle.lease_desk.specs.declared.desk.LeaseDesk.{LeaseDesk}
use Rattle.library_desk.specs.declared.desk.LibraryDesk.{LibraryDesk}
use Rattle.engine_laws.specs.libraries.Feeds.{AreFed, IsFed, IsLogged}
use Rattle.engine_laws.proofs.library_lemmas.Fed.{board_goes_on, met, served}
use Rattle.engine_laws.proofs.library_lemmas.Going.{Keeps, gathering_keeps, keeps_further, keeps_itself, run_keeps}
use Rattle.engine_laws.proofs.library_lemmas.Steps.{IsKept}
use Rattle.engine_laws.proofs.library_lemmas.Turns.{all_gathered, records_handed_out, turn_made, turn_taken}
use Rattle.engine_laws.proofs.libraries.messages_are_in_order.Goals as goal

-- the boards of two desks
abbrev KeepsBoard : LeaseDesk → LeaseDesk → Type 0
KeepsBoard old new = Keeps old.board new.board

kept : goal.After-owners_go_on → IsKept KeepsBoard
kept c = record {
  itself = λ desk. keeps_itself desk.board;
  further = λ first second third. keeps_further first.board second.board third.board;
  gathers = gathering_keeps c.owners_go_on.ensures;
  aside = λ happenings old new all reaches seat. run_keeps c.owners_go_on.ensures happenings old.board new.board all reaches;
  publishes = λ s count old new board seat. subst (Keeps old.board) (sym board) (keeps_itself old.board);
  joins = c.boards_stay_ready.ensures.further;
}

goes_on : (old new : LibraryDesk) → Keeps old.desk.board new.desk.board → new ≡ record old { desk = new.desk } → AreFed old → AreFed new
goes_on old new keeps rest = board_goes_on old new keeps (ap (λ (d : LibraryDesk). d.cursors.items) rest) (ap (λ (d : LibraryDesk). d.ends.items) rest)

pub returns-clause-first : goal.returns-clause-first
returns-clause-first c = λ config moment shared d desk engine count nobody. record {
  cursors = count;
  fed = λ library e from_one has.
      let ends = engine.each _ e has in
      let pushed : e.tail.pushed ≡ [] = ap (λ t. t.pushed) ends.tail in
      subst (λ ns. IsFed d.desk.board d.cursors.items library ns) (sym pushed) (record {
        in_order = λ s lease. tt;
        logged = All-nil (IsLogged d.desk.board);
        fresh = λ s lease small later. refl;
        goes_on = λ s small owned. absurd (let none = nobody s small in omega arith);
      });
}

pub returns-clause-serves : goal.returns-clause-serves
returns-clause-serves c = served c.owners_go_on.ensures c.lines_tell_the_owner.ensures.lease c.last_lines_are_last.ensures.last

pub returns-clause-takes : goal.returns-clause-takes
returns-clause-takes c = turn_taken AreFed KeepsBoard goes_on (kept c) (served c.owners_go_on.ensures c.lines_tell_the_owner.ensures.lease c.last_lines_are_last.ensures.last)

pub returns-clause-turn : goal.returns-clause-turn
returns-clause-turn c = turn_made AreFed KeepsBoard goes_on (kept c) (served c.owners_go_on.ensures c.lines_tell_the_owner.ensures.lease c.last_lines_are_last.ensures.last)

pub returns-clause-hands_out : goal.returns-clause-hands_out
returns-clause-hands_out c = records_handed_out AreFed KeepsBoard goes_on

pub returns-clause-gathers : goal.returns-clause-gathers
returns-clause-gathers c = λ seats at until old gathered gathers was.
    let seated : AreFed (with_seats seats old) = record { cursors = was.cursors; fed = was.fed } in
    let behind = all_gathered AreFed KeepsBoard goes_on (kept c) at until (with_seats seats old) gathered gathers seated in
    record { cursors = behind.cursors; fed = behind.fed }

pub returns-clause-meets : goal.returns-clause-meets
returns-clause-meets c = λ library old new tail_old tail_new head_old head_new from_one rings rest was. met library old new tail_old tail_new head_old head_new from_one rings rest was
