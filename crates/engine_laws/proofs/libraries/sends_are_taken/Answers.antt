use Rattle.std.proofs.Common.{◌≡◌, ℕ, List, refl}
use Rattle.engine_end.specs.Finishing.{after_settling}
use Rattle.lease_core.specs.State.{state_of}
use Rattle.lease_core.specs.Steps.{step}
use Rattle.lease_core.specs.declared.entry.Entry.{Entry}
use Rattle.lease_core.specs.declared.event.Event.TheVariants.{Lapses}
use Rattle.library_desk.specs.declared.desk.LibraryDesk.{LibraryDesk}
use Rattle.engine_laws.specs.libraries.Sends.{AreTaken}
use Rattle.engine_laws.proofs.library_lemmas.First.{starts_taken}
use Rattle.engine_laws.proofs.library_lemmas.Sent.{Laws as SentLaws}
use Rattle.engine_laws.proofs.library_lemmas.Settled.{all_sent}
use Rattle.engine_laws.proofs.library_lemmas.Taken.{KeepsTaken, Laws, Taken, kept, met, same_seat, served}
use Rattle.engine_laws.proofs.library_lemmas.Steps.{gathered_in_turn}
use Rattle.engine_laws.proofs.library_lemmas.Turns.{records_handed_out, turn_made, turn_taken}
use Rattle.engine_laws.proofs.libraries.sends_are_taken.Goals as goal

sent : goal.After-words_raise_lines → SentLaws
sent c = record {
  message = λ at body desk book. record { lines = (c.leases_stay.ensures.message at body desk).lines; sends = λ library before sends. c.sends_are_told.ensures.message library before sends at body desk book };
  tick = λ at desk book. record { lines = (c.leases_stay.ensures.tick at desk).lines; sends = λ library before sends. c.sends_are_told.ensures.tick library before sends at desk book };
  bind = λ number at body desk book. record { lines = (c.leases_stay.ensures.bind number at body desk).lines; sends = λ library before sends. c.sends_are_told.ensures.bind library before sends number at body desk book };
  dial = λ number at desk book. record { lines = (c.leases_stay.ensures.dial number at desk).lines; sends = λ library before sends. c.sends_are_told.ensures.dial library before sends number at desk book };
  leave = λ number book. record { lines = (c.leases_stay.ensures.leave number book).lines; sends = λ library before sends. c.sends_are_told.ensures.leave library before sends number book };
  lapse = λ book. record { lines = c.lines_go_on.ensures.one book.entries (step book.leases (state_of book.entries) Lapses); sends = λ library before sends. c.sends_are_told.ensures.lapse library before sends book };
  desk = c.others_stay.ensures.desk;
  plug = c.others_stay.ensures.plug;
  session = c.others_stay.ensures.session;
  goes_on = c.boards_go_on.ensures.happening;
  ready = c.boards_stay_ready.ensures.happening;
}

laws : goal.After-words_raise_lines → Laws
laws c = record {
  sent = sent c;
  ready = c.boards_stay_ready.ensures.run;
  goes_on = c.boards_go_on.ensures.run;
  joins = c.boards_stay_ready.ensures.further;
  word = c.sends_are_told.ensures.word;
  timeout = c.sends_are_told.ensures.timeout;
  request = c.sends_are_told.ensures.request;
  one = c.lines_go_on.ensures.one;
  raises = c.words_raise_lines.ensures.shown;
  holds = c.words_raise_lines.ensures.held;
  last = c.last_lines_are_last.ensures.last;
}

-- of the desk of libraries, whose desk of leases alone counts
abbrev Holds : (ℕ → List Entry) → LibraryDesk → Type 0
Holds before d = Taken before d.desk

goes_on : (before : ℕ → List Entry) (old new : LibraryDesk) → KeepsTaken before old.desk new.desk → new ≡ record old { desk = new.desk } → Holds before old → Holds before new
goes_on before old new keeps rest = keeps

pub returns-clause-first : goal.returns-clause-first
returns-clause-first c = starts_taken c.sends_are_told.ensures.first

pub returns-clause-serves : goal.returns-clause-serves
returns-clause-serves c = λ before library at until old new turn from_one is ready was. (served before (laws c) library at until old new turn from_one is (ready, was)).1

pub returns-clause-takes : goal.returns-clause-takes
returns-clause-takes c = λ before reading old new taken is ready was.
    (turn_taken (Holds before) (KeepsTaken before) (goes_on before) (kept before (laws c)) (λ library at until a b turn from_one serves. served before (laws c) library at until a b turn from_one serves) reading old new taken is (ready, was)).1

pub returns-clause-turn : goal.returns-clause-turn
returns-clause-turn c = λ before reading old new turn is ready was.
    (turn_made (Holds before) (KeepsTaken before) (goes_on before) (kept before (laws c)) (λ library at until a b taken from_one serves. served before (laws c) library at until a b taken from_one serves) reading old new turn is (ready, was)).1

pub returns-clause-hands_out : goal.returns-clause-hands_out
returns-clause-hands_out c = λ before old new records is was.
    records_handed_out (λ d. AreTaken before d.desk) (λ a b. AreTaken before a → AreTaken before b) (λ a b keeps rest. keeps) old new records is was

pub returns-clause-meets : goal.returns-clause-meets
returns-clause-meets c = λ before library_old library_new old new seats board was. met before library_old library_new old new seats board was

pub returns-clause-gathers : goal.returns-clause-gathers
returns-clause-gathers c = λ before seats at until old gathered gathers ready was.
    let seated : AreTaken before (after_settling seats old) = same_seat before old (after_settling seats old) refl refl refl was in
    (gathered_in_turn (KeepsTaken before) (kept before (laws c)) at until (after_settling seats old) gathered gathers (ready, seated)).1

pub returns-clause-finishes : goal.returns-clause-finishes
returns-clause-finishes c = λ before seats unkept accepted at until old left is ready was.
    let seated : AreTaken before (after_settling seats old.desk) = same_seat before old.desk (after_settling seats old.desk) refl refl refl was in
    let taken = (gathered_in_turn (KeepsTaken before) (kept before (laws c)) at until (after_settling seats old.desk) is.gathered is.gathers (ready, seated)).1 in
    all_sent c.boards_go_on.ensures.run c.settled_lanes_are_taken.ensures before seats unkept accepted at until old left is taken
