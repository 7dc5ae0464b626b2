use Rattle.std.proofs.Common.{◌≡◌, ℕ, List, length, ap, arith}
use Rattle.engine_end.specs.Finishing.{after_settling}
use Rattle.lease_core.specs.declared.entry.Entry.{Entry}
use Rattle.engine_laws.proofs.text_lemmas.Dialled.{StillLaws}
use Rattle.engine_laws.proofs.text_lemmas.Walk.{all_gathered, records_handed_out, turn_given, turn_made, turn_taken}
use Rattle.engine_laws.proofs.texts.logons_are_answered.Goals as goal

laws : goal.After-serving_happens → (before : ℕ → List Entry) → StillLaws before
laws c before = record { ready = c.boards_stay_ready.ensures.happening before; goes_on = c.boards_go_on.ensures.happening; count = c.boards_go_on.ensures.count; same = c.sameness_laws.ensures.tick }

pub returns-clause-first : goal.returns-clause-first
returns-clause-first c = λ before board is k within.
    let none : length board.connections ≡ 0 = ap length is.connections in
    absurd (omega arith)

pub returns-clause-takes : goal.returns-clause-takes
returns-clause-takes c = λ before reading old new taken is ready was. (turn_taken before (laws c before) c.serving_happens.ensures.serves reading old new taken is (ready, was)).1

pub returns-clause-gives : goal.returns-clause-gives
returns-clause-gives c = λ before old new taken turn is ready was. (turn_given before (laws c before) c.serving_happens.ensures.serves old new taken turn is (ready, was)).1

pub returns-clause-turn : goal.returns-clause-turn
returns-clause-turn c = λ before reading old new turn is ready was. (turn_made before (laws c before) c.serving_happens.ensures.serves reading old new turn is (ready, was)).1

pub returns-clause-hands_out : goal.returns-clause-hands_out
returns-clause-hands_out c = λ before old new records is ready was. (records_handed_out before (laws c before) old new records is (ready, was)).1

pub returns-clause-gathers : goal.returns-clause-gathers
returns-clause-gathers c = λ before seats at until old gathered gathers ready was. (all_gathered before (laws c before) at until (after_settling seats old) gathered gathers (ready, was)).1
