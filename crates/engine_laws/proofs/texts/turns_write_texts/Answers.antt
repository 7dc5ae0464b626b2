use Rattle.std.proofs.Common.{ℕ, List}
use Rattle.lease_core.specs.declared.entry.Entry.{Entry}
use Rattle.engine_laws.proofs.text_lemmas.Standing.{Laws}
use Rattle.engine_laws.proofs.text_lemmas.Turns.{half_written, turn_written}
use Rattle.engine_laws.proofs.texts.turns_write_texts.Goals as goal

laws : goal.After-serving_happens → (before : ℕ → List Entry) → Laws before
laws c before = record { ready = c.boards_stay_ready.ensures.happening before; goes_on = c.boards_go_on.ensures.happening; count = c.boards_go_on.ensures.count; named = c.ready_boards_allow.ensures.named before }

pub returns-clause-gives : goal.returns-clause-gives
returns-clause-gives c = λ shared before. half_written before (laws c before) shared

pub returns-clause-turn : goal.returns-clause-turn
returns-clause-turn c = λ shared before. turn_written before (laws c before) c.serving_happens.ensures.serves shared
