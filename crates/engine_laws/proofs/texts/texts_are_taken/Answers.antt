use Rattle.std.proofs.Common.{◌≡◌, inl, inr, ℕ, List, length, refl, ap, arith}
use Rattle.engine_end.specs.Finishing.{after_settling}
use Rattle.lease_core.specs.declared.entry.Entry.{Entry}
use Rattle.engine_laws.proofs.text_lemmas.Standing.{Laws}
use Rattle.engine_laws.proofs.text_lemmas.Told.{begins_first, took_as_answered, took_text}
use Rattle.engine_laws.proofs.text_lemmas.Turns.{gathered_took, half_given, half_taken, links_go_on, records_handed_out, turn_made}
use Rattle.engine_laws.proofs.texts.texts_are_taken.Goals as goal

laws : goal.After-serving_happens → (before : ℕ → List Entry) → Laws before
laws c before = record { ready = c.boards_stay_ready.ensures.happening before; goes_on = c.boards_go_on.ensures.happening; count = c.boards_go_on.ensures.count; named = c.ready_boards_allow.ensures.named before }

pub returns-clause-first : goal.returns-clause-first
returns-clause-first c = λ before board links is.
    let none : length board.connections ≡ 0 = ap length is.connections in
    record { firsts = λ k within. absurd (omega arith); ended = λ k within. absurd (omega arith) }

pub returns-clause-takes : goal.returns-clause-takes
returns-clause-takes c = λ shared before. half_taken before (laws c before) c.serving_happens.ensures.serves shared

pub returns-clause-gives : goal.returns-clause-gives
returns-clause-gives c = λ shared before. half_given before (laws c before) shared

pub returns-clause-turn : goal.returns-clause-turn
returns-clause-turn c = λ shared before. turn_made before (laws c before) c.serving_happens.ensures.serves shared

pub returns-clause-hands_out : goal.returns-clause-hands_out
returns-clause-hands_out c = records_handed_out

pub returns-clause-known : goal.returns-clause-known
returns-clause-known c = links_go_on

pub returns-clause-gathers : goal.returns-clause-gathers
returns-clause-gathers c = λ before seats links at until old gathered gathers ready was. gathered_took before (laws c before) links at until (after_settling seats old) gathered gathers ready was

pub returns-clause-text : goal.returns-clause-text
returns-clause-text c = λ before board links ready took k within ended. elim (took.ended k within ended) [
  | inl whole ↦ inl (took_text before board k _ ready within refl whole)
  | inr cut ↦ inr cut
]

pub returns-clause-unanswered : goal.returns-clause-unanswered
returns-clause-unanswered c = λ before board links ready took s k within names unanswered. begins_first before board s k ready within names (took.firsts k within unanswered)

pub returns-clause-answers : goal.returns-clause-answers
returns-clause-answers c = λ before board links ready took. took_as_answered before board links took
