use Rattle.engine_laws.proofs.Happened.{BoardLaws, accepted, aside_all, bound, bound_and_ended, dialled, first_accounted, given_last, given_none, given_one, nothing_happens, one_behind_another, received, refused, stopped, took}
use Rattle.engine_laws.proofs.laws.happenings_are_accounted_for.Goals as goal

laws : goal.After-pieces_are_handled → BoardLaws
laws c = record {
  ready = c.boards_stay_ready.ensures.happening;
  count = c.boards_go_on.ensures.count;
  goes_on = c.boards_go_on.ensures.happening;
  quiet = c.boards_go_on.ensures.quiet;
  told = c.boards_stay_told.ensures.happening;
  brought = c.pieces_are_handled.ensures.happening;
}

pub returns-clause-first : goal.returns-clause-first
returns-clause-first c = first_accounted c.boards_stay_told.ensures.first c.pieces_are_handled.ensures.first

pub returns-clause-itself : goal.returns-clause-itself
returns-clause-itself c = nothing_happens

pub returns-clause-further : goal.returns-clause-further
returns-clause-further c = one_behind_another

pub returns-clause-aside : goal.returns-clause-aside
returns-clause-aside c = aside_all (laws c)

pub returns-clause-accepts : goal.returns-clause-accepts
returns-clause-accepts c = accepted (laws c)

pub returns-clause-dials : goal.returns-clause-dials
returns-clause-dials c = dialled (laws c)

pub returns-clause-takes : goal.returns-clause-takes
returns-clause-takes c = took (laws c)

pub returns-clause-gives_none : goal.returns-clause-gives_none
returns-clause-gives_none c = given_none (laws c)

pub returns-clause-gives_one : goal.returns-clause-gives_one
returns-clause-gives_one c = given_one (laws c)

pub returns-clause-gives_last : goal.returns-clause-gives_last
returns-clause-gives_last c = given_last (laws c)

pub returns-clause-stops : goal.returns-clause-stops
returns-clause-stops c = stopped

pub returns-clause-receives : goal.returns-clause-receives
returns-clause-receives c = received (laws c)

pub returns-clause-binds : goal.returns-clause-binds
returns-clause-binds c = bound (laws c)

pub returns-clause-binds_and_ends : goal.returns-clause-binds_and_ends
returns-clause-binds_and_ends c = bound_and_ended (laws c)

pub returns-clause-refuses : goal.returns-clause-refuses
returns-clause-refuses c = refused (laws c)
