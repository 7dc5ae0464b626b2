use Rattle.std.proofs.Common.{◌≤◌, length, refl, sym, subst, ◌∙◌}
use Rattle.session_core.specs.declared.routing.TheConstants.{MOST_SESSIONS}
use Rattle.session_desk.specs.Steps.{AreRoutes}
use Rattle.session_desk.specs.declared.routes.Routes.{Routes}
use Rattle.wire_desk.proofs.Coming.{accepted_is_new, came_first, came_last, dialled_is_new, none_came}
use Rattle.wire_desk.proofs.Progress.{further, proceeds, still_wired, wired_on}
use Rattle.wire_desk.proofs.laws.lines_progress.Goals as goal

pub returns-clause-itself : goal.returns-clause-itself
returns-clause-itself c = λ board k.
    let is = c.sessions_proceed.ensures.itself board in
    record {
      goes_on = is.goes_on;
      leases = is.leases;
      count = refl;
      others = λ j other within. is.bytes j within;
      written = refl;
    }

pub returns-clause-further : goal.returns-clause-further
returns-clause-further c = further c.boards_go_on.ensures.further

pub returns-clause-proceeds : goal.returns-clause-proceeds
returns-clause-proceeds c = proceeds

pub returns-clause-wired : goal.returns-clause-wired
returns-clause-wired c = λ k old new places door before after within goes others closed written roomy was. wired_on k old new places door before after within goes others closed written roomy was

pub returns-clause-accepted_is_new : goal.returns-clause-accepted_is_new
returns-clause-accepted_is_new c = accepted_is_new

pub returns-clause-dialled_is_new : goal.returns-clause-dialled_is_new
returns-clause-dialled_is_new c = dialled_is_new

pub returns-clause-none_came : goal.returns-clause-none_came
returns-clause-none_came c = none_came

pub returns-clause-came_first : goal.returns-clause-came_first
returns-clause-came_first c = λ old new line first last door after_door before after connections accepted dialled new_number others on still was.
    came_first old new line door after_door before after connections accepted dialled new_number others on still first last was

pub returns-clause-came_last : goal.returns-clause-came_last
returns-clause-came_last c = λ old new line first last door after_door before after connections accepted dialled new_number others on still was.
    came_last old new line door after_door before after connections accepted dialled new_number others on still first last was

pub returns-clause-set_up : goal.returns-clause-set_up
returns-clause-set_up c = λ leases old new w_old w_new goes table routes buffer noted steady was. record {
  table = table ∙ was.table;
  depth = was.depth;
  sessions = goes.sessions ∙ was.sessions;
  few = was.few;
  routes = subst (AreRoutes new.board) (sym routes) (c.sessions_proceed.ensures.routes old.board new.board w_old.routes goes was.routes);
  few_routes = subst (λ (r : Routes). length r.names.items ≤ MOST_SESSIONS) (sym routes) was.few_routes;
  noted = noted;
  steady = steady;
  buffer = buffer ∙ was.buffer;
}

pub returns-clause-noted : goal.returns-clause-noted
returns-clause-noted c = c.sessions_proceed.ensures.noted

pub returns-clause-still : goal.returns-clause-still
returns-clause-still c = still_wired
