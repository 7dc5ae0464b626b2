use Rattle.lease_core.proofs.Pushed.{state_of-push, run_push, run_before}
use Rattle.lease_core.proofs.LinesAfter.{state_of-append, run_of_parts, parts_of_run}
use Rattle.lease_core.proofs.laws.entries_decide_one_by_one.Goals as goal

pub returns-clause-state : goal.returns-clause-state
returns-clause-state c = state_of-push

pub returns-clause-states : goal.returns-clause-states
returns-clause-states c = state_of-append

pub returns-clause-run : goal.returns-clause-run
returns-clause-run c = λ limit entries e. (run_before limit entries e, λ both. run_push limit entries e both.0 both.1)

pub returns-clause-runs : goal.returns-clause-runs
returns-clause-runs c = λ limit entries more. (parts_of_run limit entries more, λ both. run_of_parts limit entries more both.0 both.1)
