use Rattle.std.proofs.Common.{◌≡◌, List, [], ◌∷◌, ◌++◌, length, arith, append_assoc, append-nil, ap, subst, sym, ◌∙◌}
use Rattle.script_text.specs.declared.steps.Step.{Step}
use Rattle.serve_run.specs.Workers.{StartsWorkers}
use Rattle.serve_run.proofs.Plans.{none_left}
use Rattle.serve_run.proofs.dealing.deal_all.Goals as goal

pub loop-step-preserved : goal.loop-step-preserved
loop-step-preserved c =
    let was = c.loop-step.invariant in
    record {
      dealt = λ asks count shared first. c.in_ok-deal.ensures.dealt asks count shared c.loop-step.yielded (was.dealt asks count shared first);
      count = c.deal.ensures.count ∙ was.count;
      steps_are = append_assoc c.loop-step.yielded (c.in-Some.step ∷ []) c.next.new.self.rest.items ∙ ap (λ xs. c.loop-step.yielded ++ xs) (sym c.in-Some.ensures.steps.0) ∙ was.steps_are;
    }

pub returns-clause-dealt : goal.returns-clause-dealt
returns-clause-dealt c = λ asks count shared first.
    let was = c.loop-step.invariant in
    let size : length c.loop-step.step-iterator.rest.items ≡ 0 = (let len = c.in-None.ensures.steps.0 in let ok = c.loop-step.step-iterator.rest.ok in omega arith) in
    let none = none_left c.loop-step.step-iterator.rest.items size in
    let all : c.loop-step.yielded ≡ c.args.steps.items =
    sym (append-nil c.loop-step.yielded) ∙ (ap (λ xs. c.loop-step.yielded ++ xs) (sym none) ∙ (was.steps_are ∙ c.into_iter-step-iterator.ensures.into_iter_gives.0)) in
    subst (λ (ss : List Step). StartsWorkers asks count shared ss c.loop-step.workers.items) all (was.dealt asks count shared first)
