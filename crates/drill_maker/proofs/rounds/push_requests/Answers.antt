use Rattle.std.proofs.Common.{◌∙◌, ap, [], ◌∷◌, ◌++◌, ◌+◌}
use Rattle.script_text.specs.declared.steps.Step.TheVariants as step
use Rattle.script_text.specs.declared.steps.LibStep.TheVariants as act
use Rattle.drill_maker.specs.Drill.{asked_session, request_steps}
use Rattle.drill_maker.proofs.Ranges.{next_from_one}
use Rattle.drill_maker.proofs.rounds.push_requests.Goals as goal

pub loop-before-preserved : goal.loop-before-preserved
loop-before-preserved c =
    next_from_one c.args.steps.now.items c.loop-before.steps.items _ c.loop-before.before (request_steps c.args.round) c.loop-before.invariant
    (c.in_ok-push.ensures.items
    ∙ ap (λ s. c.loop-before.steps.items ++ step.Lib (c.loop-before.before + 1) (act.Request s c.from.result) ∷ []) c.asked_session.ensures
    ∙ ap (λ from. c.loop-before.steps.items ++ step.Lib (c.loop-before.before + 1) (act.Request (asked_session c.args.round (c.loop-before.before + 1)) from) ∷ []) (c.from.ensures ∙ c.asked_from.ensures))
