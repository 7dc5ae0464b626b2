use Rattle.std.proofs.Common.{◌≡◌, ◌⊎◌, inr, ℕ, ◌≤◌, List, ap, subst, sym, ◌∙◌}
use Rattle.std.proofs.lemmas.Result.{IfErr-weaker}
use Rattle.gate_io.specs.declared.clocks.TheConstants.{LAST_MOMENT}
use Rattle.script_run.specs.Means.{LeadsTo, Means, StartsRun, first_moment}
use Rattle.run_report.specs.Records.{no_run}
use Rattle.script_run.specs.Stops.{LeadsInPart, MeansInPart}
use Rattle.script_run.proofs.Moments.{first_within}
use Rattle.script_run.proofs.Seated.{if_ok}
use Rattle.script_text.specs.SoFar.{first_numbers}
use Rattle.script_text.specs.declared.steps.Step.{Step}
use Rattle.script_run.proofs.carrying.carry_out.Goals as goal

pub start-requires-clause-moment : goal.start-requires-clause-moment
start-requires-clause-moment c =
    let moment : c.first_moment.result ≡ first_moment c.args.script.steps = c.first_moment.ensures ∙ ap (λ (steps : List Step). first_moment steps) c.as_slice-steps.ensures in
    subst (λ (n : ℕ). n ≤ LAST_MOMENT) (sym moment) (first_within c.args.script.config.libraries first_numbers 0 c.args.script.steps c.requires.lawful.steps)

pub returns-in-Ok-start-clause-means : goal.returns-in-Ok-start-clause-means
returns-in-Ok-start-clause-means c =
    let steps = c.as_slice-steps.ensures in
    let moment : c.first_moment.result ≡ first_moment c.args.script.steps = c.first_moment.ensures ∙ ap (λ (steps : List Step). first_moment steps) steps in
    if_ok (LeadsTo c.as_slice-steps.result.now c.in-Ok-start.run') (Means c.args.script) c.carry_to_end.result
    (λ left leads. record {
      shared = c.in-Ok-start.shared;
      first = c.in-Ok-start.run';
      starts = subst (λ (n : ℕ). StartsRun c.args.script.config n c.in-Ok-start.shared c.in-Ok-start.run') moment c.in-Ok-start.ensures.starts;
      leads = subst (λ (steps : List Step). LeadsTo steps c.in-Ok-start.run' left) steps leads;
    }) c.carry_to_end.ensures.leads

pub returns-in-Ok-start-clause-in_part : goal.returns-in-Ok-start-clause-in_part
returns-in-Ok-start-clause-in_part c =
    let steps = c.as_slice-steps.ensures in
    let moment : c.first_moment.result ≡ first_moment c.args.script.steps = c.first_moment.ensures ∙ ap (λ (steps : List Step). first_moment steps) steps in
    IfErr-weaker c.carry_to_end.result (λ e. LeadsInPart c.as_slice-steps.result.now c.in-Ok-start.run' e.1) (λ e. (e.1 ≡ no_run) ⊎ MeansInPart c.args.script e.1)
    (λ e leads. inr (record {
      shared = c.in-Ok-start.shared;
      first = c.in-Ok-start.run';
      starts = subst (λ (n : ℕ). StartsRun c.args.script.config n c.in-Ok-start.shared c.in-Ok-start.run') moment c.in-Ok-start.ensures.starts;
      leads = subst (λ (steps : List Step). LeadsInPart steps c.in-Ok-start.run' e.1) steps leads;
    })) c.carry_to_end.ensures.in_part
