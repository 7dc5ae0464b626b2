use Rattle.std.proofs.Common.{◌≡◌, false, Err, ap, subst, sym, ◌∙◌}
use Rattle.command_words.specs.declared.words.Chosen.{Chosen}
use Rattle.command_words.specs.declared.words.Chosen.TheVariants.{Drill}
use Rattle.gate_io.specs.Counts.{HasRisen}
use Rattle.gate_io.specs.Sink.{HasTakenPrefix}
use Rattle.gateway_run.specs.Outcome.{IsScriptOf, Leaves, RefusesSource, text_for}
use Rattle.gateway_run.proofs.Ending.{cut_by}
use Rattle.gateway_run.proofs.replaying.replay.Goals as goal

pub returns-in-Ok-Replay-clause-meant : goal.returns-in-Ok-Replay-clause-meant
returns-in-Ok-Replay-clause-meant g c = λ command gives.
    let is = sym c.in-Ok-Replay.field-0-is ∙ c.words_give_one.ensures _ c.in-Ok-Replay.field-0 command c.in-Ok-Replay.ensures.chosen gives in
    subst (λ (chosen : Chosen). Leaves (IsScriptOf chosen (g.So.Source.left c.args.script.now)) c.replay_script.result.0 c.replay_script.result.1) is c.replay_script.ensures.meant

pub returns-in-Ok-Replay-clause-cut_off : goal.returns-in-Ok-Replay-clause-cut_off
returns-in-Ok-Replay-clause-cut_off g c = λ command gives cut.
    let is = sym c.in-Ok-Replay.field-0-is ∙ c.words_give_one.ensures _ c.in-Ok-Replay.field-0 command c.in-Ok-Replay.ensures.chosen gives in
    subst (λ (chosen : Chosen). HasTakenPrefix (g.Si.Sink.held c.args.out.now) (text_for chosen c.replay_script.result.1) (g.Si.Sink.held c.replay_script.new.out)) is
    (cut_by (RefusesSource false (g.So.Source.left c.args.script.now) (g.So.Source.faults c.args.script.now) (g.So.Source.faults c.replay_script.new.source)) _ _ _
    (HasRisen (g.Si.Sink.faults c.args.out.now) (g.Si.Sink.faults c.replay_script.new.out)) (c.replay_script.new.out ≡ c.args.out.now) c.replay_script.result.0 cut c.replay_script.ensures.ends)

pub returns-in-Ok-Drill-clause-meant : goal.returns-in-Ok-Drill-clause-meant
returns-in-Ok-Drill-clause-meant g c = λ command gives.
    let is = sym c.in-Ok-Drill.field-0-is ∙ c.words_give_one.ensures _ c.in-Ok-Drill.field-0 command c.in-Ok-Drill.ensures.chosen gives in
    subst (λ (chosen : Chosen). Leaves (IsScriptOf chosen (g.So.Source.left c.args.script.now)) c.replay_drill.result.0 c.replay_drill.result.1) is c.replay_drill.ensures.meant

pub returns-in-Ok-Drill-clause-cut_off : goal.returns-in-Ok-Drill-clause-cut_off
returns-in-Ok-Drill-clause-cut_off g c = λ command gives cut.
    let is = sym c.in-Ok-Drill.field-0-is ∙ c.words_give_one.ensures _ c.in-Ok-Drill.field-0 command c.in-Ok-Drill.ensures.chosen gives in
    subst (λ (chosen : Chosen). HasTakenPrefix (g.Si.Sink.held c.args.out.now) (text_for chosen c.replay_drill.result.1) (g.Si.Sink.held c.replay_drill.new.out)) is
    (cut_by (λ ended. ⊥) _ _ _ (HasRisen (g.Si.Sink.faults c.args.out.now) (g.Si.Sink.faults c.replay_drill.new.out)) (c.replay_drill.new.out ≡ c.args.out.now) c.replay_drill.result.0 cut c.replay_drill.ensures.ends)

pub returns-in-Err-Usage-clause-drill_complete : goal.returns-in-Err-Usage-clause-drill_complete
returns-in-Err-Usage-clause-drill_complete g c = λ n gives none. absurd (c.in-Err-Usage.ensures.usage (ap Err c.in-Err-Usage.field-0-is) (record { chosen = Drill n; gives = gives }))
