use Rattle.std.proofs.Common.{◌≡◌, false, subst, sym}
use Rattle.drill_maker.specs.Drill.{drill_of}
use Rattle.gateway_run.proofs.Ending.{leaves_by}
use Rattle.gateway_run.proofs.replaying.replay_drill.Goals as goal
use Rattle.script_text.specs.Lawful.{IsLawful}
use Rattle.script_text.specs.declared.steps.Script.{Script}

pub returns-in-Ok-carry_out-clause-meant : goal.returns-in-Ok-carry_out-clause-meant
returns-in-Ok-carry_out-clause-meant g c =
    let script = c.in-Ok.script in
    let run = c.in-Ok-carry_out.run' in
    let meant = c.in-Ok-carry_out.ensures.means in
    let lawful = subst (λ (s : Script). IsLawful false s) (sym c.in-Ok.ensures) (c.drills_are_lawful.ensures c.args.n c.requires.rounds.1) in
    leaves_by (λ said. said ≡ drill_of c.args.n) _ _ _ _ _ c.write-status.result run
    (record {
      script = script;
      is = c.in-Ok.ensures;
      meant = meant;
      accounted = c.scripts_are_accounted_for.ensures.means script run meant;
      headline = c.headlines_hold.ensures script run meant lawful.config.fits c.in-Ok-carry_out.ensures.journals;
    })
    c.in-Ok-carry_out.ensures.journals c.write-status.ensures
