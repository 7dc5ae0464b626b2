use Rattle.std.proofs.Common.{false}
use Rattle.gateway_run.specs.Outcome.{IsTextOf}
use Rattle.gateway_run.proofs.Ending.{leaves_by}
use Rattle.gateway_run.proofs.replaying.replay_script.Goals as goal

pub returns-in-Ok-carry_out-clause-meant : goal.returns-in-Ok-carry_out-clause-meant
returns-in-Ok-carry_out-clause-meant g c =
    let run = c.in-Ok-carry_out.run' in
    let meant = c.in-Ok-carry_out.ensures.means in
    leaves_by (IsTextOf false (g.So.Source.left c.args.source.now)) _ _ _ _ _ c.write-status.result run
    (record {
      script = c.in-Ok.script;
      is = c.in-Ok.ensures.script;
      meant = meant;
      accounted = c.scripts_are_accounted_for.ensures.means c.in-Ok.script run meant;
      headline = c.headlines_hold.ensures c.in-Ok.script run meant c.in-Ok.ensures.lawful.config.fits c.in-Ok-carry_out.ensures.journals;
    })
    c.in-Ok-carry_out.ensures.journals c.write-status.ensures
