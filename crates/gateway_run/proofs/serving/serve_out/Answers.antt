use Rattle.std.proofs.Common.{refl}
use Rattle.gateway_run.proofs.Served.{none_spent, served_by, served_in_part, whatever_read}
use Rattle.gateway_run.proofs.serving.serve_out.Goals as goal

pub returns-in-Ok-clause-served : goal.returns-in-Ok-clause-served
returns-in-Ok-clause-served g c =
    rw c.with_spent.ensures (served_by _ c.args.turns _ _ _ _ _ _ _ _ c.write-status.result c.in-Ok.field-0.spent c.in-Ok.field-0.run
    (record {
      script = c.args.script;
      is = refl;
      serves = record {
        links = g.W.Wire.link c.args.wire.now;
        listening = tt;
        same = λ k. refl;
        serves = c.in-Ok.ensures.serves;
        headline = c.served_headlines_hold.ensures.headline c.args.script c.args.turns _ _ _ _ _ _ _ (whatever_read c.args.script c.args.turns _ _ _ _ _ _ _ _ c.in-Ok.ensures.serves) c.requires.lawful.config.fits c.requires.accepted c.requires.dialled c.in-Ok.ensures.journals;
        finished = λ none. c.served_headlines_hold.ensures.finished c.args.script c.args.turns _ _ _ _ _ _
            (none_spent _ _ _ _ _ _ _ _ _ none (whatever_read c.args.script c.args.turns _ _ _ _ _ _ _ _ c.in-Ok.ensures.serves)) c.requires.accepted c.requires.dialled;
        clock = c.silences_are_waited_for.ensures c.args.script c.args.turns _ _ _ _ _ _ _ (whatever_read c.args.script c.args.turns _ _ _ _ _ _ _ _ c.in-Ok.ensures.serves);
      };
    })
    c.in-Ok.ensures.journals c.write-status.ensures)

pub returns-in-Err-OutOfMemory-default-clause-served : goal.returns-in-Err-OutOfMemory-default-clause-served
returns-in-Err-OutOfMemory-default-clause-served g c =
    let run = c.in-Err-OutOfMemory-default.run' in
    served_in_part g.W.Wire.door g.W.Wire.link c.args.wire.now _ c.args.turns _ (g.G.Gate.open_wide c.args.gate.now) (g.W.Wire.door c.args.wire.now) (g.W.Wire.link c.args.wire.now) c.args.script run c.in-Err-OutOfMemory-default.ensures.journals_short
    (λ serves. c.headlines_hold_in_part.ensures.serves c.args.script c.args.turns _ _ _ run serves c.requires.lawful.config.fits c.requires.accepted c.requires.dialled) c.in-Err-OutOfMemory-default.ensures.in_part
