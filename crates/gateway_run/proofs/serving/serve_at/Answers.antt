use Rattle.std.proofs.Common.{◌≡◌, true, subst, sym}
use Rattle.gateway_run.specs.Outcome.{IsTextOf}
use Rattle.gateway_run.proofs.Served.{behind_listen, in_part_as, serves_as, unasked_behind}
use Rattle.gateway_run.proofs.serving.serve_at.Goals as goal
use Rattle.script_text.specs.declared.steps.Script.{Script}

pub returns-in-Ready-clause-served : goal.returns-in-Ready-clause-served
returns-in-Ready-clause-served g c =
    let known = λ (script : Script) (is : script ≡ c.in-Ok.script). subst (λ (s : Script). IsTextOf true (g.So.Source.left c.args.source.now) s) (sym is) c.in-Ok.ensures.script in
    serves_as (λ said. said ≡ c.in-Ok.script) (IsTextOf true (g.So.Source.left c.args.source.now)) c.args.turns _ _ _ _ _ _ c.serve_out.result.1 known
    (λ script spent served. behind_listen (g.W.Wire.listen_gives) (g.W.Wire.link) c.args.wire.now c.listen.new.self c.args.address.now _ _ _ _ _ _ script c.args.turns _ spent c.in-Ready.ensures.exact c.in-Ready.ensures.listens c.in-Ready.ensures.links_stay served)
    (in_part_as (λ said. said ≡ c.in-Ok.script) (IsTextOf true (g.So.Source.left c.args.source.now)) c.args.turns _ _ _ c.serve_out.result.1 known c.in-Ready.ensures.listens)
    (unasked_behind _ _ _ _ _ _ c.in-Ready.ensures.listens c.in-Ready.ensures.links_stay)
    c.serve_out.result.0 c.serve_out.ensures.served
