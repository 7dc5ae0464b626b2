use Rattle.std.proofs.Common.{◌≡◌, [], ◌∷◌, ◌++◌, sym, ap, ◌∙◌}
use Rattle.std.specs.Prelude.{if◌then◌else◌}
use Rattle.std.specs.Result.{is_ok}
use Rattle.session_core.specs.declared.names.Names.{Names}
use Rattle.engine_loop.proofs.Outset.{route_more, route_none}
use Rattle.engine_loop.proofs.starting.add_route.Goals as goal

pub returns-in_ok-push-2 : goal.returns-in_ok-push-2
returns-in_ok-push-2 c =
    let old = c.args.routes.now in
    let config = c.args.config.now in
    let named : c.push.new.self.items ≡ old.names.items ++ c.in_ok-copy_names.field-0 ∷ [] =
    c.push.ensures.items ∙ ap (λ r. if is_ok r then old.names.items ++ c.in_ok-copy_names.field-0 ∷ [] else old.names.items) c.in_ok-push.was in
    let numbered : c.push-then-accepts.new.self.items ≡ old.sessions.items ++ c.args.s ∷ [] =
    c.push-then-accepts.ensures.items ∙ ap (λ r. if is_ok r then old.sessions.items ++ c.args.s ∷ [] else old.sessions.items) c.in_ok-push-2.was in
    route_more config c.args.s old _ (sym c.accepts.ensures ∙ c.if-accepts.true) numbered (named ∙ ap (λ (ns : Names). old.names.items ++ ns ∷ []) c.in_ok-copy_names.ensures) c.requires.routes

pub returns-else-accepts : goal.returns-else-accepts
returns-else-accepts c = route_none c.args.config.now c.args.s c.args.routes.now (sym c.accepts.ensures ∙ c.if-accepts.false) c.requires.routes
