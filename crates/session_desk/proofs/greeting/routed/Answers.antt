use Rattle.std.proofs.Common.{◌∙◌, ap}
use Rattle.session_core.specs.Route.{route}
use Rattle.session_desk.proofs.RoutedTo.{on_ok_names}
use Rattle.session_desk.proofs.greeting.routed.Goals as goal

pub returns-clause-names : goal.returns-clause-names
returns-clause-names c = on_ok_names c.args.fields.now c.args.routes.now.names.items c.route.result (c.route.ensures ∙ ap (route c.args.fields.now) c.as_slice.ensures.value)
