use Rattle.std.proofs.Common.{refl, ap, sym, subst, ◌∙◌}
use Rattle.session_book.specs.Kept.{Kept}
use Rattle.session_core.specs.declared.names.Names.{Names}
use Rattle.desk_tests.proofs.OutsetLemmas.{one_route_more}
use Rattle.desk_tests.proofs.making.add_route.Goals as goal

pub returns-clause-routes : goal.returns-clause-routes
returns-clause-routes c =
    one_route_more c.args.board.now c.args.routes.now _ c.args.s c.in_ok-names.names c.in_ok-push-2.ensures.items c.in_ok-push.ensures.items
    (record { within = c.requires.session; accepts = c.requires.accepts; names_are = sym (c.in_ok-names.ensures ∙ c.names.ensures ∙ ap (λ (x : Kept). x.book.machine.names) c.session.ensures) })
    c.requires.routes
