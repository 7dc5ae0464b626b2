use Rattle.std.proofs.Common.{subst, sym, ◌∙◌}
use Rattle.desk_tests.specs.Outset.{IsFresh}
use Rattle.desk_tests.proofs.OutsetLemmas.{begins_running}
use Rattle.session_desk.specs.Steps.{AreNoted, AreRoutes}
use Rattle.desk_tests.proofs.making.engine_desk.Goals as goal

pub returns : goal.returns
returns c =
    let board = sym c.new-desk.ensures.board in
    let begun = c.requires.sessions in
    begins_running c.boards_stay_ready.ensures.first c.args.dials c.args._shared.now _ c.requires.shape c.requires.depth (c.new-desk.ensures.seat ∙ c.requires.seat) (subst (IsFresh c.args.dials) board begun.fresh)
    c.requires.count c.requires.commands c.requires.notices begun.watch begun.cursors (subst (λ b. AreRoutes b c.args.sessions.routes) board begun.routes) begun.few
    (subst (λ b. AreNoted c.args.sessions.unkept.items b) board begun.noted) c.dialler.ensures
