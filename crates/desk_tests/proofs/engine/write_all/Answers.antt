use Rattle.std.proofs.Common.{◌≡◌, ℕ, ◌≤◌, List, length, take, refl, ap, subst, ◌∙◌, arith}
use Rattle.std.proofs.lemmas.List.{length-take}
use Rattle.connection_core.specs.Connection.{ConnectionState}
use Rattle.connection_core.specs.Outgoing.{waiting_text}
use Rattle.switchboard.specs.Happenings.{writes}
use Rattle.desk_tests.proofs.RunningLemmas.{Laws, StepLaws, happens, keeps_notes}
use Rattle.desk_tests.proofs.engine.write_all.Goals as goal

within : (n : ℕ) (xs ys : List ℕ) → xs ≡ take n ys → length xs ≤ length ys
within n xs ys is = let long = ap (λ l. length l) is ∙ length-take n ys in omega arith

pub wrote-requires-clause-within : goal.wrote-requires-clause-within
wrote-requires-clause-within c =
    let text = c.waiting-count.result.now in
    subst (λ (x : ConnectionState). length text ≤ length (waiting_text x.out.outgoing)) c.connection.ensures (within 18446744073709551615 text (waiting_text c.connection.result.now.out.outgoing) c.waiting-count.ensures)

pub returns : goal.returns
returns c =
    let laws : Laws = record { routes = c.sessions_proceed.ensures.routes; noted = c.sessions_proceed.ensures.noted; cursors = c.cursors_stay.ensures.boards } in
    let steps : StepLaws = record { ready = c.boards_stay_ready.ensures.happening; goes_on = c.boards_go_on.ensures.happening; in_step = c.boards_stay_in_step.ensures.step; leases = c.boards_stay_in_step.ensures.goes_on } in
    let was = c.args.desk.now in
    record {
      running = keeps_notes laws c.args._shared.now was _ refl refl refl refl (happens steps (writes c.args.k _) was.libraries.desk _ refl c.wrote.ensures.happens refl c.requires.running.steady) c.requires.running;
    }
