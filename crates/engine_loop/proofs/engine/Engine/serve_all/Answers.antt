use Rattle.std.proofs.Common.{◌≡◌, [], ◌∷◌, ◌++◌, inl, inr, add-one, refl, ap, ◌∙◌, arith}
use Rattle.std.specs.Prelude.{if◌then◌else◌}
use Rattle.std.specs.Result.{is_ok}
use Rattle.engine_loop.specs.Turns.{serving_of}
use Rattle.engine_loop.specs.Stops.{StopsServingAll}
use Rattle.engine_loop.proofs.Stopped.{nothing_told, on_err}
use Rattle.engine_loop.proofs.engine.Engine.serve_all.Goals as goal

pub loop-i-preserved : goal.loop-i-preserved
loop-i-preserved c =
    let was = c.loop-i.invariant in
    let now = c.in_ok-turn.ensures in
    let before = c.loop-i.turns.items in
    let told : c.push.new.self.items ≡ before ++ c.in_ok-turn.turn ∷ [] =
    c.push.ensures.items ∙ ap (λ r. if is_ok r then before ++ c.in_ok-turn.turn ∷ [] else before) c.in_ok-push.was in
    record {
      turn = rw add-one (serving_of c.loop-i.self c.loop-i.turns.items, was.turn, record { turn = c.in_ok-turn.turn; serves = now.serves; told = told; rest = c.serve_library.ensures.rest });
      work = now.work;
      owners = now.owners;
      online = λ door links at_first. now.online door links (was.online door links at_first);
      libraries = c.serve_library.ensures.libraries ∙ was.libraries;
      room = c.serve_library.ensures.room;
      failed = c.serve_library.ensures.failed ∙ was.failed;
      counted = (let one = c.in_ok-push.ensures.len in let before = was.counted in omega arith);
      spare = (let more = c.push.ensures.capacity in let before = was.spare in omega arith);
    }

pub returns-in_err-turns-clause-stops : goal.returns-in_err-turns-clause-stops
returns-in_err-turns-clause-stops c =
    let stops : StopsServingAll c.args.self.now c.args.self.now = record {
      count = 0;
      between = serving_of c.args.self.now [];
      serves = refl;
      stops = inl (nothing_told c.args.self.now.sessions.desk.board);
    } in
    on_err c.from_residual.result stops

pub returns-in_err-turn-clause-stops : goal.returns-in_err-turn-clause-stops
returns-in_err-turn-clause-stops c =
    let stops : StopsServingAll c.args.self.now c.serve_library.new.self = record {
      count = c.loop-i.i;
      between = serving_of c.loop-i.self c.loop-i.turns.items;
      serves = c.loop-i.invariant.turn;
      stops = inr c.in_err-turn.ensures.stops;
    } in
    on_err c.from_residual-in_err-turn.result stops

-- there is room for what became of each library's command
pub returns-in_err-push-clause-stops : goal.returns-in_err-push-clause-stops
returns-in_err-push-clause-stops c =
    let full = c.in_err-push.ensures.full in
    let counted = c.loop-i.invariant.counted in
    let spare = c.loop-i.invariant.spare in
    let more = c.loop-i-test.true in
    absurd (omega arith)
