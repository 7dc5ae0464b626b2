use Rattle.std.proofs.Common.{◌≡◌, ◌⊎◌, inl, ℕ, List, [], length, add-one, refl, ap, subst, ◌∙◌, arith}
use Rattle.std.specs.Prelude.{slice_index_or}
use Rattle.lease_desk.specs.Desk.{InTurn}
use Rattle.wire_desk.specs.Places.{open_places}
use Rattle.wire_desk.specs.Steps.{sessions_of}
use Rattle.wire_desk.specs.Stops.{StopsReading}
use Rattle.engine_loop.specs.Engines.{until_of}
use Rattle.engine_loop.specs.Turns.{ReadsIfStands, reading_of}
use Rattle.engine_loop.specs.Stops.{StopsReadingAll, TellsNothing}
use Rattle.engine_loop.proofs.Stopped.{nothing_told, on_err}
use Rattle.engine_loop.proofs.engine.Engine.read_all.Goals as goal

pub loop-i-preserved : goal.loop-i-preserved
loop-i-preserved g c =
    let was = c.loop-i.invariant in
    let now = c.in_ok-read_place.ensures in
    let old = reading_of c.loop-i.self (g.W.Wire.link c.loop-i.wire) c.loop-i.got.items in
    let new = reading_of c.read_place.new.self (g.W.Wire.link c.read_place.new.wire) c.read_place.new.got.items in
    record {
      turn = rw add-one (old, was.turn, subst (λ n. ReadsIfStands n old new) (c.open_place-k.ensures ∙ ap (λ (places : List ℕ). slice_index_or places c.loop-i.i 0) was.places) now.reads);
      work = now.work;
      online = now.online;
      places = c.read_place.ensures.places ∙ was.places;
      door = c.read_place.ensures.door ∙ was.door;
      room = c.read_place.ensures.room;
      failed = c.read_place.ensures.failed ∙ was.failed;
    }

pub returns-clause-reads : goal.returns-clause-reads
returns-clause-reads g c =
    let places = open_places c.args.self.now.lines in
    let start = reading_of c.args.self.now (g.W.Wire.link c.args.wire.now) [] in
    let last = reading_of c.loop-i.self (g.W.Wire.link c.loop-i.wire) c.loop-i.got.items in
    let all : c.loop-i.i ≡ length places = (let least = c.loop-i-test.false in let most = c.loop-i.auto.i-end in let count = c.open_count-count.ensures in omega arith) in
    subst (λ n. InTurn (λ i. ReadsIfStands (slice_index_or places i 0)) n start last) all c.loop-i.invariant.turn

pub returns-in_err-got-clause-stops : goal.returns-in_err-got-clause-stops
returns-in_err-got-clause-stops g c =
    let link = g.W.Wire.link c.args.wire.now in
    let stops : StopsReadingAll c.args.self.now link c.args.self.now = record {
      count = 0;
      between = reading_of c.args.self.now link [];
      reads = refl;
      stops = inl (nothing_told c.args.self.now.sessions.desk.board);
    } in
    on_err c.from_residual.result stops

pub returns-in_err-read_place-clause-stops : goal.returns-in_err-read_place-clause-stops
returns-in_err-read_place-clause-stops g c =
    let link = g.W.Wire.link in
    let e = c.loop-i.self in
    let new = c.read_place.new.self in
    let place = c.open_place-k.ensures ∙ ap (λ (places : List ℕ). slice_index_or places c.loop-i.i 0) c.loop-i.invariant.places in
    let stops : StopsReadingAll c.args.self.now (link c.args.wire.now) new = record {
      count = c.loop-i.i;
      between = reading_of e (link c.loop-i.wire) c.loop-i.got.items;
      reads = c.loop-i.invariant.turn;
      stops = subst (λ k. TellsNothing e new ⊎ StopsReading e.lines.routes k e.moment (until_of e) (sessions_of e.sessions.desk e.lines.unkept.items) new.sessions.desk) place c.in_err-read_place.ensures.stops;
    } in
    on_err c.from_residual-in_err-read_place.result stops
