use Rattle.std.proofs.Common.{◌≡◌, []}
use Rattle.std.specs.Prelude.{slice_index_or}
use Rattle.lease_desk.specs.Desk.{InTurn}
use Rattle.wire_desk.specs.Places.{open_places}
use Rattle.engine_end.specs.Room.{HasRoomFor}
use Rattle.engine_loop.specs.Engines.{IsAtWork, IsOnline}
use Rattle.engine_loop.specs.Turns.{ReadsIfStands, reading_of}
use Rattle.engine_loop.proofs.engine.Engine.read_all.Given as goal

abbrev pub invariant-loop-i : goal.invariant-loop-i
invariant-loop-i g l = record {
  turn : InTurn (λ i. ReadsIfStands (slice_index_or (open_places l.initial.self.lines) i 0)) l.i (reading_of l.initial.self (g.W.Wire.link l.initial.wire) []) (reading_of l.self (g.W.Wire.link l.wire) l.got.items);
  work : IsAtWork l.shared l.self;
  online : IsOnline l.self (g.W.Wire.door l.wire) (g.W.Wire.link l.wire);
  places : open_places l.self.lines ≡ open_places l.initial.self.lines;
  door : g.W.Wire.door l.wire ≡ g.W.Wire.door l.initial.wire;
  room : HasRoomFor l.self.sessions.desk.board l.self.spare;
  failed : l.self.failed ≡ l.initial.self.failed;
}
