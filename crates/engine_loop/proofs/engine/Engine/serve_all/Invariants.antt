use Rattle.std.proofs.Common.{◌≡◌, ◌+◌, ◌≤◌, ℕ, [], length, vec_len, vec_capacity}
use Rattle.gate_io.specs.Wire.{Door, Link}
use Rattle.lease_desk.specs.Desk.{InTurn}
use Rattle.library_desk.specs.Owners.{AreOwners}
use Rattle.engine_end.specs.Room.{HasRoomFor}
use Rattle.engine_loop.specs.Engines.{IsAtWork, IsOnline}
use Rattle.engine_loop.specs.Turns.{ServesOne, serving_of}
use Rattle.engine_loop.proofs.engine.Engine.serve_all.Given as goal

abbrev pub invariant-loop-i : goal.invariant-loop-i
invariant-loop-i l = record {
  turn : InTurn (λ i. ServesOne (i + 1)) l.i (serving_of l.initial.self []) (serving_of l.self l.turns.items);
  work : IsAtWork l.shared l.self;
  owners : AreOwners l.self.sessions.desk.board l.owners;
  online : (door : Door) (links : ℕ → Link) → IsOnline l.initial.self door links → IsOnline l.self door links;
  libraries : length l.self.sessions.ends.items ≡ length l.initial.self.sessions.ends.items;
  room : HasRoomFor l.self.sessions.desk.board l.self.spare;
  failed : l.self.failed ≡ l.initial.self.failed;
  counted : vec_len l.turns ≡ l.i;
  spare : vec_len l.initial.self.sessions.ends ≤ vec_capacity l.turns;
}
