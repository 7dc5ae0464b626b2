use Rattle.std.specs.Prelude.{◌≡◌, ℕ, ◌+◌, ◌-◌, ◌<◌, ◌≤◌, Bool, false, ◌||◌, nat_le, List, [], ◌++◌, Option, None, Some, length, take, drop, map, max, slice_index_or, slice_set, if◌then◌else◌}
use Rattle.gate_io.specs.Counts.{one_more}
use Rattle.gate_io.specs.Plan.{LinkPlan, DoorPlan, planned_read, planned_write, plan_after_write, planned_accept, planned_dial}
use Rattle.gate_io.specs.Wire.{Link, Door}
use Rattle.gate_io.specs.declared.wires.TheConstants.{FIRST_DIALLED}
use Rattle.gate_io.specs.declared.wires.WireGot.{WireGot}
use Rattle.gate_io.specs.declared.wires.WireGot.TheVariants as got
use Rattle.gate_io.specs.declared.wires.WireWrote.{WireWrote}
use Rattle.gate_io.specs.declared.wires.WireWrote.TheVariants as wrote
use Rattle.gate_io.specs.declared.wires.Accepted.{Accepted}
use Rattle.gate_io.specs.declared.wires.Accepted.TheVariants as accept
use Rattle.gate_io.specs.declared.wires.Listened.{Listened}
use Rattle.gate_io.specs.declared.wires.Listened.TheVariants as listen
use Rattle.gate_io.specs.declared.dials.Dialled.{Dialled}
use Rattle.gate_io.specs.declared.dials.Dialled.TheVariants as dial

-- a connection in memory
pub record LinkState : Type 0 where
  -- the bytes that can still be read, whether the input ends behind them, and whether the next read fails
  pub left : List ℕ
  pub finished : Bool
  pub read_fails : Bool
  -- the bytes that were written, and how many more there is room for
  pub written : List ℕ
  pub room : ℕ
  -- how many more bytes are written before a write fails, and before writes are blocked, where a script says so
  pub fails_after : Option ℕ
  pub blocks_after : Option ℕ
  pub closed : Bool
  pub read_faults : ℕ
  pub read_blocks : ℕ
  pub ends : ℕ
  pub write_faults : ℕ
  pub write_blocks : ℕ

-- a wire in memory
pub record WireState : Type 0 where
  -- the connections that come of themselves, in their order, and how many of them were accepted
  pub links : List LinkState
  pub accepted : ℕ
  -- the connections of dials, in their order, and how many of them were dialled
  pub taken : List LinkState
  pub dialled : ℕ
  -- whether the next listen, and whether the next accept, fails
  pub listen_fails : Bool
  pub accept_fails : Bool
  pub listen_faults : ℕ
  pub accept_faults : ℕ
  pub dial_faults : ℕ
  pub idle_accepts : ℕ

-- a connection to which nothing was given
abbrev pub new_link : LinkState
new_link = record { left = []; finished = false; read_fails = false; written = []; room = 0; fails_after = None; blocks_after = None; closed = false; read_faults = 0; read_blocks = 0; ends = 0; write_faults = 0; write_blocks = 0 }

-- a wire without connections
abbrev pub new_wire : WireState
new_wire = record { links = []; accepted = 0; taken = []; dialled = 0; listen_fails = false; accept_fails = false; listen_faults = 0; accept_faults = 0; dial_faults = 0; idle_accepts = 0 }

-- bytes behind the end of the input, or of a closed connection, are never read
abbrev pub link_given : LinkState → List ℕ → LinkState
link_given l bytes = if l.finished || l.closed then l else record l { left = l.left ++ bytes }

-- a connection that isn't closed has room for at least so many more written bytes
abbrev pub link_reserved : ℕ → LinkState → LinkState
link_reserved n l = if l.closed then l else record l { room = max l.room n }

-- a connection but for its room
abbrev pub without_room : LinkState → LinkState
without_room l = record l { room = 0 }

-- what a connection in memory answers next, which it tells
abbrev pub link_plan_of : LinkState → LinkPlan
link_plan_of l = record { finished = l.finished; read_fails = l.read_fails; room = l.room; fails_after = l.fails_after; blocks_after = l.blocks_after }

-- what a read into this much room gives: as planned
abbrev pub link_gives : LinkState → ℕ → WireGot
link_gives l room = planned_read (link_plan_of l) l.left room

-- the connection behind a read with that answer: a scripted failure is met once
abbrev pub link_after_read : LinkState → WireGot → LinkState
link_after_read l (got.Bytes n) = record l { left = drop n l.left }
link_after_read l got.End = record l { ends = one_more l.ends }
link_after_read l got.Blocked = record l { read_blocks = one_more l.read_blocks }
link_after_read l got.Failed = record l { read_fails = false; read_faults = one_more l.read_faults }

-- what a write of this many bytes takes: as planned
abbrev pub link_takes : LinkState → ℕ → WireWrote
link_takes l len = planned_write (link_plan_of l) len

-- what a write with that answer leaves of the room and of both scripted places
abbrev pub with_writes_planned : LinkPlan → LinkState → LinkState
with_writes_planned plan l = record l { room = plan.room; fails_after = plan.fails_after; blocks_after = plan.blocks_after }

-- the connection behind a write of the piece with that answer: a scripted failure is met once, a block stays
abbrev pub link_after_write : LinkState → List ℕ → WireWrote → LinkState
link_after_write l piece (wrote.Bytes n) = with_writes_planned (plan_after_write (wrote.Bytes n) (link_plan_of l)) (record l { written = l.written ++ take n piece })
link_after_write l piece wrote.Blocked = record l { write_blocks = one_more l.write_blocks }
link_after_write l piece wrote.Failed = with_writes_planned (plan_after_write wrote.Failed (link_plan_of l)) (record l { write_faults = one_more l.write_faults })

-- what a connection in memory tells
abbrev pub shown : LinkState → Link
shown l = record { left = Some l.left; written = Some l.written; closed = l.closed; read_faults = l.read_faults; read_blocks = l.read_blocks; ends = l.ends; write_faults = l.write_faults; write_blocks = l.write_blocks; plan = Some (link_plan_of l) }

-- whether a number is one of those of dialled connections
abbrev pub is_of_dial : ℕ → Bool
is_of_dial c = nat_le FIRST_DIALLED c

-- connection c, as a new one where it wasn't made
abbrev pub state_at : WireState → ℕ → LinkState
state_at w c = if is_of_dial c then slice_index_or w.taken (c - FIRST_DIALLED) new_link else slice_index_or w.links c new_link

-- the wire with another state of connection c
abbrev pub with_link : WireState → ℕ → LinkState → WireState
with_link w c l = if is_of_dial c then record w { taken = slice_set w.taken (c - FIRST_DIALLED) l } else record w { links = slice_set w.links c l }

-- connection c is in this state behind a call, and nothing else changed
pub record ChangesLink (old : WireState) (c : ℕ) (link : LinkState) (new : WireState) : Type 0 where
  pub changed : state_at new c ≡ link
  pub whole : new ≡ with_link old c link

-- a connection that was made, whether it was accepted or dialled yet or not
pub record IsMade (w : WireState) (c : ℕ) : Type 0 where
  pub comes : c < FIRST_DIALLED → c < length w.links
  pub dials : FIRST_DIALLED ≤ c → c < FIRST_DIALLED + length w.taken

-- what a wire in memory tells of connection c
abbrev pub link_at : WireState → ℕ → Link
link_at w c = shown (state_at w c)

-- what it answers next that is asked for connections
abbrev pub door_plan_of : WireState → DoorPlan
door_plan_of w = record { coming = length w.links; answering = length w.taken; accept_fails = w.accept_fails }

abbrev pub door_of : WireState → Door
door_of w = record { accepted = w.accepted; dialled = w.dialled; listen_faults = w.listen_faults; accept_faults = w.accept_faults; dial_faults = w.dial_faults; idle_accepts = w.idle_accepts; plan = Some (door_plan_of w) }

-- what a listen gives: a scripted failure, else it is ready
abbrev pub wire_listens : WireState → Listened
wire_listens w = if w.listen_fails then listen.Failed else listen.Ready

-- the wire behind a listen with that answer
abbrev pub wire_after_listen : WireState → Listened → WireState
wire_after_listen w listen.Failed = record w { listen_fails = false; listen_faults = one_more w.listen_faults }
wire_after_listen w _ = w

-- what an accept gives: as planned
abbrev pub wire_accepts : WireState → Accepted
wire_accepts w = planned_accept (door_plan_of w) w.accepted

-- the wire behind an accept with that answer
abbrev pub wire_after_accept : WireState → Accepted → WireState
wire_after_accept w (accept.New c) = record w { accepted = w.accepted + 1 }
wire_after_accept w accept.Nothing = record w { idle_accepts = one_more w.idle_accepts }
wire_after_accept w accept.Failed = record w { accept_fails = false; accept_faults = one_more w.accept_faults }

-- what a dial gives: as planned
abbrev pub wire_dials : WireState → Dialled
wire_dials w = planned_dial (door_plan_of w) w.dialled

-- the wire behind a dial with that answer
abbrev pub wire_after_dial : WireState → Dialled → WireState
wire_after_dial w (dial.New c) = record w { dialled = w.dialled + 1 }
wire_after_dial w dial.Failed = record w { dial_faults = one_more w.dial_faults }

-- nothing was written yet to the connections that wait, and none of them is closed
abbrev pub AreFresh : List LinkState → ℕ → Type 0
AreFresh links begun = (c : ℕ) → begun ≤ c → ((slice_index_or links c new_link).closed ≡ false) × ((slice_index_or links c new_link).written ≡ [])

-- some of the connections, of which those up to here were accepted or dialled and the others wait
pub record AreLinks (links : List LinkState) (begun most : ℕ) : Type 0 where
  pub within : begun ≤ length links
  pub few : length links ≤ most
  pub fresh : AreFresh links begun

-- the wire with room for at least so many more written bytes in each connection that isn't closed
abbrev pub wire_reserved : ℕ → WireState → WireState
wire_reserved n w = record w { links = map (link_reserved n) w.links; taken = map (link_reserved n) w.taken }

-- the same but for the room of its connections
abbrev pub SameButRoom : WireState → WireState → Type 0
SameButRoom old new = wire_without_room new ≡ wire_without_room old where
  wire_without_room : WireState → WireState
  wire_without_room w = record w { links = map without_room w.links; taken = map without_room w.taken }
