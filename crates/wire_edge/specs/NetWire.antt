use Rattle.std.specs.Prelude.{◌≡◌, ℕ, ◌-◌, Bool, false, nat_le, List, [], ◌∷◌, ◌++◌, None, length, slice_index_or, slice_set, if◌then◌else◌}
use Rattle.gate_io.specs.Counts.{one_more}
use Rattle.gate_io.specs.Wire.{Link, Door}
use Rattle.gate_io.specs.declared.wires.TheConstants.{FIRST_DIALLED}
use Rattle.gate_io.specs.declared.wires.WireGot.{WireGot}
use Rattle.gate_io.specs.declared.wires.WireGot.TheVariants as got
use Rattle.gate_io.specs.declared.wires.WireWrote.{WireWrote}
use Rattle.gate_io.specs.declared.wires.WireWrote.TheVariants as wrote
use Rattle.gate_io.specs.declared.wires.Accepted.{Accepted}
use Rattle.gate_io.specs.declared.wires.Accepted.TheVariants as accept
use Rattle.gate_io.specs.declared.wires.Listened.{Listened}
use Rattle.gate_io.specs.declared.wires.Listened.TheVariants as listen
use Rattle.gate_io.specs.declared.dials.Dialled.{Dialled}
use Rattle.gate_io.specs.declared.dials.Dialled.TheVariants as dial

-- a connection over TCP: whether it is closed, and how often each of its answers came but bytes
pub record NetLink : Type 0 where
  pub closed : Bool
  pub read_faults : ℕ
  pub read_blocks : ℕ
  pub ends : ℕ
  pub write_faults : ℕ
  pub write_blocks : ℕ

-- What a wire over TCP keeps: its connections, in the order in which they were accepted, or dialled, and how often a
-- listen, an accept or a dial failed, and an accept found no connection.
pub record NetState : Type 0 where
  pub accepted : List NetLink
  pub dialled : List NetLink
  pub listen_faults : ℕ
  pub accept_faults : ℕ
  pub dial_faults : ℕ
  pub idle_accepts : ℕ

-- a connection that begins
abbrev pub new_link : NetLink
new_link = record { closed = false; read_faults = 0; read_blocks = 0; ends = 0; write_faults = 0; write_blocks = 0 }

-- what a connection over TCP tells: nothing of its bytes, nor of what it answers next
abbrev pub shown : NetLink → Link
shown l = record { left = None; written = None; closed = l.closed; read_faults = l.read_faults; read_blocks = l.read_blocks; ends = l.ends; write_faults = l.write_faults; write_blocks = l.write_blocks; plan = None }

-- a wire that wasn't asked for anything
abbrev pub new_wire : NetState
new_wire = record { accepted = []; dialled = []; listen_faults = 0; accept_faults = 0; dial_faults = 0; idle_accepts = 0 }

-- the connection behind a read with that answer: that is counted, unless it is bytes
abbrev pub link_after_read : NetLink → WireGot → NetLink
link_after_read l (got.Bytes n) = l
link_after_read l got.End = record l { ends = one_more l.ends }
link_after_read l got.Blocked = record l { read_blocks = one_more l.read_blocks }
link_after_read l got.Failed = record l { read_faults = one_more l.read_faults }

-- the connection behind a write with that answer
abbrev pub link_after_write : NetLink → WireWrote → NetLink
link_after_write l (wrote.Bytes n) = l
link_after_write l wrote.Blocked = record l { write_blocks = one_more l.write_blocks }
link_after_write l wrote.Failed = record l { write_faults = one_more l.write_faults }

-- whether a number is one of those of dialled connections
abbrev pub is_of_dial : ℕ → Bool
is_of_dial c = nat_le FIRST_DIALLED c

-- connection c, as a new one where there is none
abbrev pub state_at : NetState → ℕ → NetLink
state_at w c = if is_of_dial c then slice_index_or w.dialled (c - FIRST_DIALLED) new_link else slice_index_or w.accepted c new_link

-- the wire with another state of connection c
abbrev pub with_link : NetState → ℕ → NetLink → NetState
with_link w c l = if is_of_dial c then record w { dialled = slice_set w.dialled (c - FIRST_DIALLED) l } else record w { accepted = slice_set w.accepted c l }

-- connection c is in this state behind a call, and nothing else changed
pub record ChangesLink (old : NetState) (c : ℕ) (link : NetLink) (new : NetState) : Type 0 where
  pub changed : state_at new c ≡ link
  pub whole : new ≡ with_link old c link

-- what a wire over TCP tells of connection c
abbrev pub link_at : NetState → ℕ → Link
link_at w c = shown (state_at w c)

-- what it tells beside its connections
abbrev pub door_of : NetState → Door
door_of w = record { accepted = length w.accepted; dialled = length w.dialled; listen_faults = w.listen_faults; accept_faults = w.accept_faults; dial_faults = w.dial_faults; idle_accepts = w.idle_accepts; plan = None }

-- the wire behind a listen with that answer
abbrev pub wire_after_listen : NetState → Listened → NetState
wire_after_listen w listen.Failed = record w { listen_faults = one_more w.listen_faults }
wire_after_listen w _ = w

-- the wire behind an accept with that answer: a connection has the number of those that were accepted before it
abbrev pub wire_after_accept : NetState → Accepted → NetState
wire_after_accept w (accept.New c) = record w { accepted = w.accepted ++ new_link ∷ [] }
wire_after_accept w accept.Nothing = record w { idle_accepts = one_more w.idle_accepts }
wire_after_accept w accept.Failed = record w { accept_faults = one_more w.accept_faults }

-- the wire behind a dial with that answer
abbrev pub wire_after_dial : NetState → Dialled → NetState
wire_after_dial w (dial.New c) = record w { dialled = w.dialled ++ new_link ∷ [] }
wire_after_dial w dial.Failed = record w { dial_faults = one_more w.dial_faults }
