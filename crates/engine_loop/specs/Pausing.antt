-- A turn, behind which the wire may wait.
use Rattle.std.specs.Prelude.{◌≡◌, ℕ, ◌==◌, ◌&&◌, Bool, true, false, not}
use Rattle.std.specs.List.{list_any}
use Rattle.engine_loop.specs.Turns.{AtWire, MakesTurn}
use Rattle.engine_loop.specs.declared.records.Turn.{Turn}
use Rattle.gate_io.specs.declared.wires.Accepted.{Accepted}
use Rattle.gate_io.specs.declared.wires.Accepted.TheVariants as accepts
use Rattle.gate_io.specs.declared.wires.WireGot.{WireGot}
use Rattle.gate_io.specs.declared.wires.WireGot.TheVariants as gots
use Rattle.library_desk.specs.declared.serving.LibTurn.{LibTurn}
use Rattle.library_desk.specs.declared.serving.LibTurn.TheVariants as libs

-- a connection was accepted
abbrev pub is_new : Accepted → Bool
is_new (accepts.New c) = true
is_new accepts.Nothing = false
is_new accepts.Failed = false

-- bytes were read
abbrev pub has_bytes : ℕ × WireGot → Bool
has_bytes (c, gots.Bytes n) = true
has_bytes (c, gots.End) = false
has_bytes (c, gots.Blocked) = false
has_bytes (c, gots.Failed) = false

-- a request was answered
abbrev pub is_answer : LibTurn → Bool
is_answer (libs.NoRoom pushed taken) = false
is_answer libs.NoCommand = false
is_answer (libs.Answered nr) = true
is_answer (libs.Ended finished) = false

-- no connection was accepted, no byte read or written, and no request answered
abbrev pub is_idle : Turn → Bool
is_idle turn = not (is_new turn.accepted) && ((turn.written == 0) && (not (list_any has_bytes turn.reads) && not (list_any is_answer turn.libs)))

-- A turn, behind which the wire may wait: the engine, and what the wire tells, stay.
pub record MakesAndWaits (reading : ℕ) (turn : Turn) (old new : AtWire) : Type 0 where
  pub made : AtWire
  pub makes : MakesTurn reading old made turn
  pub engine : new.engine ≡ made.engine
  pub door : new.door ≡ made.door
  pub links : (c : ℕ) → new.links c ≡ made.links c
