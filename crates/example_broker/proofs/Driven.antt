-- Turns of the engine.
use Rattle.std.proofs.Common.{ℕ, Result, Ok, Err}
use Rattle.std.specs.Prelude.{IfOk, OnErr}
use Rattle.engine_loop.specs.Pausing.{MakesAndWaits}
use Rattle.engine_loop.specs.Turns.{AtWire}
use Rattle.engine_loop.specs.declared.records.Turn.{Turn}
use Rattle.example_broker.specs.Turns.{Drives}
use Rattle.example_broker.proofs.Moves.{repeats_more}

-- one more
pub drives_more : (old mid new : AtWire) (reading : ℕ) (turn : Turn) → Drives old mid → MakesAndWaits reading turn mid new → Drives old new
drives_more old mid new reading turn was makes = repeats_more _ old mid new was (reading, turn, makes)

-- what holds where memory was wanting
pub on_err : {T E P : Type 0} (r : Result T E) → P → OnErr r P
on_err (Ok x) holds = tt
on_err (Err e) holds = holds

-- what holds of each value holds of an answer that has one
pub if_ok : {T E : Type 0} (P Q : T → Type 0) (r : Result T E) → ((x : T) → P x → Q x) → IfOk r P → IfOk r Q
if_ok P Q (Ok x) holds was = holds x was
if_ok P Q (Err e) holds was = was
