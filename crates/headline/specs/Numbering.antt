-- Connections are numbered in the order in which they come.
use Rattle.std.specs.Prelude.{◌≡◌, ℕ, false, true, List, map}
use Rattle.std.specs.List.{All}
use Rattle.connection_core.specs.Connection.{ConnectionState}
use Rattle.engine_end.specs.Records.{accepted_of, dialled_of}
use Rattle.gate_io.specs.declared.wires.TheConstants.{FIRST_DIALLED}
use Rattle.library_api.specs.Reads.{numbers_from}
use Rattle.script_run.specs.declared.run.Run.{Run}

-- the numbers of connections
abbrev pub numbers_of : List ConnectionState → List ℕ
numbers_of connections = map (λ c. c.number) connections

-- an accepted connection counts as answered
abbrev pub CountsAsAnswered : ConnectionState → Type 0
CountsAsAnswered c = c.dialled ≡ false → c.answered ≡ true

-- So many connections were accepted and so many dialled. The accepted ones are numbered 0, 1 and so on in the order in which they came, and the dialled ones so
-- from the first dialled number on.
pub record AreInOrder (accepted dialled : ℕ) (connections : List ConnectionState) : Type 0 where
  pub accepted_are : numbers_of (accepted_of connections) ≡ numbers_from 0 accepted
  pub dialled_are : numbers_of (dialled_of connections) ≡ numbers_from FIRST_DIALLED dialled
  pub answered : All CountsAsAnswered connections

-- Those of a run are, and as many were accepted and dialled as the wire gave.
pub record IsInOrder (run : Run) : Type 0 where
  pub counted : run.engine.accepted ≡ run.wire.accepted
  pub connections : AreInOrder run.wire.accepted run.wire.dialled run.engine.sessions.desk.board.connections
