-- When a run is over.
use Rattle.std.specs.Prelude.{◌≡◌, ◌≢◌, ℕ, ◌<◌, ◌≤◌, Bool, true, false, ◌||◌, List, [], ◌∷◌, length, Option, Some, None, slice_get, slice_index_or}
use Rattle.engine_loop.specs.declared.engine.Engine.{Engine}
use Rattle.engine_loop.specs.declared.records.Turn.{Turn}
use Rattle.library_desk.specs.declared.serving.LibTurn.{LibTurn}
use Rattle.library_desk.specs.declared.serving.LibTurn.TheVariants.{NoRoom, NoCommand, Answered, Ended}
use Rattle.serve_run.specs.declared.awaited.Awaited.{Awaited}
use Rattle.switchboard.specs.Board.{connection_at}

-- a library said that it asks nothing more
abbrev pub is_ended : Option LibTurn → Bool
is_ended None = false
is_ended (Some (NoRoom pushed taken)) = false
is_ended (Some NoCommand) = false
is_ended (Some (Answered nr)) = false
is_ended (Some (Ended finished)) = true

abbrev pub or_ended : Bool → Option LibTurn → Bool
or_ended said turn = said || is_ended turn

-- the library at a place said so in one of these turns
abbrev pub has_said : List Turn → ℕ → Bool
has_said [] place = false
has_said (turn ∷ turns) place = is_ended (slice_get turn.libs place) || has_said turns place

-- so many libraries, from the first on, said so
abbrev pub AllHaveSaid : ℕ → List Turn → Type 0
AllHaveSaid libraries turns = (place : ℕ) → place < libraries → has_said turns place ≡ true

-- each connection that came has ended
abbrev pub HaveEnded : Engine → Type 0
HaveEnded e = (k : ℕ) → k < length e.sessions.desk.board.connections → (connection_at e.sessions.desk.board k).cause ≢ None

-- A run is over: so many connections came, each has ended, and so many libraries said that they ask nothing more.
pub record IsOver (connections libraries : ℕ) (e : Engine) (turns : List Turn) : Type 0 where
  pub came : length e.sessions.desk.board.connections ≡ connections
  pub ended : HaveEnded e
  pub said : AllHaveSaid libraries turns

-- as the code keeps it: what is waited for, and who said so in these turns
pub record Awaits (connections libraries : ℕ) (turns : List Turn) (awaited : Awaited) : Type 0 where
  pub connections_are : awaited.connections ≡ connections
  pub libraries_are : awaited.libraries ≡ libraries
  pub few : libraries ≤ 16
  pub places : length awaited.said ≡ 16
  pub said : (place : ℕ) → place < 16 → slice_index_or awaited.said place false ≡ has_said turns place
