-- What an engine begins with beside what its libraries have.
use Rattle.std.specs.Prelude.{◌≡◌, ℕ, ◌+◌, false, List, [], length, map, replicate}
use Rattle.std.specs.List.{filter, range_with_len}
use Rattle.std.specs.Option.{is_none}
use Rattle.connection_core.specs.declared.limits.TheConstants.{MOST_READ}
use Rattle.engine_config.specs.Config.{dial_of, names_of}
use Rattle.engine_config.specs.declared.config.Config.{Config}
use Rattle.engine_end.specs.Room.{Room}
use Rattle.engine_loop.specs.declared.engine.Engine.{Engine}
pub use Rattle.engine_start.specs.Starts.{AreLibraryEnds, StartsDesk, StartsEngine, StartsSessions, StartsTable, configured_book}
use Rattle.library_desk.specs.declared.desk.LibraryDesk.{LibraryDesk}
use Rattle.library_desk.specs.declared.shared.Shared.{Shared}
use Rattle.session_desk.specs.Steps.{nothing_noted}
use Rattle.session_desk.specs.declared.routes.Routes.{Routes}
use Rattle.wire_desk.specs.declared.desk.WireDesk.{WireDesk}
use Rattle.wire_desk.specs.declared.dialling.Dialler.{Dialler}

-- the sessions of an engine, with their leases and libraries
abbrev pub library_desk_of : Engine → LibraryDesk
library_desk_of e = e.sessions

-- and its connections at the wire
abbrev pub wire_desk_of : Engine → WireDesk
wire_desk_of e = e.lines

-- and to where its sessions dial, when next, and how many dials succeeded and may
abbrev pub dialler_of : Engine → Dialler
dialler_of e = e.dialler

-- those of the first sessions that accept, in order
abbrev pub accepting_sessions : Config → ℕ → List ℕ
accepting_sessions config count = filter (λ s. is_none (dial_of config s)) (range_with_len 0 count)

-- Of the first sessions those that accept have a route each, by their names.
pub record StartsRoutes (config : Config) (count : ℕ) (routes : Routes) : Type 0 where
  pub sessions : routes.sessions.items ≡ accepting_sessions config count
  pub names : routes.names.items ≡ map (names_of config) (accepting_sessions config count)

-- There is no connection, and there is room for one read.
pub record HasNoLines (w : WireDesk) : Type 0 where
  pub accepted : w.accepted.items ≡ []
  pub dialled : w.dialled.items ≡ []
  pub buffer : length w.buffer.items ≡ MOST_READ

-- Nor was an entry of a session noted.
pub record StartsLines (config : Config) (w : WireDesk) : Type 0 where
  pub unkept : w.unkept.items ≡ replicate (length config.names) nothing_noted
  pub lines : HasNoLines w

-- Each session that dials may do so at once, and no dial was made.
pub record StartsDials (config : Config) (d : Dialler) : Type 0 where
  pub plans : d.plans.items ≡ config.dialled
  pub next : d.next.items ≡ replicate (length config.dialled) 0
  pub made : d.made ≡ 0
  pub most : d.most ≡ config.dials

-- for the records of each session, and of as many connections as can be accepted and dialled
abbrev pub room_of : Config → Room
room_of config = record { sessions = length config.names; connections = config.connections + config.dials }

-- The limits are those that are configured, no connection was accepted, the moment is this one, there is
-- room for what a run leaves, and memory wasn't wanting.
pub record StartsFigures (config : Config) (at : ℕ) (e : Engine) : Type 0 where
  pub connections : e.connections ≡ config.connections
  pub accepted : e.accepted ≡ 0
  pub hold : e.hold ≡ config.hold
  pub moment : e.moment ≡ at
  pub spare : e.spare ≡ room_of config
  pub failed : e.failed ≡ false

-- an engine as it begins
pub record StartsEngineOf (config : Config) (moment : ℕ) (shared : Shared) (engine : Engine) : Type 0 where
  pub sessions : StartsSessions config (library_desk_of engine).desk.board
  pub table : StartsTable config shared
  pub desk : StartsDesk config moment shared (library_desk_of engine)
  pub ends : StartsEngine config shared (library_desk_of engine).ends.items
  pub routes : StartsRoutes config (length config.names) (wire_desk_of engine).routes
  pub lines : StartsLines config (wire_desk_of engine)
  pub dials : StartsDials config (dialler_of engine)
  pub figures : StartsFigures config moment engine
