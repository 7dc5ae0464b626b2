-- What holds of every configuration.
use Rattle.std.specs.Prelude.{◌≡◌, ℕ, ◌≤◌, ◌<◌, [], List, length, slice_index_or, Option, None, IfSome}
use Rattle.engine_config.specs.declared.config.Config.{Config}
use Rattle.engine_config.specs.declared.config.DialTo.{DialTo}
use Rattle.engine_config.specs.declared.config.TheConstants.{MOST_HOLD, MOST_TIMEOUT, MOST_WAIT}
use Rattle.fix_fields.specs.declared.limits.TheConstants.{LONGEST_NAME}
use Rattle.gate_io.specs.declared.wires.TheConstants.{MOST_CONNECTIONS, MOST_DIALLED}
use Rattle.lease_core.specs.declared.limits.TheConstants.{MOST_LEASES, MOST_LIBRARIES}
use Rattle.lease_words.specs.declared.layout.TheConstants.{LANE_SLOTS}
use Rattle.session_core.specs.State.{IsDialHeart}
use Rattle.session_core.specs.declared.names.Names.{Names}
use Rattle.session_core.specs.declared.routing.TheConstants.{MOST_SESSIONS}

-- from the one to the other
pub record IsWithin (least most n : ℕ) : Type 0 where
  pub from_least : least ≤ n
  pub to_most : n ≤ most

abbrev pub IsName : List ℕ → Type 0
IsName name = IsWithin 1 LONGEST_NAME (length name)

pub record AreNames (names : Names) : Type 0 where
  pub us : IsName names.us
  pub them : IsName names.them

-- to where a session dials, and with what
pub record IsDial (dial : DialTo) : Type 0 where
  pub heart : IsDialHeart dial.heart
  pub wait : IsWithin 1 MOST_WAIT dial.wait

-- what stands for the names of a session that isn't there
abbrev pub no_names : Names
no_names = record { us = []; them = [] }

abbrev pub names_of : Config → ℕ → Names
names_of config s = slice_index_or config.names s no_names

-- to where a session dials, if it does
abbrev pub dial_of : Config → ℕ → Option DialTo
dial_of config s = slice_index_or config.dialled s None

-- each field within its limits, as `Config` tells them
pub record IsConfig (config : Config) : Type 0 where
  pub sessions : length config.names ≤ MOST_SESSIONS
  pub names : (s : ℕ) → s < length config.names → AreNames (names_of config s)
  pub different : (s t : ℕ) → s < length config.names → t < length config.names → names_of config s ≡ names_of config t → s ≡ t
  pub libraries : config.libraries ≤ MOST_LIBRARIES
  pub connections : config.connections ≤ MOST_CONNECTIONS
  pub lane : IsWithin 1 LANE_SLOTS config.lane
  pub leases : IsWithin 1 MOST_LEASES config.leases
  pub sends : 1 ≤ config.sends
  pub asks : 1 ≤ config.asks
  pub timeout : IsWithin 1 MOST_TIMEOUT config.timeout
  pub hold : IsWithin 1 MOST_HOLD config.hold
  pub dialled : length config.dialled ≡ length config.names
  pub each_dial : (s : ℕ) → s < length config.names → IfSome (dial_of config s) IsDial
  pub dials : config.dials ≤ MOST_DIALLED
