-- How an outbound log grows: at its end, by entries and series, and in no other way.
use Rattle.std.specs.Prelude.{◌≡◌, List, [], ◌∷◌, ◌++◌}
use Rattle.message_log.specs.declared.entry.OutEntry.{OutEntry}
use Rattle.message_log.specs.Series.{with_entry}

-- what a log gains by one call: an entry of the present series, or the next series
pub data Gain : Type 0 where
  an_entry : OutEntry → Gain
  a_series : Gain

-- the log with one gain more
abbrev pub with_gain : List (List OutEntry) → Gain → List (List OutEntry)
with_gain log (an_entry entry) = with_entry log entry
with_gain log a_series = log ++ [] ∷ []

-- the log after some gains, in order
abbrev pub log_after : List (List OutEntry) → List Gain → List (List OutEntry)
log_after log [] = log
log_after log (gain ∷ gains) = log_after (with_gain log gain) gains

-- the later log goes on from the earlier one by pushes and turn-overs
pub record GoesOn (earlier later : List (List OutEntry)) : Type 0 where
  pub gains : List Gain
  pub grown : later ≡ log_after earlier gains
