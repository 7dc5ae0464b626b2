-- What the lines read so far say.
use Rattle.std.specs.Prelude.{ℕ, ◌+◌, ◌<◌, nat_lt, Bool, if◌then◌else◌, List, [], ◌∷◌, ◌++◌}
use Rattle.engine_config.specs.declared.config.Config.{Config}
use Rattle.gate_io.specs.declared.wires.TheConstants.{FIRST_DIALLED, MOST_DIALLED}
use Rattle.lease_core.specs.declared.limits.TheConstants.{MOST_LEASES}
use Rattle.lease_words.specs.declared.layout.TheConstants.{LANE_SLOTS}
use Rattle.script_text.specs.declared.limits.TheConstants.{MOST_COUNT, USUAL_HOLD, USUAL_TIMEOUT}
use Rattle.script_text.specs.declared.lines.Line.{Line}
use Rattle.script_text.specs.declared.lines.Line.TheVariants as line
use Rattle.script_text.specs.declared.lines.Setting.{Setting}
use Rattle.script_text.specs.declared.lines.Setting.TheVariants as setting
use Rattle.script_text.specs.declared.numbers.NextNumbers.{NextNumbers}
use Rattle.script_text.specs.declared.steps.Script.{Script}
use Rattle.script_text.specs.declared.steps.Step.{Step}
use Rattle.script_text.specs.declared.steps.Step.TheVariants as step

-- the script so far, the numbers that its next connections get, and the present moment
pub record SoFar : Type 0 where
  pub script : Script
  pub next : NextNumbers
  pub moment : ℕ

-- before the first line: those that come are numbered from 0, those that are dialled behind all that can come
abbrev pub first_numbers : NextNumbers
first_numbers = record { connect = 0; take = FIRST_DIALLED }

-- the connection of this number is made
abbrev pub is_made : NextNumbers → ℕ → Bool
is_made next c = if nat_lt c FIRST_DIALLED then nat_lt c next.connect else nat_lt c next.take

-- the configuration without a line
abbrev pub no_config : Config
no_config = record {
  names = [];
  libraries = 0;
  connections = 0;
  lane = LANE_SLOTS;
  leases = MOST_LEASES;
  sends = MOST_COUNT;
  asks = MOST_COUNT;
  timeout = USUAL_TIMEOUT;
  hold = USUAL_HOLD;
  dialled = [];
  dials = 0;
}

-- before the first line
abbrev pub no_lines : SoFar
no_lines = record {
  script = record { config = no_config; steps = []; session_lines = []; step_lines = [] };
  next = first_numbers;
  moment = 0;
}

-- the configuration with one more setting
abbrev pub config_with : Setting → Config → Config
config_with (setting.Session names to) config = record config { names = config.names ++ names ∷ []; dialled = config.dialled ++ to ∷ [] }
config_with (setting.Libraries n) config = record config { libraries = n }
config_with (setting.Connections n) config = record config { connections = n }
config_with (setting.Dials n) config = record config { dials = n }
config_with (setting.Lane n) config = record config { lane = n }
config_with (setting.Leases n) config = record config { leases = n }
config_with (setting.Sends n) config = record config { sends = n }
config_with (setting.Asks n) config = record config { asks = n }
config_with (setting.Timeout n) config = record config { timeout = n }
config_with (setting.Hold n) config = record config { hold = n }

-- the lines of the sessions, where a setting stands on line n
abbrev pub session_lines_with : ℕ → Setting → List ℕ → List ℕ
session_lines_with n (setting.Session names to) numbers = numbers ++ n ∷ []
session_lines_with n _ numbers = numbers

-- the next numbers behind a step
abbrev pub numbers_with : Step → NextNumbers → NextNumbers
numbers_with step.Connect next = record next { connect = next.connect + 1 }
numbers_with step.Take next = record next { take = next.take + 1 }
numbers_with _ next = next

-- the present moment behind a step
abbrev pub moment_with : Step → ℕ → ℕ
moment_with (step.At now) before = now
moment_with _ before = before

-- what is said with one more setting, which stands on line n
abbrev pub setting_with : ℕ → Setting → SoFar → SoFar
setting_with n what said =
    record said {
      script = record said.script {
        config = config_with what said.script.config;
        session_lines = session_lines_with n what said.script.session_lines;
      };
    }

-- what is said with one more step, which stands on line n
abbrev pub step_with : ℕ → Step → SoFar → SoFar
step_with n what said = record {
  script = record said.script { steps = said.script.steps ++ what ∷ []; step_lines = said.script.step_lines ++ n ∷ [] };
  next = numbers_with what said.next;
  moment = moment_with what said.moment;
}

-- what is said with one more line, which has the number n
unfoldable pub said_with : ℕ → Line → SoFar → SoFar
said_with n line.Blank said = said
said_with n (line.Config what) said = setting_with n what said
said_with n (line.Step what) said = step_with n what said

-- a replay has a connection for each `connect` line, and may dial as often as can be
abbrev pub replay_with : ℕ → Config → Config
replay_with connects config = record config { connections = connects; dials = MOST_DIALLED }

-- the script of all lines
abbrev pub script_said : Bool → SoFar → Script
script_said serving said =
    if serving then said.script else record said.script { config = replay_with said.next.connect said.script.config }

-- each line before line n made one connection at most
pub record MadeBefore (n : ℕ) (next : NextNumbers) : Type 0 where
  pub comes : next.connect < n
  pub dialled : next.take < FIRST_DIALLED + n
