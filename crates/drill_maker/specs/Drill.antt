-- The script of a drill, line by line.
use Rattle.std.specs.Prelude.{ℕ, ◌+◌, ◌-◌, ◌/◌, ◌%◌, List, [], ◌∷◌, ◌++◌, length, map, Option, None}
use Rattle.std.specs.List.{flat_map, range_with_len}
use Rattle.engine_config.specs.declared.config.Config.{Config}
use Rattle.engine_config.specs.declared.config.DialTo.{DialTo}
use Rattle.gate_io.specs.declared.wires.TheConstants.{MOST_DIALLED}
use Rattle.lease_core.specs.declared.limits.TheConstants.{MOST_LEASES}
use Rattle.lease_words.specs.declared.layout.TheConstants.{LANE_SLOTS}
use Rattle.script_text.specs.declared.limits.TheConstants.{MOST_COUNT}
use Rattle.script_text.specs.declared.steps.LibStep.TheVariants as act
use Rattle.script_text.specs.declared.steps.Script.{Script}
use Rattle.script_text.specs.declared.steps.Step.{Step}
use Rattle.script_text.specs.declared.steps.Step.TheVariants as step
use Rattle.session_core.specs.declared.names.Names.{Names}
use Rattle.drill_maker.specs.declared.limits.TheConstants.{COUNTERPARTIES, HOLD, LIBRARIES, MOMENT, TIMEOUT}
use Rattle.drill_maker.specs.Bodies.{answer_of, counterparty, gateway, logon_of, order_of}

-- steps for each of so many numbers from the first on, in order
abbrev pub for_each : ℕ → ℕ → (ℕ → List Step) → List Step
for_each first count made = flat_map made (range_with_len first count)

-- the same for each counterparty, from 0, and for each library, from 1
abbrev pub for_counterparties : (ℕ → List Step) → List Step
for_counterparties made = for_each 0 COUNTERPARTIES made

abbrev pub for_libraries : (ℕ → List Step) → List Step
for_libraries made = for_each 1 LIBRARIES made

-- from which position on a library asks for messages in a round: the later half of them
abbrev pub asked_from : ℕ → ℕ
asked_from round = round / 2

-- for which session it asks
abbrev pub asked_session : ℕ → ℕ → ℕ
asked_session round library = (round + library) % COUNTERPARTIES

abbrev pub connect_steps : ℕ → List Step
connect_steps c = step.Connect ∷ []

abbrev pub logon_steps : ℕ → List Step
logon_steps c = step.Frame c (logon_of c) ∷ []

-- a turn for each connection, which accepts it
abbrev pub turn_steps : ℕ → List Step
turn_steps c = step.Turn ∷ []

abbrev pub finish_steps : ℕ → List Step
finish_steps c = step.Finish c ∷ []

abbrev pub request_steps : ℕ → ℕ → List Step
request_steps round library = step.Lib library (act.Request (asked_session round library) (asked_from round)) ∷ []

abbrev pub order_steps : ℕ → ℕ → List Step
order_steps round c = step.Frame c (order_of c round) ∷ []

abbrev pub poll_steps : ℕ → ℕ → List Step
poll_steps library k = step.Lib library act.Poll ∷ []

-- how often a library polls: once for the grant, and once for each message from the one asked for to that of the round
abbrev pub poll_count : ℕ → ℕ
poll_count round = round - asked_from round + 2

-- a library reads, answers and gives the session back
unfoldable pub work_steps : ℕ → ℕ → List Step
work_steps round library =
    for_each 0 (poll_count round) (poll_steps library)
    ++ step.Lib library (act.Send (asked_session round library) (answer_of round))
    ∷ step.Lib library (act.Release (asked_session round library)) ∷ []

-- a round: the libraries ask, the counterparties send, the libraries work, with a turn behind each
unfoldable pub round_steps : ℕ → List Step
round_steps round =
    for_libraries (request_steps round) ++ step.Turn ∷ []
    ++ for_counterparties (order_steps round) ++ step.Turn ∷ []
    ++ for_libraries (work_steps round) ++ step.Turn ∷ []

-- all steps of n rounds
unfoldable pub steps_of : ℕ → List Step
steps_of n =
    step.At MOMENT ∷ for_counterparties connect_steps
    ++ for_counterparties logon_steps
    ++ for_counterparties turn_steps
    ++ for_each 0 n round_steps
    ++ for_counterparties finish_steps
    ++ step.Turn ∷ []

abbrev pub names_of : ℕ → Names
names_of c = record { us = gateway; them = counterparty c }

abbrev pub accepts : ℕ → Option DialTo
accepts c = None

-- Eight sessions and four libraries; all else is as in a script that doesn't say it.
unfoldable pub config_of_drills : Config
config_of_drills = record {
  names = map names_of (range_with_len 0 COUNTERPARTIES);
  libraries = LIBRARIES;
  connections = COUNTERPARTIES;
  lane = LANE_SLOTS;
  leases = MOST_LEASES;
  sends = MOST_COUNT;
  asks = MOST_COUNT;
  timeout = TIMEOUT;
  hold = HOLD;
  dialled = map accepts (range_with_len 0 COUNTERPARTIES);
  dials = MOST_DIALLED;
}

-- The sessions have the first lines, the libraries the next, and the steps those behind it.
abbrev pub first_step_line : ℕ
first_step_line = COUNTERPARTIES + 2

unfoldable pub drill_of : ℕ → Script
drill_of n = record {
  config = config_of_drills;
  steps = steps_of n;
  session_lines = range_with_len 1 COUNTERPARTIES;
  step_lines = range_with_len first_step_line (length (steps_of n));
}
