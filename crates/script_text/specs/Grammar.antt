-- The grammar: what each line says, or what is wrong with it, behind the lines before it.
--
-- Each part of a line has its own faults, and the fault of the line is the one of them that counts (Kinds).
use Rattle.std.specs.Prelude.{ℕ, ◌+◌, Bool, true, not, ◌&&◌, ◌==◌, nat_lt, if◌then◌else◌, List, [], ◌∷◌, length, Option, Some, None, Result, Ok, Err}
use Rattle.std.specs.List.{list_all, list_any}
use Rattle.std.specs.Str.{bytes_eq}
use Rattle.script_text.specs.Kinds.{◌>>=◌, as_part, demand, both, as_parts}
use Rattle.script_text.specs.Printed.{is_printable}
use Rattle.script_text.specs.Words.{word_in, behind_word, limit_word_of, lib_word_of, opening_of}
use Rattle.script_text.specs.Args.{ends, keyword_at, later, number_at, number_within, number_line, moment_at, name_at, text_at, body_at}
use Rattle.script_text.specs.SoFar.{SoFar, is_made}
use Rattle.engine_config.specs.declared.config.DialTo.{DialTo}
use Rattle.engine_config.specs.declared.config.TheConstants.{MOST_HOLD, MOST_TIMEOUT, MOST_WAIT}
use Rattle.gate_io.specs.declared.wires.TheConstants.{FIRST_DIALLED, MOST_CONNECTIONS, MOST_DIALLED}
use Rattle.lease_core.specs.declared.limits.TheConstants.{MOST_LEASES, MOST_LIBRARIES}
use Rattle.lease_words.specs.declared.layout.TheConstants.{LANE_SLOTS}
use Rattle.session_core.specs.declared.said.TheConstants.{LONGEST_HEARTBEAT}
use Rattle.session_core.specs.declared.routing.TheConstants.{MOST_SESSIONS}
use Rattle.script_text.specs.declared.limits.TheConstants.{MOST_COUNT}
use Rattle.session_core.specs.declared.names.Names.{Names}
use Rattle.script_text.specs.declared.kinds.ScriptKind.{ScriptKind}
use Rattle.script_text.specs.declared.kinds.ScriptKind.TheVariants.{BadByte, UnknownWord, BadShape, OutOfRange, Misplaced, Backward}
use Rattle.script_text.specs.declared.lines.Line.{Line}
use Rattle.script_text.specs.declared.lines.Line.TheVariants as line
use Rattle.script_text.specs.declared.lines.Setting.{Setting}
use Rattle.script_text.specs.declared.lines.Setting.TheVariants as setting
use Rattle.script_text.specs.declared.lines.Opening.{Opening}
use Rattle.script_text.specs.declared.lines.Opening.TheVariants as opening
use Rattle.script_text.specs.declared.lines.ConfigWord.{ConfigWord}
use Rattle.script_text.specs.declared.lines.ConfigWord.TheVariants as config_word
use Rattle.script_text.specs.declared.lines.LimitWord.{LimitWord}
use Rattle.script_text.specs.declared.lines.LimitWord.TheVariants as limit_word
use Rattle.script_text.specs.declared.lines.EventWord.{EventWord}
use Rattle.script_text.specs.declared.lines.EventWord.TheVariants as event_word
use Rattle.script_text.specs.declared.lines.LibWord.{LibWord}
use Rattle.script_text.specs.declared.lines.LibWord.TheVariants as lib_word
use Rattle.script_text.specs.declared.numbers.NextNumbers.{NextNumbers}
use Rattle.script_text.specs.declared.steps.LibStep.{LibStep}
use Rattle.script_text.specs.declared.steps.LibStep.TheVariants as act
use Rattle.script_text.specs.declared.steps.Step.{Step}
use Rattle.script_text.specs.declared.steps.Step.TheVariants as step

-- Lines of the configuration.

-- two words that are names
unfoldable pub names_at : Option (List ℕ) → Result Names ScriptKind
names_at args = as_parts (λ us them. record { us = us; them = them }) (name_at args) (name_at (later args))

abbrev pub same_names : Names → Names → Bool
same_names a b = bytes_eq a.us b.us && bytes_eq a.them b.them

-- a pair of names that no session has
abbrev pub new_names : List Names → Names → Result Names ScriptKind
new_names before names = if list_any (λ other. same_names other names) before then Err OutOfRange else Ok names

-- two words that are names, another pair than those before
unfoldable pub new_names_at : List Names → Option (List ℕ) → Result Names ScriptKind
new_names_at before args = names_at args >>= new_names before

-- one more session, where those before it aren't the most yet
abbrev pub one_more : List Names → Result Setting ScriptKind → Result Setting ScriptKind
one_more before session = demand (nat_lt (length before) MOST_SESSIONS) OutOfRange session

-- `US THEM`
unfoldable pub session_line : List Names → Option (List ℕ) → Result Setting ScriptKind
session_line before args =
    one_more before (ends (later (later args)) (as_part (λ names. setting.Session names None) (new_names_at before args)))

-- `ADDRESS HEART WAIT`
unfoldable pub dial_to_at : Option (List ℕ) → Result DialTo ScriptKind
dial_to_at args =
    as_parts (λ address times. record { address = address; heart = times.0; wait = times.1 })
    (name_at args)
    (both (number_within 1 LONGEST_HEARTBEAT (later args)) (number_within 1 MOST_WAIT (later (later args))))

-- `US THEM ADDRESS HEART WAIT`
unfoldable pub dial_line : List Names → Option (List ℕ) → Result Setting ScriptKind
dial_line before args =
    one_more before
    (ends (later (later (later (later (later args)))))
    (as_parts (λ names to. setting.Session names (Some to)) (new_names_at before args) (dial_to_at (later (later args)))))

-- what follows the word of a limit
unfoldable pub limit_line : LimitWord → Option (List ℕ) → Result Setting ScriptKind
limit_line limit_word.Lane args = as_part setting.Lane (number_line 1 LANE_SLOTS args)
limit_line limit_word.Leases args = as_part setting.Leases (number_line 1 MOST_LEASES args)
limit_line limit_word.Sends args = as_part setting.Sends (number_line 1 MOST_COUNT args)
limit_line limit_word.Asks args = as_part setting.Asks (number_line 1 MOST_COUNT args)
limit_line limit_word.Timeout args = as_part setting.Timeout (number_line 1 MOST_TIMEOUT args)
limit_line limit_word.Hold args = as_part setting.Hold (number_line 1 MOST_HOLD args)

abbrev pub limit_named : Option LimitWord → Option (List ℕ) → Result Setting ScriptKind
limit_named None args = Err UnknownWord
limit_named (Some word) args = limit_line word args

abbrev pub limit_worded : Option (List ℕ) → Option (List ℕ) → Result Setting ScriptKind
limit_worded None args = Err BadShape
limit_worded (Some word) args = limit_named (limit_word_of word) args

-- what follows `option`: the word of a limit, and the number
unfoldable pub option_line : Option (List ℕ) → Result Setting ScriptKind
option_line args = limit_worded (keyword_at args) (later args)

-- a line of the configuration, wherever it stands
unfoldable pub config_line : Bool → List Names → ConfigWord → Option (List ℕ) → Result Setting ScriptKind
config_line serving before config_word.Session args = session_line before args
config_line serving before config_word.Dial args = dial_line before args
config_line serving before config_word.Libraries args = as_part setting.Libraries (number_line 0 MOST_LIBRARIES args)
config_line serving before config_word.Connections args =
    demand serving Misplaced (as_part setting.Connections (number_line 0 MOST_CONNECTIONS args))
config_line serving before config_word.Dials args =
    demand serving Misplaced (as_part setting.Dials (number_line 0 MOST_DIALLED args))
config_line serving before config_word.Limit args = option_line args

-- Lines of `replay`.

-- `C`, a connection that an earlier line made
unfoldable pub connection_at : NextNumbers → Option (List ℕ) → Result ℕ ScriptKind
connection_at next args = number_at args >>= λ c. if is_made next c then Ok c else Err OutOfRange

-- `C`, with which the line ends
unfoldable pub connection_line : NextNumbers → Option (List ℕ) → Result ℕ ScriptKind
connection_line next args = ends (later args) (connection_at next args)

-- `C N`
unfoldable pub connection_and_number_line : NextNumbers → Option (List ℕ) → Result (ℕ × ℕ) ScriptKind
connection_and_number_line next args =
    ends (later (later args)) (both (connection_at next args) (number_at (later args)))

-- `STAMP`, not before the present moment
unfoldable pub moment_line : ℕ → Option (List ℕ) → Result ℕ ScriptKind
moment_line present args =
    ends (later args) (moment_at args >>= λ now. if nat_lt now present then Err Backward else Ok now)

-- nothing, where one more connection may come
unfoldable pub connect_line : NextNumbers → Option (List ℕ) → Result Step ScriptKind
connect_line next args = ends args (demand (nat_lt next.connect MOST_CONNECTIONS) OutOfRange (Ok step.Connect))

-- nothing, where one more dial may succeed
unfoldable pub take_line : NextNumbers → Option (List ℕ) → Result Step ScriptKind
take_line next args = ends args (demand (nat_lt next.take (FIRST_DIALLED + MOST_DIALLED)) OutOfRange (Ok step.Take))

-- `C TEXT`
unfoldable pub bytes_line : NextNumbers → Option (List ℕ) → Result Step ScriptKind
bytes_line next args = as_parts step.Bytes (connection_at next args) (text_at (later args))

-- `C TEXT`, the text of a body
unfoldable pub frame_line : NextNumbers → Option (List ℕ) → Result Step ScriptKind
frame_line next args = as_parts step.Frame (connection_at next args) (body_at (later args))

unfoldable pub event_line : NextNumbers → ℕ → EventWord → Option (List ℕ) → Result Step ScriptKind
event_line next present event_word.At args = as_part step.At (moment_line present args)
event_line next present event_word.Connect args = connect_line next args
event_line next present event_word.Take args = take_line next args
event_line next present event_word.Bytes args = bytes_line next args
event_line next present event_word.Frame args = frame_line next args
event_line next present event_word.Finish args = as_part step.Finish (connection_line next args)
event_line next present event_word.FailRead args = as_part step.FailRead (connection_line next args)
event_line next present event_word.FailWrite args =
    as_part (λ parts. step.FailWrite parts.0 parts.1) (connection_and_number_line next args)
event_line next present event_word.Block args =
    as_part (λ parts. step.Block parts.0 parts.1) (connection_and_number_line next args)
event_line next present event_word.Unblock args = as_part step.Unblock (connection_line next args)
event_line next present event_word.Turn args = ends args (Ok step.Turn)

-- Lines of libraries.

-- `S`
unfoldable pub session_at : Option (List ℕ) → Result ℕ ScriptKind
session_at args = number_within 0 65_535 args

-- `S FROM`
unfoldable pub request_line : Option (List ℕ) → Result LibStep ScriptKind
request_line args =
    as_part (λ parts. act.Request parts.0 parts.1)
    (ends (later (later args)) (both (session_at args) (number_at (later args))))

-- `S TEXT`
unfoldable pub send_line : Option (List ℕ) → Result LibStep ScriptKind
send_line args = as_parts act.Send (session_at args) (text_at (later args))

-- `S`
unfoldable pub release_line : Option (List ℕ) → Result LibStep ScriptKind
release_line args = as_part act.Release (ends (later args) (session_at args))

-- `S H`
unfoldable pub hand_line : Option (List ℕ) → Result LibStep ScriptKind
hand_line args =
    as_part (λ parts. act.Hand parts.0 parts.1)
    (ends (later (later args)) (both (session_at args) (number_within 0 255 (later args))))

-- `N`
unfoldable pub read_line : Option (List ℕ) → Result LibStep ScriptKind
read_line args = as_part act.Read (ends (later args) (number_at args))

-- what stands from the third word of a `lib` line on
unfoldable pub act_line : LibWord → Option (List ℕ) → Result LibStep ScriptKind
act_line lib_word.Request args = request_line args
act_line lib_word.Poll args = ends args (Ok act.Poll)
act_line lib_word.Send args = send_line args
act_line lib_word.Release args = release_line args
act_line lib_word.Beat args = ends args (Ok act.Beat)
act_line lib_word.Hand args = hand_line args
act_line lib_word.Answer args = ends args (Ok act.Answer)
act_line lib_word.Read args = read_line args

-- a line of the command that reads the script: `answer` and `read` are lines of `serve` alone
abbrev pub is_here : Bool → LibWord → Bool
is_here serving lib_word.Answer = serving
is_here serving lib_word.Read = serving
is_here serving _ = true

abbrev pub act_named : Bool → ℕ → Option (List ℕ) → Option LibWord → Result Step ScriptKind
act_named serving libraries args None = Err UnknownWord
act_named serving libraries args (Some word) =
    demand (is_here serving word) Misplaced
    (as_parts step.Lib (number_within 1 libraries args) (act_line word (later (later args))))

abbrev pub act_worded : Bool → ℕ → Option (List ℕ) → Option (List ℕ) → Result Step ScriptKind
act_worded serving libraries args None = Err BadShape
act_worded serving libraries args (Some word) = act_named serving libraries args (lib_word_of word)

-- what follows `lib`: the library's number, the word of a call, and what the call needs
unfoldable pub lib_line : Bool → ℕ → Option (List ℕ) → Result Step ScriptKind
lib_line serving libraries args = act_worded serving libraries args (keyword_at (later args))

-- All lines.

abbrev pub no_steps : SoFar → Bool
no_steps said = length said.script.steps == 0

unfoldable pub opened_line : Bool → SoFar → Option Opening → Option (List ℕ) → Result Line ScriptKind
opened_line serving said None args = Err UnknownWord
opened_line serving said (Some (opening.Configures word)) args =
    as_part line.Config (demand (no_steps said) Misplaced (config_line serving said.script.config.names word args))
opened_line serving said (Some (opening.Replays word)) args =
    as_part line.Step (demand (not serving) Misplaced (event_line said.next said.moment word args))
opened_line serving said (Some opening.Library) args =
    as_part line.Step (lib_line serving said.script.config.libraries args)

-- an empty line, or a comment
abbrev pub is_skipped : List ℕ → Bool
is_skipped [] = true
is_skipped (b ∷ bytes) = b == 35

-- what a line says behind the lines before it, or the fault that counts
unfoldable pub line_of : Bool → SoFar → List ℕ → Result Line ScriptKind
line_of serving said text =
    if is_skipped text then Ok line.Blank
    else demand (list_all is_printable text) BadByte (opened_line serving said (opening_of (word_in text)) (behind_word text))
