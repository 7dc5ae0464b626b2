-- What is known of a line that is read.
use Rattle.std.proofs.Common.{◌≡◌, ◌≢◌, ℕ, ◌+◌, ◌<◌, ◌≤◌, Bool, true, false, not, cond, List, length, Option, Some, None, Result, Ok, All, IsTrue, nat_lt, ap, ◌∙◌, arith, subst}
use Rattle.std.proofs.lemmas.Bool.Decides.{nat_tests}
use Rattle.std.specs.List.{list_all, list_any}
use Rattle.std.specs.Prelude.{IfSome}
use Rattle.fix_fields.specs.Laws.{MomentsHaveABound}
use Rattle.engine_config.specs.Config.{IsDial}
use Rattle.engine_config.specs.declared.config.DialTo.{DialTo}
use Rattle.engine_config.specs.declared.config.TheConstants.{MOST_HOLD, MOST_TIMEOUT, MOST_WAIT}
use Rattle.gate_io.specs.declared.clocks.TheConstants.{LAST_MOMENT}
use Rattle.gate_io.specs.declared.wires.TheConstants.{FIRST_DIALLED, MOST_CONNECTIONS, MOST_DIALLED}
use Rattle.lease_core.specs.declared.limits.TheConstants.{MOST_LEASES, MOST_LIBRARIES}
use Rattle.lease_words.specs.declared.layout.TheConstants.{LANE_SLOTS}
use Rattle.session_core.specs.declared.said.TheConstants.{LONGEST_HEARTBEAT}
use Rattle.session_core.specs.declared.routing.TheConstants.{MOST_SESSIONS}
use Rattle.script_text.specs.declared.limits.TheConstants.{MOST_COUNT}
use Rattle.script_text.specs.Args.{body_at, ends, keyword_at, later, moment_at, name_at, number_at, number_within, text_at}
use Rattle.script_text.specs.Grammar.{act_line, act_named, act_worded, bytes_line, config_line, connect_line, connection_and_number_line, connection_at, connection_line, dial_line, dial_to_at, event_line, frame_line, hand_line, is_here, is_skipped, lib_line, limit_line, limit_named, limit_worded, line_of, moment_line, names_at, new_names, new_names_at, no_steps, one_more, opened_line, option_line, read_line, release_line, request_line, same_names, send_line, session_line, take_line}
use Rattle.script_text.specs.Kinds.{◌>>=◌, both, demand}
use Rattle.script_text.specs.Lawful.{ActFits, AreNames, IsAddressed, IsMade, StepFits}
use Rattle.script_text.specs.Printed.{is_printable}
use Rattle.script_text.specs.SoFar.{SoFar}
use Rattle.script_text.specs.Words.{behind_word, is_name, lib_word_of, limit_word_of, opening_of, word_in}
use Rattle.session_core.specs.declared.names.Names.{Names}
use Rattle.script_text.specs.declared.kinds.ScriptKind.{ScriptKind}
use Rattle.script_text.specs.declared.kinds.ScriptKind.TheVariants.{BadByte, Backward, Misplaced, OutOfRange}
use Rattle.script_text.specs.declared.lines.ConfigWord.{ConfigWord}
use Rattle.script_text.specs.declared.lines.ConfigWord.TheVariants as config_word
use Rattle.script_text.specs.declared.lines.EventWord.{EventWord}
use Rattle.script_text.specs.declared.lines.EventWord.TheVariants as event_word
use Rattle.script_text.specs.declared.lines.LibWord.{LibWord}
use Rattle.script_text.specs.declared.lines.LibWord.TheVariants as lib_word
use Rattle.script_text.specs.declared.lines.LimitWord.{LimitWord}
use Rattle.script_text.specs.declared.lines.LimitWord.TheVariants as limit_word
use Rattle.script_text.specs.declared.lines.Line.{Line}
use Rattle.script_text.specs.declared.lines.Line.TheVariants as line
use Rattle.script_text.specs.declared.lines.Opening.{Opening}
use Rattle.script_text.specs.declared.lines.Opening.TheVariants as opening
use Rattle.script_text.specs.declared.lines.Setting.{Setting}
use Rattle.script_text.specs.declared.lines.Setting.TheVariants as setting
use Rattle.script_text.specs.declared.numbers.NextNumbers.{NextNumbers}
use Rattle.script_text.specs.declared.steps.LibStep.{LibStep}
use Rattle.script_text.specs.declared.steps.LibStep.TheVariants as act
use Rattle.script_text.specs.declared.steps.Step.{Step}
use Rattle.script_text.specs.declared.steps.Step.TheVariants as step
use Rattle.script_text.proofs.PartFacts.{as_part-ok, bind-ok, body_at-ok, both-ok, connection_at-ok, demand-ok, ends-ok, if-ok, moment_at-ok, name_at-ok, none_same, number_line-ok, number_within-ok}

abbrev pub Args : Type 0
Args = Option (List ℕ)

-- ---- the configuration

-- a setting in its range
abbrev pub SettingFits : Bool → List Names → Setting → Type 0
SettingFits serving before (setting.Session names to) =
    (length before < MOST_SESSIONS) × AreNames names × All (λ other. other ≢ names) before × IsAddressed to × IfSome to IsDial
SettingFits serving before (setting.Libraries n) = n ≤ MOST_LIBRARIES
SettingFits serving before (setting.Connections n) = IsTrue serving × (n ≤ MOST_CONNECTIONS)
SettingFits serving before (setting.Dials n) = IsTrue serving × (n ≤ MOST_DIALLED)
SettingFits serving before (setting.Lane n) = (1 ≤ n) × (n ≤ LANE_SLOTS)
SettingFits serving before (setting.Leases n) = (1 ≤ n) × (n ≤ MOST_LEASES)
SettingFits serving before (setting.Sends n) = (1 ≤ n) × (n ≤ MOST_COUNT)
SettingFits serving before (setting.Asks n) = (1 ≤ n) × (n ≤ MOST_COUNT)
SettingFits serving before (setting.Timeout n) = (1 ≤ n) × (n ≤ MOST_TIMEOUT)
SettingFits serving before (setting.Hold n) = (1 ≤ n) × (n ≤ MOST_HOLD)

names_at-fits : (args : Args) (names : Names) → names_at args ≡ Ok names → AreNames names
unfolding names_at
names_at-fits args names e =
    let made = as_part-ok _ (both (name_at args) (name_at (later args))) names e in
    let parts = both-ok _ _ made.0 made.1 in
    subst AreNames made.2 (name_at-ok args made.0.0 parts.0, name_at-ok (later args) made.0.1 parts.1)

-- names that no session before has
abbrev AreNew : List Names → Names → Type 0
AreNew before names = AreNames names × All (λ other. other ≢ names) before

new_names_at-fits : (before : List Names) (args : Args) (names : Names) → new_names_at before args ≡ Ok names → AreNew before names
unfolding new_names_at
new_names_at-fits before args names e =
    let found = bind-ok (names_at args) (new_names before) names e in
    let new = if-ok (list_any (λ other. same_names other found.0) before) OutOfRange found.0 names found.2 in
    let differ : All (λ other. other ≢ found.0) before = none_same before found.0 new.0 in
    subst (AreNew before) new.1 (names_at-fits args found.0 found.1, differ)

one_more-ok : (before : List Names) (session : Result Setting ScriptKind) (what : Setting) → one_more before session ≡ Ok what → (length before < MOST_SESSIONS) × (session ≡ Ok what)
one_more-ok before session what e =
    let held = demand-ok (nat_lt (length before) MOST_SESSIONS) OutOfRange session what e in
    let few : length before < MOST_SESSIONS = grind (arith, nat_tests, held.0) in
    (few, held.1)

session_line-fits : (serving : Bool) (before : List Names) (args : Args) (what : Setting) → session_line before args ≡ Ok what → SettingFits serving before what
unfolding session_line
session_line-fits serving before args what e =
    let more = one_more-ok before _ what e in
    let made = as_part-ok (λ names. setting.Session names None) (new_names_at before args) what (ends-ok (later (later args)) _ what more.1) in
    let new = new_names_at-fits before args made.0 made.1 in
    subst (SettingFits serving before) made.2 (more.0, new.0, new.1, tt, tt)

abbrev IsLawfulDial : DialTo → Type 0
IsLawfulDial to = IsTrue (is_name to.address) × IsDial to

dial_to_at-fits : (args : Args) (to : DialTo) → dial_to_at args ≡ Ok to → IsLawfulDial to
unfolding dial_to_at
dial_to_at-fits args to e =
    let made = as_part-ok _ (both (name_at args) (both (number_within 1 LONGEST_HEARTBEAT (later args)) (number_within 1 MOST_WAIT (later (later args))))) to e in
    let parts = both-ok (name_at args) _ made.0 made.1 in
    let times = both-ok (number_within 1 LONGEST_HEARTBEAT (later args)) (number_within 1 MOST_WAIT (later (later args))) made.0.1 parts.1 in
    let heart = number_within-ok 1 LONGEST_HEARTBEAT (later args) made.0.1.0 times.0 in
    let wait = number_within-ok 1 MOST_WAIT (later (later args)) made.0.1.1 times.1 in
    subst IsLawfulDial made.2
    (name_at-ok args made.0.0 parts.0, record { heart = record { from_one = heart.0; to_longest = heart.1 }; wait = record { from_least = wait.0; to_most = wait.1 } })

dial_line-fits : (serving : Bool) (before : List Names) (args : Args) (what : Setting) → dial_line before args ≡ Ok what → SettingFits serving before what
unfolding dial_line
dial_line-fits serving before args what e =
    let more = one_more-ok before _ what e in
    let rest = later (later (later (later (later args)))) in
    let made = as_part-ok _ (both (new_names_at before args) (dial_to_at (later (later args)))) what (ends-ok rest _ what more.1) in
    let parts = both-ok (new_names_at before args) _ made.0 made.1 in
    let new = new_names_at-fits before args made.0.0 parts.0 in
    let to = dial_to_at-fits (later (later args)) made.0.1 parts.1 in
    subst (SettingFits serving before) made.2 (more.0, new.0, new.1, to.0, to.1)

limit_line-fits : (serving : Bool) (before : List Names) (word : LimitWord) (args : Args) (what : Setting) → limit_line word args ≡ Ok what → SettingFits serving before what
unfolding limit_line
limit_line-fits serving before limit_word.Lane args what e =
    let made = as_part-ok setting.Lane _ what e in
    subst (SettingFits serving before) made.2 (number_line-ok 1 LANE_SLOTS args made.0 made.1)
limit_line-fits serving before limit_word.Leases args what e =
    let made = as_part-ok setting.Leases _ what e in
    subst (SettingFits serving before) made.2 (number_line-ok 1 MOST_LEASES args made.0 made.1)
limit_line-fits serving before limit_word.Sends args what e =
    let made = as_part-ok setting.Sends _ what e in
    subst (SettingFits serving before) made.2 (number_line-ok 1 MOST_COUNT args made.0 made.1)
limit_line-fits serving before limit_word.Asks args what e =
    let made = as_part-ok setting.Asks _ what e in
    subst (SettingFits serving before) made.2 (number_line-ok 1 MOST_COUNT args made.0 made.1)
limit_line-fits serving before limit_word.Timeout args what e =
    let made = as_part-ok setting.Timeout _ what e in
    subst (SettingFits serving before) made.2 (number_line-ok 1 MOST_TIMEOUT args made.0 made.1)
limit_line-fits serving before limit_word.Hold args what e =
    let made = as_part-ok setting.Hold _ what e in
    subst (SettingFits serving before) made.2 (number_line-ok 1 MOST_HOLD args made.0 made.1)

limit_worded-fits : (serving : Bool) (before : List Names) (word : Option (List ℕ)) (args : Args) (what : Setting) → limit_worded word args ≡ Ok what → SettingFits serving before what
limit_worded-fits serving before None args what e = cc
limit_worded-fits serving before (Some word) args what e =
    elim (limit_word_of word) as (λ v. limit_named v args ≡ Ok what → SettingFits serving before what) [
      | None ↦ λ n. cc
      | Some found ↦ λ s. limit_line-fits serving before found args what s
    ] e

option_line-fits : (serving : Bool) (before : List Names) (args : Args) (what : Setting) → option_line args ≡ Ok what → SettingFits serving before what
unfolding option_line
option_line-fits serving before args what e = limit_worded-fits serving before (keyword_at args) (later args) what e

config_line-fits : (serving : Bool) (before : List Names) (word : ConfigWord) (args : Args) (what : Setting) → config_line serving before word args ≡ Ok what → SettingFits serving before what
unfolding config_line
config_line-fits serving before config_word.Session args what e = session_line-fits serving before args what e
config_line-fits serving before config_word.Dial args what e = dial_line-fits serving before args what e
config_line-fits serving before config_word.Libraries args what e =
    let made = as_part-ok setting.Libraries _ what e in
    subst (SettingFits serving before) made.2 (number_line-ok 0 MOST_LIBRARIES args made.0 made.1).1
config_line-fits serving before config_word.Connections args what e =
    let held = demand-ok serving Misplaced _ what e in
    let made = as_part-ok setting.Connections _ what held.1 in
    subst (SettingFits serving before) made.2 (held.0, (number_line-ok 0 MOST_CONNECTIONS args made.0 made.1).1)
config_line-fits serving before config_word.Dials args what e =
    let held = demand-ok serving Misplaced _ what e in
    let made = as_part-ok setting.Dials _ what held.1 in
    subst (SettingFits serving before) made.2 (held.0, (number_line-ok 0 MOST_DIALLED args made.0 made.1).1)
config_line-fits serving before config_word.Limit args what e = option_line-fits serving before args what e

-- ---- the lines of `replay`

connection_line-fits : (next : NextNumbers) (args : Args) (c : ℕ) → connection_line next args ≡ Ok c → IsMade next c
unfolding connection_line
connection_line-fits next args c e = connection_at-ok next args c (ends-ok (later args) _ c e)

connection_and_number_line-fits : (next : NextNumbers) (args : Args) (pair : ℕ × ℕ) → connection_and_number_line next args ≡ Ok pair → IsMade next pair.0
unfolding connection_and_number_line
connection_and_number_line-fits next args pair e =
    connection_at-ok next args pair.0 (both-ok _ (number_at (later args)) pair (ends-ok (later (later args)) _ pair e)).0

moment_line-fits : MomentsHaveABound → (present : ℕ) (args : Args) (now : ℕ) → moment_line present args ≡ Ok now → (present ≤ now) × (now ≤ LAST_MOMENT)
unfolding moment_line
moment_line-fits bound present args now e =
    let found = bind-ok (moment_at args) _ now (ends-ok (later args) _ now e) in
    let held = if-ok (nat_lt found.0 present) Backward found.0 now found.2 in
    let late : present ≤ found.0 = grind (arith, nat_tests, held.0) in
    let early = moment_at-ok bound args found.0 found.1 in
    (omega (arith, held.1), omega (arith, held.1))

connect_line-fits : (next : NextNumbers) (args : Args) (what : Step) → connect_line next args ≡ Ok what → (next.connect < MOST_CONNECTIONS) × (step.Connect ≡ what)
unfolding connect_line
connect_line-fits next args what e =
    let held = demand-ok (nat_lt next.connect MOST_CONNECTIONS) OutOfRange (Ok step.Connect) what (ends-ok args _ what e) in
    (grind (arith, nat_tests, held.0), cc (held.1))

take_line-fits : (next : NextNumbers) (args : Args) (what : Step) → take_line next args ≡ Ok what → (next.take < FIRST_DIALLED + MOST_DIALLED) × (step.Take ≡ what)
unfolding take_line
take_line-fits next args what e =
    let held = demand-ok (nat_lt next.take (FIRST_DIALLED + MOST_DIALLED)) OutOfRange (Ok step.Take) what (ends-ok args _ what e) in
    (grind (arith, nat_tests, held.0), cc (held.1))

bytes_line-fits : (next : NextNumbers) (args : Args) (what : Step) → bytes_line next args ≡ Ok what → (c : ℕ) × (bytes : List ℕ) × IsMade next c × (step.Bytes c bytes ≡ what)
unfolding bytes_line
bytes_line-fits next args what e =
    let made = as_part-ok _ (both (connection_at next args) (text_at (later args))) what e in
    let parts = both-ok _ _ made.0 made.1 in
    (made.0.0, made.0.1, connection_at-ok next args made.0.0 parts.0, made.2)

frame_line-fits : (serving : Bool) (libraries : ℕ) (next : NextNumbers) (present : ℕ) (args : Args) (what : Step) → IsTrue (not serving) → frame_line next args ≡ Ok what → StepFits serving libraries next present what
unfolding frame_line
frame_line-fits serving libraries next present args what here e =
    let made = as_part-ok _ (both (connection_at next args) (body_at (later args))) what e in
    let parts = both-ok _ _ made.0 made.1 in
    let framed = body_at-ok (later args) made.0.1 parts.1 in
    subst (StepFits serving libraries next present) made.2 (here, connection_at-ok next args made.0.0 parts.0, framed.0, framed.1)

event_line-fits : MomentsHaveABound → (serving : Bool) (libraries : ℕ) (next : NextNumbers) (present : ℕ) (word : EventWord) (args : Args) (what : Step) → IsTrue (not serving) → event_line next present word args ≡ Ok what → StepFits serving libraries next present what
unfolding event_line
event_line-fits bound serving libraries next present event_word.At args what here e =
    let made = as_part-ok step.At (moment_line present args) what e in
    let bounds = moment_line-fits bound present args made.0 made.1 in
    subst (StepFits serving libraries next present) made.2 (here, bounds.0, bounds.1)
event_line-fits bound serving libraries next present event_word.Connect args what here e =
    let made = connect_line-fits next args what e in
    subst (StepFits serving libraries next present) made.1 (here, made.0)
event_line-fits bound serving libraries next present event_word.Take args what here e =
    let made = take_line-fits next args what e in
    subst (StepFits serving libraries next present) made.1 (here, made.0)
event_line-fits bound serving libraries next present event_word.Bytes args what here e =
    let made = bytes_line-fits next args what e in
    subst (StepFits serving libraries next present) made.3 (here, made.2)
event_line-fits bound serving libraries next present event_word.Frame args what here e =
    frame_line-fits serving libraries next present args what here e
event_line-fits bound serving libraries next present event_word.Finish args what here e =
    let made = as_part-ok step.Finish (connection_line next args) what e in
    subst (StepFits serving libraries next present) made.2 (here, connection_line-fits next args made.0 made.1)
event_line-fits bound serving libraries next present event_word.FailRead args what here e =
    let made = as_part-ok step.FailRead (connection_line next args) what e in
    subst (StepFits serving libraries next present) made.2 (here, connection_line-fits next args made.0 made.1)
event_line-fits bound serving libraries next present event_word.FailWrite args what here e =
    let made = as_part-ok _ (connection_and_number_line next args) what e in
    subst (StepFits serving libraries next present) made.2 (here, connection_and_number_line-fits next args made.0 made.1)
event_line-fits bound serving libraries next present event_word.Block args what here e =
    let made = as_part-ok _ (connection_and_number_line next args) what e in
    subst (StepFits serving libraries next present) made.2 (here, connection_and_number_line-fits next args made.0 made.1)
event_line-fits bound serving libraries next present event_word.Unblock args what here e =
    let made = as_part-ok step.Unblock (connection_line next args) what e in
    subst (StepFits serving libraries next present) made.2 (here, connection_line-fits next args made.0 made.1)
event_line-fits bound serving libraries next present event_word.Turn args what here e =
    let made : step.Turn ≡ what = cc (ends-ok args (Ok step.Turn) what e) in
    subst (StepFits serving libraries next present) made here

-- ---- the lines of libraries

act_line-fits : (serving : Bool) (word : LibWord) (args : Args) (what : LibStep) → is_here serving word ≡ true → act_line word args ≡ Ok what → ActFits serving what
unfolding act_line request_line send_line release_line hand_line read_line
act_line-fits serving lib_word.Request args what here e =
    let made = as_part-ok _ (ends (later (later args)) _) what e in subst (ActFits serving) made.2 tt
act_line-fits serving lib_word.Poll args what here e =
    let made : act.Poll ≡ what = cc (ends-ok args (Ok act.Poll) what e) in subst (ActFits serving) made tt
act_line-fits serving lib_word.Send args what here e =
    let made = as_part-ok _ (both _ (text_at (later args))) what e in subst (ActFits serving) made.2 tt
act_line-fits serving lib_word.Release args what here e =
    let made = as_part-ok act.Release (ends (later args) _) what e in subst (ActFits serving) made.2 tt
act_line-fits serving lib_word.Beat args what here e =
    let made : act.Beat ≡ what = cc (ends-ok args (Ok act.Beat) what e) in subst (ActFits serving) made tt
act_line-fits serving lib_word.Hand args what here e =
    let made = as_part-ok _ (ends (later (later args)) _) what e in subst (ActFits serving) made.2 tt
act_line-fits serving lib_word.Answer args what here e =
    let made : act.Answer ≡ what = cc (ends-ok args (Ok act.Answer) what e) in subst (ActFits serving) made here
act_line-fits serving lib_word.Read args what here e =
    let made = as_part-ok act.Read (ends (later args) _) what e in subst (ActFits serving) made.2 here

act_worded-fits : (serving : Bool) (libraries : ℕ) (next : NextNumbers) (present : ℕ) (args word : Args) (what : Step) → act_worded serving libraries args word ≡ Ok what → StepFits serving libraries next present what
act_worded-fits serving libraries next present args None what e = cc
act_worded-fits serving libraries next present args (Some word) what e =
    elim (lib_word_of word) as (λ v. act_named serving libraries args v ≡ Ok what → StepFits serving libraries next present what) [
      | None ↦ λ n. cc
      | Some found ↦ λ s.
          let held = demand-ok (is_here serving found) Misplaced _ what s in
          let made = as_part-ok _ (both (number_within 1 libraries args) (act_line found (later (later args)))) what held.1 in
          let parts = both-ok _ _ made.0 made.1 in
          let bounds = number_within-ok 1 libraries args made.0.0 parts.0 in
          subst (StepFits serving libraries next present) made.2 (bounds.0, bounds.1, act_line-fits serving found (later (later args)) made.0.1 held.0 parts.1)
    ] e

lib_line-fits : (serving : Bool) (libraries : ℕ) (next : NextNumbers) (present : ℕ) (args : Args) (what : Step) → lib_line serving libraries args ≡ Ok what → StepFits serving libraries next present what
unfolding lib_line
lib_line-fits serving libraries next present args what e =
    act_worded-fits serving libraries next present args (keyword_at (later args)) what e

-- ---- all lines

-- a line that fits behind those before it
abbrev pub LineFits : Bool → SoFar → Line → Type 0
LineFits serving said line.Blank = Unit {0}
LineFits serving said (line.Config what) =
    (length said.script.steps ≡ 0) × SettingFits serving said.script.config.names what
LineFits serving said (line.Step what) =
    StepFits serving said.script.config.libraries said.next said.moment what

opened_line-fits : MomentsHaveABound → (serving : Bool) (said : SoFar) (found : Option Opening) (args : Args) (what : Line) → opened_line serving said found args ≡ Ok what → LineFits serving said what
unfolding opened_line
opened_line-fits bound serving said None args what e = cc
opened_line-fits bound serving said (Some (opening.Configures word)) args what e =
    let made = as_part-ok line.Config (demand (no_steps said) Misplaced (config_line serving said.script.config.names word args)) what e in
    let held = demand-ok (no_steps said) Misplaced _ made.0 made.1 in
    let none : length said.script.steps ≡ 0 = grind (arith, nat_tests, held.0) in
    subst (LineFits serving said) made.2 (none, config_line-fits serving said.script.config.names word args made.0 held.1)
opened_line-fits bound serving said (Some (opening.Replays word)) args what e =
    let made = as_part-ok line.Step (demand (not serving) Misplaced (event_line said.next said.moment word args)) what e in
    let held = demand-ok (not serving) Misplaced _ made.0 made.1 in
    subst (LineFits serving said) made.2 (event_line-fits bound serving said.script.config.libraries said.next said.moment word args made.0 held.0 held.1)
opened_line-fits bound serving said (Some opening.Library) args what e =
    let made = as_part-ok line.Step (lib_line serving said.script.config.libraries args) what e in
    subst (LineFits serving said) made.2 (lib_line-fits serving said.script.config.libraries said.next said.moment args made.0 made.1)

pub line_of-fits : MomentsHaveABound → (serving : Bool) (said : SoFar) (text : List ℕ) (what : Line) → line_of serving said text ≡ Ok what → LineFits serving said what
unfolding line_of
line_of-fits bound serving said text what e =
    elim (is_skipped text) as (λ v. cond v (Ok line.Blank) (demand (list_all is_printable text) BadByte (opened_line serving said (opening_of (word_in text)) (behind_word text))) ≡ Ok what → LineFits serving said what) [
      | true ↦ λ s. let made : line.Blank ≡ what = cc in subst (LineFits serving said) made tt
      | false ↦ λ s. opened_line-fits bound serving said (opening_of (word_in text)) (behind_word text) what (demand-ok (list_all is_printable text) BadByte _ what s).1
    ] e
