-- What messages and the clock make of a session machine: its phase, since when it has heard nothing, and how long it waits.
use Rattle.std.proofs.Common.{◌≡◌, ◌≢◌, ℕ, zero, suc, ◌+◌, ◌*◌, ◌≤◌, Bool, true, false, if◌then◌else◌, List, [], ◌∷◌, Option, Some, None, Result, Ok, Err, is_ok, refl, sym, ap, subst, ◌∙◌, arith}
use Rattle.std.proofs.lemmas.Bool.{eqb-false, leb-true}
use Rattle.std.proofs.lemmas.Option.{none-some, same_Some}
use Rattle.std.specs.List.{list_any}
use Rattle.std.specs.Prelude.{◌==◌, ◌||◌, codes, nat_le, nat_lt, not, unwrap_or}
use Rattle.std.specs.Result.{result_ok}
use Rattle.headline.specs.clock.Waited.{answers_logon, heart_asked, heart_in}
use Rattle.fix_fields.specs.Field.{Field}
use Rattle.fix_fields.specs.Reading.{fields_of}
use Rattle.session_core.specs.Ask.{after_ask, after_logon}
use Rattle.session_core.specs.Receive.{Outcome, after_outcome, after_receive, expected_at, outcome, outcome_asked, outcome_in, outcome_of_answer, outcome_of_good_answer, outcome_of_logon, outcome_of_low, outcome_of_low_answer, outcome_of_step, outcome_of_terms, outcome_of_welcome, step_in, terms_for}
use Rattle.session_core.specs.Route.{answer_in, asks_reset, demand, demand_some, has_lawful_reset, terms_of}
use Rattle.session_core.specs.Said.{has_value, heart_of, seq_num_of}
use Rattle.session_core.specs.Runs.{after_connection, after_connections, behind, behind_all}
use Rattle.session_core.specs.State.{State, after_leave}
use Rattle.session_core.specs.Tick.{after_tick, alive, beat, behind_tick, effects_at, tick, tick_in, tick_of}
use Rattle.session_core.specs.declared.causes.Cause.{Cause}
use Rattle.session_core.specs.declared.causes.Cause.TheVariants.{BadLogon, NoNumber, Silent}
use Rattle.session_core.specs.declared.names.Names.{Names}
use Rattle.session_core.specs.declared.phases.Phase.{Phase}
use Rattle.session_core.specs.declared.phases.Phase.TheVariants.{Asked, Off, On}
use Rattle.session_core.specs.declared.ticks.TheConstants.{ANSWER_WAIT}

-- how long a session waits in a phase
abbrev pub wait_in : Phase → ℕ
wait_in Off = 0
wait_in (Asked heart) = ANSWER_WAIT
wait_in (On heart) = 1000 * heart

-- a session is on from a moment on that isn't before the first one, nothing is past this one, and a TestRequest that waits was sent behind the last receipt
pub record HasHeard (first at : ℕ) (state : State) : Type 0 where
  pub heard : state.phase ≢ Off → first ≤ state.received
  pub past : state.received ≤ at
  pub tested : (since : ℕ) → state.waiting ≡ Some since → state.received ≤ since

-- the clock ends a connection by this cause: since nothing came for so long
pub record EndsBySilence (state : State) (wait at : ℕ) (cause : Cause) : Type 0 where
  pub is : cause ≡ Silent state.received
  pub long : state.received + wait ≤ at
  pub some : 1 ≤ wait

module _ (state : State) (at : ℕ) (tested : (since : ℕ) → state.waiting ≡ Some since → state.received ≤ since) where
  abbrev EndsWith : ℕ → Option Cause → Type 0
  EndsWith wait end = (cause : Cause) → end ≡ Some cause → EndsBySilence state wait at cause

  none_ends : (wait : ℕ) → EndsWith wait None
  none_ends wait cause is = absurd (none-some cause is)

  expires : (wait : ℕ) → state.received + wait ≤ at → 1 ≤ wait → EndsWith wait (Some (Silent state.received))
  expires wait long some cause is = record { is = sym (same_Some (Silent state.received) cause is); long = long; some = some }

  either_ends : (wait : ℕ) (b : Bool) (t u : _) → (b ≡ true → EndsWith wait (effects_at state t).end) → (b ≡ false → EndsWith wait (effects_at state u).end) → EndsWith wait (effects_at state (if b then t else u)).end
  either_ends wait true t u first second = first refl
  either_ends wait false t u first second = second refl

  beat_ends : (wait heart : ℕ) → EndsWith wait (effects_at state (beat state heart at)).end
  beat_ends wait heart = either_ends wait (nat_le (state.sent + 1000 * heart) at) _ _ (λ e. none_ends wait) (λ e. none_ends wait)

  waited_since : (since heart : ℕ) → state.received ≤ since → nat_le (since + 1000 * heart) at ≡ true → state.received + 1000 * heart ≤ at
  waited_since since heart before late = (let past = leb-true (since + 1000 * heart) at late in omega arith)

  alive_ends : (heart : ℕ) → 1 ≤ 1000 * heart → (waiting : Option ℕ) → state.waiting ≡ waiting → EndsWith (1000 * heart) (effects_at state (alive state heart at waiting)).end
  alive_ends heart some (Some since) is =
      either_ends (1000 * heart) (nat_le (since + 1000 * heart) at) _ _
      (λ e. expires (1000 * heart) (waited_since since heart (tested since is) e) some) (λ e. beat_ends (1000 * heart) heart)
  alive_ends heart some None is =
      either_ends (1000 * heart) (nat_le (state.received + 1200 * heart) at) _ _ (λ e. none_ends (1000 * heart)) (λ e. beat_ends (1000 * heart) heart)

  some_heart : (heart : ℕ) → (heart == 0) ≡ false → 1 ≤ 1000 * heart
  some_heart zero is = absurd (eqb-false 0 0 is refl)
  some_heart (suc heart) is = omega arith

  phase_ends : (phase : Phase) → EndsWith (wait_in phase) (effects_at state (tick_in state at phase)).end
  phase_ends Off = none_ends 0
  phase_ends (Asked heart) =
      either_ends ANSWER_WAIT (nat_le (state.received + ANSWER_WAIT) at) _ _
      (λ e. expires ANSWER_WAIT (leb-true (state.received + ANSWER_WAIT) at e) (omega arith)) (λ e. none_ends ANSWER_WAIT)
  phase_ends (On heart) =
      either_ends (1000 * heart) (heart == 0) _ _ (λ e. none_ends (1000 * heart)) (λ e. alive_ends heart (some_heart heart e) state.waiting refl)

pub tick_ends : (first : ℕ) (state : State) (at : ℕ) (cause : Cause) → HasHeard first at state → (tick state at).end ≡ Some cause → EndsBySilence state (wait_in state.phase) at cause
unfolding tick_of
tick_ends first state at cause was is = phase_ends state at was.tested state.phase cause is

-- what is heard so far goes on
module _ (first at : ℕ) (within : first ≤ at) where
  heard_if : (b : Bool) (s t : State) → HasHeard first at s → HasHeard first at t → HasHeard first at (if b then s else t)
  heard_if true s t one other = one
  heard_if false s t one other = other

  pub receive_heard : (state : State) (body : List ℕ) → HasHeard first at state → HasHeard first at (after_receive state body at)
  receive_heard state body was =
      heard_if (outcome state body).heard _ state (record { heard = λ on. within; past = omega arith; tested = λ since is. absurd (none-some since is) }) was

  logon_heard : (state : State) (dials : Option ℕ) → HasHeard first at state → HasHeard first at (after_logon state at dials)
  logon_heard state None was = was
  logon_heard state (Some heart) was = record { heard = λ on. within; past = omega arith; tested = λ since is. absurd (none-some since is) }

  pub ask_heard : (state : State) → HasHeard first at state → HasHeard first at (after_ask state at)
  ask_heard state was = logon_heard state state.dials was

  ticked_if : (state : State) (b : Bool) (t u : _) → HasHeard first at (behind_tick state at t) → HasHeard first at (behind_tick state at u) → HasHeard first at (behind_tick state at (if b then t else u))
  ticked_if state true t u one other = one
  ticked_if state false t u one other = other

  beat_heard : (state : State) (heart : ℕ) → HasHeard first at state → HasHeard first at (behind_tick state at (beat state heart at))
  beat_heard state heart was = ticked_if state (nat_le (state.sent + 1000 * heart) at) _ _ (record { heard = was.heard; past = was.past; tested = was.tested }) was

  alive_heard : (state : State) (heart : ℕ) (waiting : Option ℕ) → HasHeard first at state → HasHeard first at (behind_tick state at (alive state heart at waiting))
  alive_heard state heart (Some since) was = ticked_if state (nat_le (since + 1000 * heart) at) _ _ was (beat_heard state heart was)
  alive_heard state heart None was =
      ticked_if state (nat_le (state.received + 1200 * heart) at) _ _
      (record { heard = was.heard; past = was.past; tested = λ since is. subst (λ n. state.received ≤ n) (same_Some at since is) was.past }) (beat_heard state heart was)

  phase_heard : (state : State) (phase : Phase) → HasHeard first at state → HasHeard first at (behind_tick state at (tick_in state at phase))
  phase_heard state Off was = was
  phase_heard state (Asked heart) was = ticked_if state (nat_le (state.received + ANSWER_WAIT) at) _ _ was was
  phase_heard state (On heart) was = ticked_if state (heart == 0) _ _ was (alive_heard state heart state.waiting was)

  pub tick_heard : (state : State) → HasHeard first at state → HasHeard first at (after_tick state at)
  unfolding tick_of
  tick_heard state was = phase_heard state state.phase was

  pub leave_heard : (state : State) → HasHeard first at state → HasHeard first at (after_leave state)
  leave_heard state was = record { heard = λ on. absurd (on refl); past = was.past; tested = λ since is. absurd (none-some since is) }

pub later_heard : (first at later : ℕ) (state : State) → at ≤ later → HasHeard first at state → HasHeard first later state
later_heard first at later state up_to was = record { heard = was.heard; past = (let past = was.past in omega arith); tested = was.tested }

-- a tick changes neither the phase nor whether the session dials
pub record HasSamePhase (s t : State) : Type 0 where
  pub dials : s.dials ≡ t.dials
  pub phase : s.phase ≡ t.phase

same_phase_if : (state : State) (at : ℕ) (b : Bool) (t u : _) → HasSamePhase (behind_tick state at t) state → HasSamePhase (behind_tick state at u) state → HasSamePhase (behind_tick state at (if b then t else u)) state
same_phase_if state at true t u one other = one
same_phase_if state at false t u one other = other

same_beat : (state : State) (at heart : ℕ) → HasSamePhase (behind_tick state at (beat state heart at)) state
same_beat state at heart = same_phase_if state at (nat_le (state.sent + 1000 * heart) at) _ _ (record { dials = refl; phase = refl }) (record { dials = refl; phase = refl })

same_alive : (state : State) (at heart : ℕ) (waiting : Option ℕ) → HasSamePhase (behind_tick state at (alive state heart at waiting)) state
same_alive state at heart (Some since) = same_phase_if state at (nat_le (since + 1000 * heart) at) _ _ (record { dials = refl; phase = refl }) (same_beat state at heart)
same_alive state at heart None = same_phase_if state at (nat_le (state.received + 1200 * heart) at) _ _ (record { dials = refl; phase = refl }) (same_beat state at heart)

same_in_phase : (state : State) (at : ℕ) (phase : Phase) → HasSamePhase (behind_tick state at (tick_in state at phase)) state
same_in_phase state at Off = record { dials = refl; phase = refl }
same_in_phase state at (Asked heart) = same_phase_if state at (nat_le (state.received + ANSWER_WAIT) at) _ _ (record { dials = refl; phase = refl }) (record { dials = refl; phase = refl })
same_in_phase state at (On heart) = same_phase_if state at (heart == 0) _ _ (record { dials = refl; phase = refl }) (same_alive state at heart state.waiting)

pub same_ticked : (state : State) (at : ℕ) → HasSamePhase (after_tick state at) state
unfolding tick_of
same_ticked state at = same_in_phase state at state.phase

-- a session keeps its names, and whether it dials
pub record HasSameSides (s t : State) : Type 0 where
  pub names : s.names ≡ t.names
  pub dials : s.dials ≡ t.dials

same_if : (b : Bool) (s t u : State) → HasSameSides s u → HasSameSides t u → HasSameSides (if b then s else t) u
same_if true s t u one other = one
same_if false s t u one other = other

pub same_behind : (state : State) (body : List ℕ) (at : ℕ) → HasSameSides (after_receive state body at) state
same_behind state body at = same_if (outcome state body).heard _ state state (record { names = refl; dials = refl }) (record { names = refl; dials = refl })

same_further : (s t u : State) → HasSameSides s t → HasSameSides t u → HasSameSides s u
same_further s t u one two = record { names = one.names ∙ two.names; dials = one.dials ∙ two.dials }

same_behind_all : (bodies : List (List ℕ)) (state : State) → HasSameSides (behind_all state bodies) state
same_behind_all [] state = record { names = refl; dials = refl }
same_behind_all (body ∷ bodies) state = same_further (behind_all (behind state body) bodies) (behind state body) state (same_behind_all bodies (behind state body)) (same_behind state body 0)

same_logon : (state : State) (at : ℕ) (dials : Option ℕ) → HasSameSides (after_logon state at dials) state
same_logon state at None = record { names = refl; dials = refl }
same_logon state at (Some heart) = record { names = refl; dials = refl }

same_connection : (state : State) (bodies : List (List ℕ)) → HasSameSides (after_connection state bodies) state
same_connection state bodies = (
    let same = same_further (behind_all (after_ask state 0) bodies) (after_ask state 0) state (same_behind_all bodies (after_ask state 0)) (same_logon state 0 state.dials) in
    record { names = same.names; dials = same.dials })

same_connections : (connections : List (List (List ℕ))) (state : State) → HasSameSides (after_connections state connections) state
same_connections [] state = record { names = refl; dials = refl }
same_connections (bodies ∷ connections) state =
    same_further (after_connections (after_connection state bodies) connections) (after_connection state bodies) state (same_connections connections (after_connection state bodies)) (same_connection state bodies)

-- a session that is on stays so
phase_if : (b : Bool) (phase : Phase) (s t : State) → s.phase ≡ phase → t.phase ≡ phase → (if b then s else t).phase ≡ phase
phase_if true phase s t one other = one
phase_if false phase s t one other = other

stepped_on : (state : State) (body : List ℕ) (fields : Option (List Field)) (heart : ℕ) → state.phase ≡ On heart → (outcome_of_step state body (step_in state.names state.line.expected fields)).phase ≡ On heart
stepped_on state body None heart on = on
stepped_on state body (Some fields) heart on = on

pub stays_on : (state : State) (body : List ℕ) (at heart : ℕ) → state.phase ≡ On heart → (after_receive state body at).phase ≡ On heart
unfolding outcome
stays_on state body at heart on = (
    let fields = result_ok (fields_of body) in
    phase_if (outcome state body).heard (On heart) _ state
    (subst (λ (phase : Phase). (outcome_in phase state body fields).phase ≡ On heart) (sym on) (stepped_on state body fields heart on))
    on)

all_on : (bodies : List (List ℕ)) (state : State) (heart : ℕ) → state.phase ≡ On heart → (behind_all state bodies).phase ≡ On heart
all_on [] state heart on = on
all_on (body ∷ bodies) state heart on = all_on bodies (behind state body) heart (stays_on state body 0 heart on)

-- the Logon that binds a session that accepts tells its HeartBtInt
abbrev IfTaken : {A : Type 0} → Result A Cause → (A → Type 0) → Type 0
IfTaken (Ok a) P = P a
IfTaken (Err cause) P = Unit {0}

demanded : {A : Type 0} (test : Bool) (cause : Cause) (next : Result A Cause) (P : A → Type 0) → IfTaken next P → IfTaken (demand test cause next) P
demanded true cause next P is = is
demanded false cause next P is = tt

some_demanded : {A : Type 0} (found : Option ℕ) (cause : Cause) (next : ℕ → Result A Cause) (P : A → Type 0) → ((n : ℕ) → found ≡ Some n → IfTaken (next n) P) → IfTaken (demand_some found cause next) P
some_demanded None cause next P is = tt
some_demanded (Some n) cause next P is = is n refl

terms_told : (fields : List Field) → IfTaken (terms_of fields) (λ terms. terms.heart ≡ unwrap_or (heart_of fields) 0)
unfolding terms_of
terms_told fields =
    demanded (has_value 98 (codes "0") fields) (BadLogon 98) _ _
    (some_demanded (heart_of fields) (BadLogon 108) _ _ (λ heart is.
    demanded (has_lawful_reset fields) (BadLogon 141) _ _
    (some_demanded (seq_num_of fields) NoNumber _ _ (λ number numbered.
    demanded (not (asks_reset fields) || number == 1) (BadLogon 34) _ _ (ap (λ (o : Option ℕ). unwrap_or o 0) (sym is))))))

welcomed : (b : Bool) (state : State) (terms : _) (at : ℕ) → (after_outcome state (if b then outcome_of_low state.line terms else outcome_of_welcome state.line terms) at).phase ≢ Off
    → (after_outcome state (if b then outcome_of_low state.line terms else outcome_of_welcome state.line terms) at).phase ≡ On terms.heart
welcomed true state terms at on = absurd (on refl)
welcomed false state terms at on = refl

logon_asked : (state : State) (terms : _) (at : ℕ) → (after_outcome state (outcome_of_logon state.line terms) at).phase ≢ Off → (after_outcome state (outcome_of_logon state.line terms) at).phase ≡ On terms.heart
unfolding outcome_of_logon
logon_asked state terms at on = welcomed (nat_lt terms.number (expected_at state.line terms)) state terms at on

result_asked : (state : State) (heart : ℕ) (result : Result _ Cause) (at : ℕ) → (after_outcome state (outcome_of_terms state (result_ok result)) at).phase ≢ Off → IfTaken result (λ terms. terms.heart ≡ heart) → state.phase ≡ Off
    → (after_outcome state (outcome_of_terms state (result_ok result)) at).phase ≡ On heart
result_asked state heart (Ok terms) at on told off = logon_asked state terms at on ∙ ap On told
result_asked state heart (Err cause) at on told off = absurd (on off)

fields_asked : (state : State) (fields : Option (List Field)) (at : ℕ) → state.phase ≡ Off → (after_outcome state (outcome_of_terms state (terms_for None fields)) at).phase ≢ Off
    → (after_outcome state (outcome_of_terms state (terms_for None fields)) at).phase ≡ On (heart_in fields)
fields_asked state None at off on = absurd (on off)
fields_asked state (Some fields) at off on = result_asked state (unwrap_or (heart_of fields) 0) (terms_of fields) at on (terms_told fields) off

pub binds_on : (state : State) (body : List ℕ) (at : ℕ) → state.phase ≡ Off → state.dials ≡ None → (after_receive state body at).phase ≢ Off → (after_receive state body at).phase ≡ On (heart_asked body)
unfolding outcome
binds_on state body at off accepts = (
    let fields = result_ok (fields_of body) in
    let same : outcome state body ≡ outcome_of_terms state (terms_for None fields) = ap (λ phase. outcome_in phase state body fields) off ∙ ap (λ dials. outcome_of_terms state (terms_for dials fields)) accepts in
    subst (λ (o : Outcome). (after_outcome state o at).phase ≢ Off → (after_outcome state o at).phase ≡ On (heart_asked body)) (sym same) (fields_asked state fields at off))

-- A session that dials has asked until a message answers its Logon.
abbrev pub asked_or_on : ℕ → Bool → Phase
asked_or_on heart answered = if answered then On heart else Asked heart

answered_on : (state : State) (heart n : ℕ) → (after_outcome state (outcome_of_answer state.line heart n) 0).phase ≡ On heart
unfolding outcome_of_answer
answered_on state heart n = either (nat_lt n state.line.expected) where
  either : (b : Bool) → (after_outcome state (if b then outcome_of_low_answer state.line heart n else outcome_of_good_answer state.line heart n) 0).phase ≡ On heart
  either true = refl
  either false = refl

answer_asked : (state : State) (heart : ℕ) (answer : Result ℕ Cause) → state.phase ≡ Asked heart → (after_outcome state (outcome_asked state heart answer) 0).phase ≡ asked_or_on heart (is_ok answer)
answer_asked state heart (Ok n) asked = answered_on state heart n
answer_asked state heart (Err cause) asked = asked

body_asked : (names : Names) (heart : ℕ) (state : State) (body : List ℕ) → state.names ≡ names → state.phase ≡ Asked heart → (behind state body).phase ≡ asked_or_on heart (answers_logon names heart body)
unfolding outcome
body_asked names heart state body named asked = (
    let fields = result_ok (fields_of body) in
    let same : outcome state body ≡ outcome_asked state heart (answer_in names heart fields) =
    ap (λ phase. outcome_in phase state body fields) asked ∙ ap (λ n. outcome_asked state heart (answer_in n heart fields)) named in
    subst (λ (o : Outcome). (after_outcome state o 0).phase ≡ asked_or_on heart (answers_logon names heart body)) (sym same) (answer_asked state heart (answer_in names heart fields) asked))

further_asked : (heart : ℕ) (bodies : List (List ℕ)) (next : State) (answered rest : Bool) → next.phase ≡ asked_or_on heart answered → (next.phase ≡ Asked heart → (behind_all next bodies).phase ≡ asked_or_on heart rest)
    → (behind_all next bodies).phase ≡ asked_or_on heart (answered || rest)
further_asked heart bodies next true rest on further = all_on bodies next heart on
further_asked heart bodies next false rest still further = further still

asked_behind : (names : Names) (heart : ℕ) (bodies : List (List ℕ)) (state : State) → state.names ≡ names → state.phase ≡ Asked heart → (behind_all state bodies).phase ≡ asked_or_on heart (list_any (answers_logon names heart) bodies)
asked_behind names heart [] state named asked = asked
asked_behind names heart (body ∷ bodies) state named asked =
    further_asked heart bodies (behind state body) (answers_logon names heart body) (list_any (answers_logon names heart) bodies) (body_asked names heart state body named asked)
    (λ still. asked_behind names heart bodies (behind state body) ((same_behind state body 0).names ∙ named) still)

logon_asks : (state : State) (at heart : ℕ) (dials : Option ℕ) → dials ≡ Some heart → (after_logon state at dials).phase ≡ Asked heart
logon_asks state at heart dials is = subst (λ d. (after_logon state at d).phase ≡ Asked heart) (sym is) refl

pub dialled_behind : (start : State) (past : List (List (List ℕ))) (bodies : List (List ℕ)) (heart : ℕ) → start.dials ≡ Some heart
    → (behind_all (after_ask (after_connections start past) 0) bodies).phase ≡ asked_or_on heart (list_any (answers_logon start.names heart) bodies)
dialled_behind start past bodies heart dials = (
    let machine = after_connections start past in
    let same = same_connections past start in
    asked_behind start.names heart bodies (after_ask machine 0) ((same_logon machine 0 machine.dials).names ∙ same.names) (logon_asks machine 0 heart machine.dials (same.dials ∙ dials)))

pub wait_asked : (heart : ℕ) (answered : Bool) → wait_in (asked_or_on heart answered) ≡ (if answered then 1000 * heart else ANSWER_WAIT)
wait_asked heart true = refl
wait_asked heart false = refl

-- the machine behind some connections, and behind what was handled of the next one
pub same_within : (start : State) (past : List (List (List ℕ))) (bodies : List (List ℕ)) → HasSameSides (behind_all (after_ask (after_connections start past) 0) bodies) start
same_within start past bodies = (
    let machine = after_connections start past in
    same_further (behind_all (after_ask machine 0) bodies) machine start
    (same_further (behind_all (after_ask machine 0) bodies) (after_ask machine 0) machine (same_behind_all bodies (after_ask machine 0)) (same_logon machine 0 machine.dials)) (same_connections past start))
