-- In which phase a message leaves a session.
use Rattle.std.proofs.Common.{◌≡◌, ◌≢◌, ℕ, Bool, true, false, if◌then◌else◌, List, Option, Some, None, IsSome, IsNone, Result, Ok, Err, is_ok, refl, sym, ap, subst, ◌∙◌}
use Rattle.std.specs.Prelude.{codes, nat_lt}
use Rattle.std.specs.Result.{result_ok}
use Rattle.std.proofs.lemmas.Bool.{false≢true}
use Rattle.fix_fields.specs.Field.{Field}
use Rattle.fix_fields.specs.Reading.{fields_of}
use Rattle.session_core.specs.Laws.{PhasesFollow}
use Rattle.session_core.specs.Receive.{Outcome, after_outcome, after_receive, expected_at, outcome, outcome_asked, outcome_in, outcome_of_answer, outcome_of_good_answer, outcome_of_logon, outcome_of_low, outcome_of_low_answer, outcome_of_step, outcome_of_terms, outcome_of_welcome, receive, step_in, terms_for}
use Rattle.session_core.specs.Route.{answer_in, bound_to, demand, demand_some, session_of, terms_of}
use Rattle.session_core.specs.Runs.{binds, routes}
use Rattle.session_core.specs.Said.{has_value}
use Rattle.session_core.specs.State.{State, heart_in}
use Rattle.session_core.specs.declared.causes.Cause.{Cause}
use Rattle.session_core.specs.declared.causes.Cause.TheVariants.{NotLogon, NoSuchSession}
use Rattle.session_core.specs.declared.names.Names.{Names}
use Rattle.session_core.specs.declared.phases.Phase.{Phase}
use Rattle.session_core.specs.declared.phases.Phase.TheVariants.{Off, Asked, On}
use Rattle.session_core.specs.declared.routing.Terms.{Terms}
use Rattle.session_core.specs.declared.steps.Step.{Step}

abbrev is_off : Phase → Bool
is_off Off = true
is_off (Asked heart) = false
is_off (On heart) = false

on_is_on : (heart : ℕ) → On heart ≢ Off
on_is_on heart e = false≢true (ap is_off e)

phase_if : (b : Bool) (s t : State) → s.phase ≢ Off → t.phase ≢ Off → (if b then s else t).phase ≢ Off
phase_if true s t is other = is
phase_if false s t is other = other

outcome_if : (b : Bool) (o p : Outcome) → o.phase ≢ Off → p.phase ≢ Off → (if b then o else p).phase ≢ Off
outcome_if true o p is other = is
outcome_if false o p is other = other

answer_on : (state : State) (heart n : ℕ) → (outcome_of_answer state.line heart n).phase ≢ Off
unfolding outcome_of_answer
answer_on state heart n = outcome_if (nat_lt n state.line.expected) (outcome_of_low_answer state.line heart n) (outcome_of_good_answer state.line heart n) (on_is_on heart) (on_is_on heart)

asked_on : (state : State) (heart : ℕ) (answer : Result ℕ Cause) → state.phase ≢ Off → (outcome_asked state heart answer).phase ≢ Off
asked_on state heart (Ok n) is = answer_on state heart n
asked_on state heart (Err cause) is = is

step_on : (state : State) (body : List ℕ) (step : Option Step) → state.phase ≢ Off → (outcome_of_step state body step).phase ≢ Off
step_on state body None is = is
step_on state body (Some step) is = is

outcome_on : (phase : Phase) (state : State) (body : List ℕ) (fields : Option (List Field)) → phase ≢ Off → state.phase ≢ Off → (outcome_in phase state body fields).phase ≢ Off
outcome_on Off state body fields is on = absurd (is refl)
outcome_on (Asked heart) state body fields is on = asked_on state heart (answer_in state.names heart fields) on
outcome_on (On heart) state body fields is on = step_on state body (step_in state.names state.line.expected fields) on

stays_on : (state : State) (body : List ℕ) (m : ℕ) → state.phase ≢ Off → (after_receive state body m).phase ≢ Off
unfolding outcome
stays_on state body m on =
    phase_if (outcome state body).heard _ state (outcome_on state.phase state body (result_ok (fields_of body)) on on) on

-- a Logon with terms is answered and heard, unless it ends the connection
heard_on : (b : Bool) (s t : State) → b ≡ true → s.phase ≢ Off → (if b then s else t).phase ≢ Off
heard_on true s t is on = on
heard_on false s t is on = absurd (false≢true is)

welcome_if : (b : Bool) (state : State) (o p : Outcome) (m : ℕ) → IsSome o.effects.end → p.heard ≡ true → p.phase ≢ Off → IsNone (if b then o else p).effects.end → (after_outcome state (if b then o else p) m).phase ≢ Off
welcome_if true state o p m ends heard on none = absurd (false≢true (sym none ∙ ends))
welcome_if false state o p m ends heard on none = heard_on p.heard _ state heard on

logon_on : (state : State) (terms : Terms) (m : ℕ) → IsNone (outcome_of_logon state.line terms).effects.end → (after_outcome state (outcome_of_logon state.line terms) m).phase ≢ Off
unfolding outcome_of_logon
logon_on state terms m none =
    welcome_if (nat_lt terms.number (expected_at state.line terms)) state (outcome_of_low state.line terms) (outcome_of_welcome state.line terms) m refl refl (on_is_on terms.heart) none

terms_on : (state : State) (terms : Option Terms) (m : ℕ) → IsSome terms → IsNone (outcome_of_terms state terms).effects.end → (after_outcome state (outcome_of_terms state terms) m).phase ≢ Off
terms_on state None m some none = absurd (false≢true some)
terms_on state (Some terms) m some none = logon_on state terms m none

routed : (test : Bool) (s : Option ℕ) (r : Result Terms Cause) → is_ok (demand test NotLogon (demand_some s NoSuchSession (λ k. bound_to k r))) ≡ true → IsSome (result_ok r)
routed false s r e = absurd (false≢true e)
routed true None r e = absurd (false≢true e)
routed true (Some k) (Err cause) e = absurd (false≢true e)
routed true (Some k) (Ok terms) e = refl

terms_some : (names : List Names) (fields : Option (List Field)) → routes names fields ≡ true → IsSome (terms_for None fields)
terms_some names None is = absurd (false≢true is)
terms_some names (Some fields) is = routed (has_value 35 (codes "A") fields) (session_of fields names) (terms_of fields) is

binds_on : (names : List Names) (state : State) (body : List ℕ) (m : ℕ) → state.phase ≡ Off → state.dials ≡ None → binds names body ≡ true
    → IsNone (receive state body m).end → (after_receive state body m).phase ≢ Off
unfolding outcome
binds_on names state body m off accepts is none =
    let fields = result_ok (fields_of body) in
    let same : outcome state body ≡ outcome_of_terms state (terms_for None fields) = ap (λ phase. outcome_in phase state body fields) off ∙ ap (λ dials. outcome_of_terms state (terms_for dials fields)) accepts in
    subst (λ (o : Outcome). (after_outcome state o m).phase ≢ Off) (sym same)
    (terms_on state (terms_for None fields) m (terms_some names fields is) (subst (λ (o : Outcome). IsNone o.effects.end) same none))

-- its HeartBtInt stays
heart_if : (b : Bool) (heart : ℕ) (s t : State) → heart_in s.phase ≡ heart → heart_in t.phase ≡ heart → heart_in (if b then s else t).phase ≡ heart
heart_if true heart s t is other = is
heart_if false heart s t is other = other

heart_either : (b : Bool) (heart : ℕ) (o p : Outcome) → heart_in o.phase ≡ heart → heart_in p.phase ≡ heart → heart_in (if b then o else p).phase ≡ heart
heart_either true heart o p is other = is
heart_either false heart o p is other = other

answer_heart : (state : State) (heart n : ℕ) → heart_in (outcome_of_answer state.line heart n).phase ≡ heart
unfolding outcome_of_answer
answer_heart state heart n = heart_either (nat_lt n state.line.expected) heart (outcome_of_low_answer state.line heart n) (outcome_of_good_answer state.line heart n) refl refl

asked_heart : (state : State) (heart : ℕ) (answer : Result ℕ Cause) → heart_in state.phase ≡ heart → heart_in (outcome_asked state heart answer).phase ≡ heart
asked_heart state heart (Ok n) is = answer_heart state heart n
asked_heart state heart (Err cause) is = is

step_heart : (state : State) (body : List ℕ) (step : Option Step) (heart : ℕ) → heart_in state.phase ≡ heart → heart_in (outcome_of_step state body step).phase ≡ heart
step_heart state body None heart is = is
step_heart state body (Some step) heart is = is

outcome_heart : (phase : Phase) (state : State) (body : List ℕ) (fields : Option (List Field)) → phase ≢ Off → state.phase ≡ phase → heart_in (outcome_in phase state body fields).phase ≡ heart_in phase
outcome_heart Off state body fields is same = absurd (is refl)
outcome_heart (Asked heart) state body fields is same = asked_heart state heart (answer_in state.names heart fields) (ap heart_in same)
outcome_heart (On heart) state body fields is same = step_heart state body (step_in state.names state.line.expected fields) heart (ap heart_in same)

heart_stays : (state : State) (body : List ℕ) (m : ℕ) → state.phase ≢ Off → heart_in (after_receive state body m).phase ≡ heart_in state.phase
unfolding outcome
heart_stays state body m on =
    heart_if (outcome state body).heard (heart_in state.phase) _ state (outcome_heart state.phase state body (result_ok (fields_of body)) on refl) refl

pub phases_follow : PhasesFollow
phases_follow = record { stays_on = stays_on; binds = binds_on; heart = heart_stays }
