-- No message ends a connection by a cause from outside.
use Rattle.std.proofs.Common.{◌≡◌, ℕ, Bool, true, false, List, Option, None, Some, Result, Ok, Err, refl, subst}
use Rattle.std.specs.Prelude.{◌==◌, ◌||◌, codes, if◌then◌else◌, nat_lt, not}
use Rattle.std.specs.Result.{result_ok}
use Rattle.fix_fields.specs.Field.{Field}
use Rattle.fix_fields.specs.Reading.{fields_of}
use Rattle.session_core.specs.Carry.{end_of}
use Rattle.session_core.specs.Receive.{Outcome, expected_at, outcome, outcome_asked, outcome_in, outcome_of_answer, outcome_of_good_answer, outcome_of_logon, outcome_of_low, outcome_of_low_answer, outcome_of_step, outcome_of_terms, outcome_of_welcome, receive, step_in, terms_for}
use Rattle.session_core.specs.Route.{answer_in, answer_of, asks_reset, bound_to, demand, demand_some, has_heart, has_lawful_reset, has_no_reset, route, session_of, terms_of}
use Rattle.session_core.specs.Said.{has_value, heart_of, seq_num_of}
use Rattle.session_core.specs.State.{State}
use Rattle.session_core.specs.Steps.{asks_nothing, by_name, by_number, by_seq_num, early, in_order, is_reset, low, move_or_refuse, no_number, on_time, reset, step_of, wrong_comp_id, wrong_name}
use Rattle.session_core.specs.declared.acts.Admin.{Admin}
use Rattle.session_core.specs.declared.causes.Cause.{Cause}
use Rattle.session_core.specs.declared.causes.Cause.TheVariants.{BadLogon, CompId, NoNumber, NoSuchSession, NotLogon}
use Rattle.session_core.specs.declared.names.Names.{Names}
use Rattle.session_core.specs.declared.phases.Phase.{Phase}
use Rattle.session_core.specs.declared.phases.Phase.TheVariants.{Asked, Off, On}
use Rattle.session_desk.specs.Steps.{bound_on, greeting, session_on, unless_bound}
use Rattle.session_desk.specs.declared.routes.Routes.{Routes}
use Rattle.switchboard.specs.Board.{Board}
use Rattle.headline.specs.Ends.{is_from_outside}

-- no cause, or one of a message
abbrev IsInner : Option Cause → Type 0
IsInner None = Unit {0}
IsInner (Some cause) = is_from_outside cause ≡ false

abbrev pub IsInnerErr : {A : Type 0} → Result A Cause → Type 0
IsInnerErr (Ok a) = Unit {0}
IsInnerErr (Err cause) = is_from_outside cause ≡ false

demanded : {A : Type 0} (test : Bool) (cause : Cause) (next : Result A Cause) → is_from_outside cause ≡ false → IsInnerErr next → IsInnerErr (demand test cause next)
demanded true cause next inner rest = rest
demanded false cause next inner rest = inner

some_demanded : {A : Type 0} (found : Option ℕ) (cause : Cause) (next : ℕ → Result A Cause) → is_from_outside cause ≡ false → ((n : ℕ) → IsInnerErr (next n)) → IsInnerErr (demand_some found cause next)
some_demanded None cause next inner rest = inner
some_demanded (Some n) cause next inner rest = rest n

terms_inner : (fields : List Field) → IsInnerErr (terms_of fields)
unfolding terms_of
terms_inner fields =
    demanded (has_value 98 (codes "0") fields) (BadLogon 98) _ refl
    (some_demanded (heart_of fields) (BadLogon 108) _ refl (λ heart.
    demanded (has_lawful_reset fields) (BadLogon 141) _ refl
    (some_demanded (seq_num_of fields) NoNumber _ refl (λ number.
    demanded (not (asks_reset fields) || number == 1) (BadLogon 34) _ refl tt))))

bound_inner : (s : ℕ) (terms : Result _ Cause) → IsInnerErr terms → IsInnerErr (bound_to s terms)
bound_inner s (Ok terms) inner = tt
bound_inner s (Err cause) inner = inner

-- by the first message of an unbound connection
route_inner : (fields : List Field) (names : List Names) → IsInnerErr (route fields names)
route_inner fields names =
    demanded (has_value 35 (codes "A") fields) NotLogon _ refl
    (some_demanded (session_of fields names) NoSuchSession _ refl (λ s. bound_inner s (terms_of fields) (terms_inner fields)))

answer_inner : (names : Names) (heart : ℕ) (fields : Option (List Field)) → IsInnerErr (answer_in names heart fields)
unfolding answer_of
answer_inner names heart None = refl
answer_inner names heart (Some fields) =
    demanded (has_value 35 (codes "A") fields) NotLogon _ refl
    (demanded (has_value 49 names.them fields) (CompId 49) _ refl
    (demanded (has_value 56 names.us fields) (CompId 56) _ refl
    (demanded (has_value 98 (codes "0") fields) (BadLogon 98) _ refl
    (demanded (has_heart heart fields) (BadLogon 108) _ refl
    (demanded (has_no_reset fields) (BadLogon 141) _ refl
    (some_demanded (seq_num_of fields) NoNumber _ refl (λ number. tt)))))))

-- the steps of a bound session
choice : (test : Bool) (one two : _) → IsInner (end_of one) → IsInner (end_of two) → IsInner (end_of (if test then one else two))
choice true one two first second = first
choice false one two first second = second

in_order_inner : (n : ℕ) (fields : List Field) → IsInner (end_of (in_order n fields))
unfolding in_order
in_order_inner n fields =
    choice (asks_nothing fields) _ _ tt (choice (has_value 35 (codes "1") fields) _ _ tt (choice (has_value 35 (codes "4") fields) _ _ tt tt))

early_inner : (n : ℕ) (fields : List Field) → IsInner (end_of (early n fields))
unfolding early
early_inner n fields = choice (has_value 35 (codes "5") fields) _ _ refl (choice (has_value 35 (codes "2") fields) _ _ tt (in_order_inner n fields))

on_time_inner : (n : ℕ) (fields : List Field) → IsInner (end_of (on_time n fields))
unfolding on_time
on_time_inner n fields = choice (has_value 35 (codes "5") fields) _ _ refl (choice (has_value 35 (codes "2") fields) _ _ tt (in_order_inner n fields))

low_inner : (expected n : ℕ) (fields : List Field) → IsInner (end_of (low expected n fields))
unfolding low
low_inner expected n fields = choice (has_value 43 (codes "Y") fields) _ _ tt refl

number_inner : (expected n : ℕ) (fields : List Field) → IsInner (end_of (by_number expected n fields))
unfolding by_number
number_inner expected n fields =
    choice (nat_lt n expected) _ _ (low_inner expected n fields) (choice (nat_lt expected n) _ _ (early_inner n fields) (on_time_inner n fields))

moved_inner : (to : Result ℕ Admin) → IsInner (end_of (move_or_refuse to))
moved_inner (Ok to) = tt
moved_inner (Err reject) = tt

reset_inner : (expected n : ℕ) (fields : List Field) → IsInner (end_of (reset expected n fields))
unfolding reset
reset_inner expected n fields = moved_inner _

name_inner : (expected n : ℕ) (fields : List Field) (tag : Option ℕ) → IsInner (end_of (by_name expected n fields tag))
unfolding wrong_comp_id
name_inner expected n fields (Some tag) = refl
name_inner expected n fields None = choice (is_reset fields) _ _ (reset_inner expected n fields) (number_inner expected n fields)

seq_num_inner : (names : Names) (expected : ℕ) (fields : List Field) (n : Option ℕ) → IsInner (end_of (by_seq_num names expected fields n))
unfolding no_number
seq_num_inner names expected fields None = refl
seq_num_inner names expected fields (Some n) = name_inner expected n fields (wrong_name names fields)

step_inner : (names : Names) (expected : ℕ) (fields : List Field) → IsInner (end_of (step_of names expected fields))
unfolding step_of
step_inner names expected fields = seq_num_inner names expected fields (seq_num_of fields)

outcome_choice : (test : Bool) (one two : Outcome) → IsInner one.effects.end → IsInner two.effects.end → IsInner (if test then one else two).effects.end
outcome_choice true one two first second = first
outcome_choice false one two first second = second

logon_inner : (line : _) (terms : _) → IsInner (outcome_of_logon line terms).effects.end
unfolding outcome_of_logon
logon_inner line terms = outcome_choice (nat_lt terms.number (expected_at line terms)) (outcome_of_low line terms) (outcome_of_welcome line terms) refl tt

terms_of_inner : (state : State) (terms : Option _) → IsInner (outcome_of_terms state terms).effects.end
terms_of_inner state None = tt
terms_of_inner state (Some terms) = logon_inner state.line terms

answered_inner : (line : _) (heart n : ℕ) → IsInner (outcome_of_answer line heart n).effects.end
unfolding outcome_of_answer
answered_inner line heart n = outcome_choice (nat_lt n line.expected) (outcome_of_low_answer line heart n) (outcome_of_good_answer line heart n) refl tt

asked_inner : (state : State) (heart : ℕ) (answer : Result ℕ Cause) → IsInnerErr answer → IsInner (outcome_asked state heart answer).effects.end
asked_inner state heart (Ok n) inner = answered_inner state.line heart n
asked_inner state heart (Err cause) inner = inner

stepped_inner : (state : State) (body : List ℕ) (fields : Option (List Field)) → IsInner (outcome_of_step state body (step_in state.names state.line.expected fields)).effects.end
stepped_inner state body None = tt
stepped_inner state body (Some fields) = step_inner state.names state.line.expected fields

outcome_inner : (phase : Phase) (state : State) (body : List ℕ) (fields : Option (List Field)) → IsInner (outcome_in phase state body fields).effects.end
outcome_inner Off state body fields = terms_of_inner state (terms_for state.dials fields)
outcome_inner (Asked heart) state body fields = asked_inner state heart (answer_in state.names heart fields) (answer_inner state.names heart fields)
outcome_inner (On heart) state body fields = stepped_inner state body fields

received_inner : (state : State) (body : List ℕ) (at : ℕ) → IsInner (receive state body at).end
unfolding outcome
received_inner state body at = outcome_inner state.phase state body (result_ok (fields_of body))

-- by a message on a bound session
pub message_inner : (state : State) (body : List ℕ) (at : ℕ) (cause : Cause) → (receive state body at).end ≡ Some cause → is_from_outside cause ≡ false
message_inner state body at cause ends = subst IsInner ends (received_inner state body at)

-- a first message that is refused
unbound_inner : (bound : Option ℕ) (routed : Result ℕ Cause) → IsInnerErr routed → IsInnerErr (unless_bound bound routed)
unbound_inner None routed inner = inner
unbound_inner (Some connection) (Ok a) inner = refl
unbound_inner (Some connection) (Err NotLogon) inner = refl
unbound_inner (Some connection) (Err other) inner = refl

on_inner : (routes : Routes) (routed : Result ℕ Cause) → IsInnerErr routed → IsInnerErr (session_on routes routed)
on_inner routes (Ok j) inner = tt
on_inner routes (Err cause) inner = inner

pub greeting_inner : (board : Board) (routes : Routes) (fields : Option (List Field)) → IsInnerErr (greeting board routes fields)
greeting_inner board routes None = refl
greeting_inner board routes (Some fields) =
    on_inner routes (unless_bound (bound_on board routes (session_of fields routes.names.items)) (route fields routes.names.items))
    (unbound_inner (bound_on board routes (session_of fields routes.names.items)) (route fields routes.names.items) (route_inner fields routes.names.items))
