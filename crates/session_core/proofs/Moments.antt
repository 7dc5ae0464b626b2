-- Moments decide nothing of what follows from a message.
use Rattle.std.proofs.Common.{◌≡◌, ℕ, subst, List, [], ◌∷◌, ◌++◌, ap, sym, ◌∙◌, refl, true, false, Bool, if◌then◌else◌, Option, None, Some}
use Rattle.std.specs.Prelude.{Result, Ok, Err}
use Rattle.std.specs.Result.{result_ok}
use Rattle.fix_fields.specs.Field.{Field}
use Rattle.fix_fields.specs.Reading.{fields_of}
use Rattle.seq_gaps.specs.Line.{Line, after_clear}
use Rattle.session_core.specs.declared.tasks.Task.{Task}
use Rattle.session_core.specs.Receive.{Outcome, outcome_of_terms, terms_for, outcome_of_step, step_in, outcome_asked, outcome_in, outcome, receive, after_receive, after_outcome}
use Rattle.session_core.specs.Ask.{after_ask, after_logon}
use Rattle.session_core.specs.Laws.{SamenessLaws, MomentsDontMatter, RunsFollowBodies}
use Rattle.session_core.specs.Route.{answer_in}
use Rattle.session_core.specs.Runs.{SameButMoments, comes, ticks, queues, acts_in, behind}
use Rattle.session_core.specs.State.{State, after_leave}
use Rattle.session_core.specs.Tick.{tick_of, behind_tick, after_tick}
use Rattle.session_core.specs.declared.phases.Phase.{Phase}
use Rattle.session_core.specs.declared.phases.Phase.TheVariants.{Off, Asked, On}
use Rattle.session_core.specs.declared.routing.Terms.{Terms}
use Rattle.session_core.specs.declared.steps.Step.{Step}
use Rattle.session_core.specs.declared.ticks.Tick.{Tick}
use Rattle.session_core.specs.declared.ticks.Tick.TheVariants.{Quiet, Beat, Test, Expire}
use Rattle.session_core.specs.declared.causes.Cause.{Cause}

terms_same : (s t : State) (terms : Option Terms) → SameButMoments s t → outcome_of_terms s terms ≡ outcome_of_terms t terms
terms_same s t None same = cc (same.phase, same.line)
terms_same s t (Some terms) same = cc (same.line)

step_same : (s t : State) (body : List ℕ) (step : Option Step) → SameButMoments s t → outcome_of_step s body step ≡ outcome_of_step t body step
step_same s t body None same = cc (same.phase, same.line)
step_same s t body (Some step) same = cc (same.phase, same.line)

asked_same : (s t : State) (heart : ℕ) (answer : Result ℕ Cause) → SameButMoments s t → outcome_asked s heart answer ≡ outcome_asked t heart answer
asked_same s t heart (Ok n) same = cc (same.line)
asked_same s t heart (Err cause) same = cc (same.phase, same.line)

phase_same : (phase : Phase) (s t : State) (body : List ℕ) (fields : Option (List Field)) → SameButMoments s t → outcome_in phase s body fields ≡ outcome_in phase t body fields
phase_same Off s t body fields same =
    terms_same s t (terms_for s.dials fields) same ∙ ap (λ dials. outcome_of_terms t (terms_for dials fields)) same.dials
phase_same (Asked heart) s t body fields same =
    asked_same s t heart (answer_in s.names heart fields) same
    ∙ ap (λ names. outcome_asked t heart (answer_in names heart fields)) same.names
phase_same (On heart) s t body fields same =
    step_same s t body (step_in s.names s.line.expected fields) same
    ∙ ap (λ names. outcome_of_step t body (step_in names s.line.expected fields)) same.names
    ∙ ap (λ line. outcome_of_step t body (step_in t.names line.expected fields)) same.line

outcome_same : (s t : State) (body : List ℕ) → SameButMoments s t → outcome s body ≡ outcome t body
unfolding outcome
outcome_same s t body same =
    phase_same s.phase s t body (result_ok (fields_of body)) same
    ∙ ap (λ phase. outcome_in phase t body (result_ok (fields_of body))) same.phase

either_same : (b : Bool) (x y z w : State) → SameButMoments x z → SameButMoments y w → SameButMoments (if b then x else y) (if b then z else w)
either_same true x y z w first second = first
either_same false x y z w first second = second

stamped_same : (s t : State) (o : Outcome) (m n : ℕ) → SameButMoments s t → SameButMoments (after_outcome s o m) (after_outcome t o n)
stamped_same s t o m n same =
    either_same o.heard _ _ _ _ (record { names = same.names; dials = same.dials; phase = refl; line = refl }) same

pub moments_dont_matter : MomentsDontMatter
moments_dont_matter s t body m n same = ap (λ o. o.effects) (outcome_same s t body same)

receive_same : (s t : State) (body : List ℕ) (m n : ℕ) → SameButMoments s t → SameButMoments (after_receive s body m) (after_receive t body n)
receive_same s t body m n same =
    subst (λ (o : Outcome). SameButMoments (after_outcome s (outcome s body) m) (after_outcome t o n)) (outcome_same s t body same) (stamped_same s t (outcome s body) m n same)

same_self : (s : State) → SameButMoments s s
same_self s = record { names = refl; dials = refl; phase = refl; line = refl }

same_behind : (s t u : State) → SameButMoments s t → SameButMoments t u → SameButMoments s u
same_behind s t u one two = record { names = one.names ∙ two.names; dials = one.dials ∙ two.dials; phase = one.phase ∙ two.phase; line = one.line ∙ two.line }

same_back : (s t : State) → SameButMoments s t → SameButMoments t s
same_back s t same = record { names = sym same.names; dials = sym same.dials; phase = sym same.phase; line = sym same.line }

tick_keeps : (s : State) (m : ℕ) (tick : Tick) → SameButMoments s (behind_tick s m tick)
tick_keeps s m Quiet = same_self s
tick_keeps s m Beat = record { names = refl; dials = refl; phase = refl; line = refl }
tick_keeps s m Test = record { names = refl; dials = refl; phase = refl; line = refl }
tick_keeps s m Expire = same_self s

leave_same : (s t : State) → SameButMoments s t → SameButMoments (after_leave s) (after_leave t)
leave_same s t same = record { names = same.names; dials = same.dials; phase = refl; line = ap (λ (line : Line Task). after_clear line) same.line }

logon_same : (s t : State) (m n : ℕ) (dials : Option ℕ) → SameButMoments s t → SameButMoments (after_logon s m dials) (after_logon t n dials)
logon_same s t m n None same = same
logon_same s t m n (Some heart) same = record { names = same.names; dials = same.dials; phase = refl; line = same.line }

ask_same : (s t : State) (m n : ℕ) → SameButMoments s t → SameButMoments (after_ask s m) (after_ask t n)
ask_same s t m n same =
    subst (λ (dials : Option ℕ). SameButMoments (after_logon s m s.dials) (after_logon t n dials)) same.dials (logon_same s t m n s.dials same)

pub sameness_laws : SamenessLaws
sameness_laws = record {
  reflexive = same_self;
  symmetric = same_back;
  transitive = same_behind;
  receive = receive_same;
  tick = λ s m. tick_keeps s m (tick_of s m);
  sent = λ s m. record { names = refl; dials = refl; phase = refl; line = refl };
  leave = leave_same;
  ask = ask_same;
}

pub runs_follow_bodies : RunsFollowBodies
runs_follow_bodies s t [] same = (refl, same)
runs_follow_bodies s t (comes body moment ∷ events) same =
    let rest = runs_follow_bodies (after_receive s body moment) (behind t body) events (receive_same s t body moment 0 same) in
    (ap (λ effects. effects.acts ++ acts_in (after_receive s body moment) events) (moments_dont_matter s t body moment 0 same) ∙ ap (λ acts. (receive t body 0).acts ++ acts) rest.0, rest.1)
runs_follow_bodies s t (ticks moment ∷ events) same =
    runs_follow_bodies (after_tick s moment) t events (same_behind (after_tick s moment) s t (same_back s (after_tick s moment) (tick_keeps s moment (tick_of s moment))) same)
runs_follow_bodies s t (queues moment ∷ events) same =
    runs_follow_bodies (record s { sent = moment }) t events (record { names = same.names; dials = same.dials; phase = same.phase; line = same.line })
