-- The reported calls of a plan, told by its lines and the calls alone.
use Rattle.std.specs.Prelude.{◌≡◌, ℕ, zero, suc, ◌<◌, ◌≤◌, ◌⊎◌, false, List, [], ◌∷◌, ◌++◌, Result}
use Rattle.lease_words.specs.declared.item.Sent.{Sent}
use Rattle.library_api.specs.declared.event.Event.{Event}
use Rattle.library_api.specs.declared.event.Event.TheVariants as events
use Rattle.library_api.specs.declared.refusal.AskError.{AskError}
use Rattle.library_api.specs.declared.refusal.HandRefusal.{HandRefusal}
use Rattle.library_api.specs.declared.refusal.ReleaseRefusal.{ReleaseRefusal}
use Rattle.library_api.specs.declared.refusal.Released.{Released}
use Rattle.library_api.specs.declared.refusal.SendRefusal.{SendRefusal}
use Rattle.run_report.specs.declared.calls.Call.{Call}
use Rattle.run_report.specs.declared.calls.Call.TheVariants as calls
use Rattle.script_text.specs.declared.steps.LibStep.{LibStep}
use Rattle.script_text.specs.declared.steps.LibStep.TheVariants as act
use Rattle.script_text.specs.declared.steps.Step.{Step}
use Rattle.plan_runner.specs.Lines.{is_vain, left_of_read}
use Rattle.plan_runner.specs.Plans.{IsLineAt}

abbrev pub IsPoll : Call → Type 0
IsPoll call = (event : Event) × (call ≡ calls.Poll event)

-- a call is what a line says, whatever it was answered
abbrev pub IsCallOf : LibStep → Call → Type 0
IsCallOf (act.Request s from) call = (answer : Result ℕ AskError) × (call ≡ calls.Request s from answer)
IsCallOf act.Poll call = IsPoll call
IsCallOf (act.Send s body) call = (answer : Result Sent SendRefusal) × (call ≡ calls.Send s body answer)
IsCallOf (act.Release s) call = (answer : Result Released ReleaseRefusal) × (call ≡ calls.Release s answer)
IsCallOf act.Beat call = call ≡ calls.Beat
IsCallOf (act.Hand s heir) call = (answer : Result Released HandRefusal) × (call ≡ calls.Hand s heir answer)
IsCallOf act.Answer call = IsPoll call
IsCallOf (act.Read count) call = IsPoll call

-- What a poll leaves of `answer`: a grant and a refusal close the request, and a lost lease does where it was that of its grant.
abbrev pub LeavesAnswer : Event → ℕ → ℕ → Type 0
LeavesAnswer events.Nothing old new = new ≡ old
LeavesAnswer (events.NotYet s pos published) old new = new ≡ old
LeavesAnswer (events.Granted nr s lease from start) old new = new ≡ 0
LeavesAnswer (events.Refused nr s why) old new = new ≡ 0
LeavesAnswer (events.Message s lease pos bytes) old new = new ≡ old
LeavesAnswer (events.Stale s lease pos) old new = new ≡ old
LeavesAnswer (events.LeaseLost s lease seen) old new = (new ≡ 0) ⊎ (new ≡ old)

-- a fact holds of the event of a poll
abbrev pub OfPoll : (Event → Type 0) → Call → Type 0
OfPoll Holds call = (event : Event) × (call ≡ calls.Poll event) × Holds event

-- what a reported call leaves of a line: of a line that is one call nothing
abbrev pub Leaves : LibStep → Call → ℕ → ℕ → Type 0
Leaves act.Answer call old new = OfPoll (λ event. LeavesAnswer event old new) call
Leaves (act.Read count) call old new = OfPoll (λ event. new ≡ left_of_read event old) call
Leaves (act.Request s from) call old new = new ≡ 0
Leaves act.Poll call old new = new ≡ 0
Leaves (act.Send s body) call old new = new ≡ 0
Leaves (act.Release s) call old new = new ≡ 0
Leaves act.Beat call old new = new ≡ 0
Leaves (act.Hand s heir) call old new = new ≡ 0

-- How much of a line is left as it begins: of `answer` one where a request is open, of `read` the messages.
abbrev pub IsFirst : LibStep → ℕ → Type 0
IsFirst act.Answer first = first ≤ 1
IsFirst (act.Read count) first = first ≡ count
IsFirst (act.Request s from) first = first ≡ 1
IsFirst act.Poll first = first ≡ 1
IsFirst (act.Send s body) first = first ≡ 1
IsFirst (act.Release s) first = first ≡ 1
IsFirst act.Beat first = first ≡ 1
IsFirst (act.Hand s heir) first = first ≡ 1

-- A line of which something is left has one more reported call, which isn't to be made again.
pub record HasOneMore (line : LibStep) (SoFar : List Call → ℕ → Type 0) (own : List Call) (left : ℕ) : Type 0 where
  pub before : List Call
  pub mid : ℕ
  pub so_far : SoFar before mid
  pub some : 0 < mid
  pub call : Call
  pub is : IsCallOf line call
  pub told : is_vain line call ≡ false
  pub leaves : Leaves line call mid left
  pub own_are : own ≡ before ++ call ∷ []

-- a line's first reported calls, so many, and how much of it they leave
abbrev pub LineCalls : LibStep → ℕ → List Call → ℕ → Type 0
LineCalls line zero own left = (own ≡ []) × IsFirst line left
LineCalls line (suc n) own left = HasOneMore line (LineCalls line n) own left

-- the next line of a plan has its calls, which leave so much of that line
pub record HasLine (number : ℕ) (plan : List Step) (at : ℕ) (SoFar : List Call → Type 0) (left : ℕ) (reported : List Call) : Type 0 where
  pub before : List Call
  pub so_far : SoFar before
  pub line : LibStep
  pub is : IsLineAt number plan at line
  pub count : ℕ
  pub own : List Call
  pub calls : LineCalls line count own left
  pub reported_are : reported ≡ before ++ own

-- The reported calls are those of the first lines of a plan, in their order.
abbrev pub PlanCalls : ℕ → List Step → ℕ → List Call → Type 0
PlanCalls number plan zero reported = reported ≡ []
PlanCalls number plan (suc n) reported = HasLine number plan n (PlanCalls number plan n) 0 reported

-- The reported calls are those of a plan up to a line that stands: something of it is left.
pub record StandCalls (number : ℕ) (plan : List Step) (reported : List Call) : Type 0 where
  pub at : ℕ
  pub left : ℕ
  pub some : 0 < left
  pub calls : HasLine number plan at (PlanCalls number plan at) left reported
