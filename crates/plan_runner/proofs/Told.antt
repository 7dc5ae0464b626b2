-- The reported calls are those of the plan's lines.
use Rattle.std.proofs.Common.{◌≡◌, inl, inr, ℕ, zero, suc, ◌≤◌, Bool, true, List, [], ◌∷◌, ◌++◌, Option, None, Some, refl, ap, subst, sym, ◌∙◌, append_assoc, append-nil, arith}
use Rattle.library_api.specs.Known.{Known}
use Rattle.library_api.specs.Waits.{most_waits}
use Rattle.library_calls.specs.Calls.{MakesCall}
use Rattle.run_report.specs.declared.calls.Call.{Call}
use Rattle.script_text.specs.declared.steps.LibStep.{LibStep}
use Rattle.script_text.specs.declared.steps.LibStep.TheVariants as act
use Rattle.script_text.specs.declared.steps.Step.{Step}
use Rattle.plan_runner.specs.Calls.{IsCallOf, IsFirst, Leaves, LeavesAnswer, LineCalls, PlanCalls, StandCalls}
use Rattle.plan_runner.specs.Lines.{call_of, is_idle_poll, is_vain, left_after, left_first, left_to_read, open_count}
use Rattle.plan_runner.specs.Plans.{CarriesLines, PlanStands}
use Rattle.plan_runner.specs.Turns.{Advances, Stage, Times, WaitsFor, WaitsOnce, begun}
use Rattle.plan_runner.specs.Waits.{WaitsAtLine}
use Rattle.plan_runner.proofs.Polled.{poll_leaves}
use Rattle.plan_runner.proofs.Vain.{idle_leaves, waits_count}

-- of `answer` so much is left as requests are open
abbrev Tied : LibStep → ℕ → Option ℕ → Type 0
Tied act.Answer left unanswered = left ≡ open_count unanswered
Tied (act.Read count) left unanswered = Unit {0}
Tied (act.Request s from) left unanswered = Unit {0}
Tied act.Poll left unanswered = Unit {0}
Tied (act.Send s body) left unanswered = Unit {0}
Tied (act.Release s) left unanswered = Unit {0}
Tied act.Beat left unanswered = Unit {0}
Tied (act.Hand s heir) left unanswered = Unit {0}

tied_first : (line : LibStep) (unanswered : Option ℕ) → Tied line (left_first line unanswered) unanswered
tied_first act.Answer unanswered = refl
tied_first (act.Read count) unanswered = tt
tied_first (act.Request s from) unanswered = tt
tied_first act.Poll unanswered = tt
tied_first (act.Send s body) unanswered = tt
tied_first (act.Release s) unanswered = tt
tied_first act.Beat unanswered = tt
tied_first (act.Hand s heir) unanswered = tt

tied_after : (line : LibStep) (call : Call) (unanswered : Option ℕ) (left : ℕ) → Tied line (left_after line call unanswered left) unanswered
tied_after act.Answer call unanswered left = refl
tied_after (act.Read count) call unanswered left = tt
tied_after (act.Request s from) call unanswered left = tt
tied_after act.Poll call unanswered left = tt
tied_after (act.Send s body) call unanswered left = tt
tied_after (act.Release s) call unanswered left = tt
tied_after act.Beat call unanswered left = tt
tied_after (act.Hand s heir) call unanswered left = tt

tied_vain : (line : LibStep) (call : Call) (old new : Known) (left : ℕ) → MakesCall (call_of line) call old new → is_vain line call ≡ true → Tied line left old.unanswered → Tied line left new.unanswered
tied_vain act.Answer call old new left makes vain tied =
    tied ∙ sym (idle_leaves makes.0 (open_count old.unanswered) (open_count new.unanswered) (subst (λ (c : Call). is_idle_poll c ≡ true) makes.1 vain) (poll_leaves makes.0 old new makes.2).left)
tied_vain (act.Read count) call old new left makes vain tied = tt
tied_vain (act.Request s from) call old new left makes vain tied = tt
tied_vain act.Poll call old new left makes vain tied = tt
tied_vain (act.Send s body) call old new left makes vain tied = tt
tied_vain (act.Release s) call old new left makes vain tied = tt
tied_vain act.Beat call old new left makes vain tied = tt
tied_vain (act.Hand s heir) call old new left makes vain tied = tt

few_open : (unanswered : Option ℕ) → open_count unanswered ≤ 1
few_open None = omega arith
few_open (Some nr) = omega arith

first_left : (line : LibStep) (unanswered : Option ℕ) → IsFirst line (left_first line unanswered)
first_left act.Answer unanswered = few_open unanswered
first_left (act.Read count) unanswered = refl
first_left (act.Request s from) unanswered = refl
first_left act.Poll unanswered = refl
first_left (act.Send s body) unanswered = refl
first_left (act.Release s) unanswered = refl
first_left act.Beat unanswered = refl
first_left (act.Hand s heir) unanswered = refl

call_is : (line : LibStep) (call : Call) (old new : Known) → MakesCall (call_of line) call old new → IsCallOf line call
call_is act.Answer call old new makes = (makes.0, makes.1)
call_is (act.Read count) call old new makes = (makes.0, makes.1)
call_is (act.Request s from) call old new makes = (makes.0, makes.1)
call_is act.Poll call old new makes = (makes.0, makes.1)
call_is (act.Send s body) call old new makes = (makes.0, makes.1)
call_is (act.Release s) call old new makes = (makes.0, makes.1)
call_is act.Beat call old new makes = makes.0
call_is (act.Hand s heir) call old new makes = (makes.0, makes.1)

call_leaves : (line : LibStep) (call : Call) (old new : Known) (left : ℕ) → MakesCall (call_of line) call old new → Tied line left old.unanswered → Leaves line call left (left_after line call new.unanswered left)
call_leaves act.Answer call old new left makes tied =
    (makes.0, makes.1, subst (λ (n : ℕ). LeavesAnswer makes.0 n (open_count new.unanswered)) (sym tied) (poll_leaves makes.0 old new makes.2).left)
call_leaves (act.Read count) call old new left makes tied = (makes.0, makes.1, ap (λ (c : Call). left_to_read c left) makes.1)
call_leaves (act.Request s from) call old new left makes tied = refl
call_leaves act.Poll call old new left makes tied = refl
call_leaves (act.Send s body) call old new left makes tied = refl
call_leaves (act.Release s) call old new left makes tied = refl
call_leaves act.Beat call old new left makes tied = refl
call_leaves (act.Hand s heir) call old new left makes tied = refl

-- what waiting turns leave
record Keeps (line : LibStep) (old new : Stage) : Type 0 where
  calls : new.calls ≡ old.calls
  left : new.left ≡ old.left
  tied : Tied line old.left old.library.unanswered → Tied line new.left new.library.unanswered

once_keeps : (wide : Bool) (line : LibStep) (old new : Stage) → WaitsOnce wide line old new → Keeps line old new
once_keeps wide line old new once = elim once [
  | inl closed ↦ subst (λ (s : Stage). Keeps line old s) (sym closed.1) (record { calls = refl; left = refl; tied = λ t. t })
  | inr vain ↦ subst (λ (s : Stage). Keeps line old s) (sym vain.rest) (record { calls = refl; left = refl; tied = λ t. tied_vain line vain.call old.library new.library old.left vain.makes vain.vain t })
]

waits_keep : (wide : Bool) (line : LibStep) (count : ℕ) (old new : Stage) → WaitsFor wide line count old new → Keeps line old new
waits_keep wide line zero old new same = subst (λ (s : Stage). Keeps line old s) (sym same) (record { calls = refl; left = refl; tied = λ t. t })
waits_keep wide line (suc n) old new waits =
    let before = waits_keep wide line n old waits.0 waits.1 in
    let last = once_keeps wide line waits.0 new waits.2 in
    record { calls = last.calls ∙ before.calls; left = last.left ∙ before.left; tied = λ t. last.tied (before.tied t) }

pub calls_stay : (wide : Bool) (line : LibStep) (count : ℕ) (old new : Stage) → WaitsFor wide line count old new → new.calls ≡ old.calls
calls_stay wide line count old new waits = (waits_keep wide line count old new waits).calls

-- the calls of a line under way
record HasCalls (line : LibStep) (told : ℕ) (old new : Stage) : Type 0 where
  own : List Call
  calls : LineCalls line told own new.left
  reported : new.calls ≡ old.calls ++ own
  tied : Tied line new.left new.library.unanswered

way_calls : (wide : Bool) (turns : ℕ) (line : LibStep) (told : ℕ) (old new : Stage) → Times (Advances wide turns line) told (begun line old) new → HasCalls line told old new
way_calls wide turns line zero old new same =
    subst (λ (s : Stage). HasCalls line zero old s) (sym same)
    (record { own = []; calls = (refl, first_left line old.library.unanswered); reported = sym (append-nil old.calls); tied = tied_first line old.library.unanswered })
way_calls wide turns line (suc n) old new advances =
    let mid = advances.0 in
    let more = advances.2 in
    let was = way_calls wide turns line n old mid advances.1 in
    let kept = waits_keep wide line more.waits mid more.mid more.waited in
    let is = more.reports in
    subst (λ (s : Stage). HasCalls line (suc n) old s) (sym is.rest)
    (record {
      own = was.own ++ is.call ∷ [];
      calls = record {
        before = was.own;
        mid = mid.left;
        so_far = was.calls;
        some = more.some;
        call = is.call;
        is = call_is line is.call more.mid.library new.library is.makes;
        told = is.told;
        leaves = subst (λ (left : ℕ). Leaves line is.call left (left_after line is.call new.library.unanswered more.mid.left)) kept.left (call_leaves line is.call more.mid.library new.library more.mid.left is.makes (kept.tied was.tied));
        own_are = refl;
      };
      reported = ap (λ (calls : List Call). calls ++ is.call ∷ []) (kept.calls ∙ was.reported) ∙ append_assoc old.calls was.own (is.call ∷ []);
      tied = tied_after line is.call new.library.unanswered more.mid.left;
    })

pub lines_calls : (wide : Bool) (turns number : ℕ) (plan : List Step) (count : ℕ) (old new : Stage) → old.calls ≡ [] → CarriesLines wide turns number plan count old new → PlanCalls number plan count new.calls
lines_calls wide turns number plan zero old new none same = ap (λ (s : Stage). s.calls) same ∙ none
lines_calls wide turns number plan (suc n) old new none carries =
    let mid = carries.0 in
    let at = carries.2 in
    let way = at.carries.way in
    let has = way_calls wide turns at.line way.told mid new way.advances in
    record {
      before = mid.calls;
      so_far = lines_calls wide turns number plan n old mid none carries.1;
      line = at.line;
      is = at.is;
      count = way.told;
      own = has.own;
      calls = subst (λ (left : ℕ). LineCalls at.line way.told has.own left) at.carries.all has.calls;
      reported_are = has.reported;
    }

pub stand_calls : (wide : Bool) (turns number : ℕ) (plan : List Step) (waits : ℕ) (old new : Stage) → old.calls ≡ [] → PlanStands wide turns number plan waits old new → StandCalls number plan new.calls
stand_calls wide turns number plan waits old new none stands =
    let here = stands.stands in
    let has = way_calls wide turns stands.line here.way.told stands.mid here.mid here.way.advances in
    let kept = waits_keep wide stands.line waits here.mid new here.waited in
    record {
      at = stands.at;
      left = here.mid.left;
      some = here.some;
      calls = record {
        before = stands.mid.calls;
        so_far = lines_calls wide turns number plan stands.at old stands.mid none stands.before;
        line = stands.line;
        is = stands.is;
        count = here.way.told;
        own = has.own;
        calls = has.calls;
        reported_are = kept.calls ∙ has.reported;
      };
    }

-- with an open gate
pub waits_at : (turns number : ℕ) (plan : List Step) (old new : Stage) → 1 ≤ turns → turns ≤ most_waits → old.calls ≡ [] → PlanStands true turns number plan turns old new → WaitsAtLine turns number plan new.calls new.library.waited
unfolding stand_calls
waits_at turns number plan old new some most none stands =
    let waits = waits_count stands.line turns stands.stands.mid new stands.stands.waited most (omega (arith, some)) in
    record { stands = stand_calls true turns number plan turns old new none stands; kind = waits.0; count = waits.1 }
