-- Polls that were reported to have found nothing, and the waits behind them.
use Rattle.std.proofs.Common.{◌≡◌, ℕ, zero, suc, ◌+◌, ◌<◌, ◌≤◌, min, true, false, List, [], ◌∷◌, ◌++◌, length, length-append, refl, ap, subst, sym, ◌∙◌, arith}
use Rattle.std.proofs.lemmas.List.{append_cancel_right}
use Rattle.library_api.specs.Waits.{Waits, count_after, most_waits, next_count, waits_after}
use Rattle.library_api.specs.declared.waited.WaitKind.{WaitKind}
use Rattle.library_api.specs.declared.waited.WaitKind.TheVariants as waits
use Rattle.library_calls.specs.Calls.{MakesCall}
use Rattle.run_report.specs.declared.calls.Call.{Call}
use Rattle.script_text.specs.declared.steps.LibStep.{LibStep}
use Rattle.script_text.specs.declared.steps.LibStep.TheVariants as act
use Rattle.script_text.specs.declared.steps.Step.{Step}
use Rattle.plan_runner.specs.Lines.{call_of, is_idle_poll, is_vain, waits_by}
use Rattle.plan_runner.specs.Plans.{CarriesLines, PlanStands}
use Rattle.plan_runner.specs.Turns.{Advances, Stage, Times, WaitsFor, begun}
use Rattle.plan_runner.specs.Waits.{CountsIdle, EndsIdle}
use Rattle.plan_runner.proofs.Told.{calls_stay}
use Rattle.plan_runner.proofs.Vain.{once_waits, poll_waits, untrue, waits_count}
use Rattle.plan_runner.proofs.Waiting.{IsWait, same_counts, some_count}

last_or : Call → List Call → Call
last_or one [] = one
last_or one (c ∷ cs) = last_or c cs

last_is : (one : Call) (before : List Call) (last : Call) → last_or one (before ++ last ∷ []) ≡ last
unfolding last_or
last_is one [] last = refl
last_is one (c ∷ cs) last = last_is c cs last

-- lists that are equal have the same last call, and the same calls before it
same_last : (a b : List Call) (x y : Call) → a ++ x ∷ [] ≡ b ++ y ∷ [] → y ≡ x
same_last a b x y same = sym (last_is x b y) ∙ (ap (λ (cs : List Call). last_or x cs) (sym same) ∙ last_is x a x)

same_before : (a b : List Call) (x y : Call) → a ++ x ∷ [] ≡ b ++ y ∷ [] → a ≡ b
same_before a b x y same = append_cancel_right a b (x ∷ []) (same ∙ ap (λ (c : Call). b ++ c ∷ []) (same_last a b x y same))

next_min : (n c : ℕ) → min n most_waits ≤ c → min (n + 1) most_waits ≤ next_count c
next_min n c within = grind arith

-- it waited for an event in at least so many calls in a row, as far as they are counted
abbrev HasIdled : ℕ → Waits → Type 0
HasIdled n w = 0 < n → (w.kind ≡ waits.Event) × (min n most_waits ≤ w.count)

idled_more : (n : ℕ) (w : Waits) → HasIdled n w → HasIdled (n + 1) (waits_after waits.Event w)
idled_more zero w was = λ some. (refl, omega (arith, some_count waits.Event w tt))
idled_more (suc n) w was = λ some.
    let on : (w.kind ≡ waits.Event) × (min (suc n) most_waits ≤ w.count) = was (omega arith) in
    let same : count_after waits.Event w ≡ next_count w.count = ap (λ (k : WaitKind). count_after waits.Event (record { kind = k; count = w.count })) on.0 ∙ same_counts waits.Event w.count tt in
    (refl, omega (arith, same, next_min (suc n) w.count on.1))

-- waiting turns of a line that waits for events
waits_more : (line : LibStep) (n m : ℕ) (old new : Stage) → waits_by line ≡ waits.Event → WaitsFor true line m old new → HasIdled n old.library.waited → HasIdled (n + m) new.library.waited
waits_more line n zero old new kind same was =
    let add : n ≡ n + 0 = omega arith in
    subst (λ (k : ℕ). HasIdled k new.library.waited) add (subst (λ (s : Stage). HasIdled n s.library.waited) (sym same) was)
waits_more line n (suc m) old new kind turns was =
    let before = waits_more line n m old turns.0 kind turns.1 was in
    let once = once_waits line turns.0 new turns.2 in
    let is : new.library.waited ≡ waits_after waits.Event turns.0.library.waited = once.waited ∙ ap (λ (k : WaitKind). waits_after k turns.0.library.waited) kind in
    let add : n + m + 1 ≡ n + suc m = omega arith in
    subst (λ (k : ℕ). HasIdled k new.library.waited) add (subst (λ (w : Waits). HasIdled (n + m + 1) w) (sym is) (idled_more (n + m) turns.0.library.waited before))

-- the library waited for all polls with which its report ends
abbrev Idles : Stage → Type 0
Idles s = (n : ℕ) → EndsIdle n s.calls → HasIdled n s.library.waited

never_waits : (line : LibStep) (n : ℕ) (old new : Stage) → waits_by line ≡ waits.Free → WaitsFor true line n old new → new ≡ old
never_waits line zero old new free same = same
never_waits line (suc n) old new free turns =
    let once = once_waits line turns.0 new turns.2 in
    absurd (subst (λ (k : WaitKind). IsWait k) free once.waits)

-- only a line that is one poll reports such a poll
poll_reported : (line : LibStep) (call : Call) (start old new : Stage) (n : ℕ) → MakesCall (call_of line) call old.library new.library → is_vain line call ≡ false → is_idle_poll call ≡ true
    → WaitsFor true line n start old → (old ≡ start) × (new.library.waited ≡ waits_after waits.Event old.library.waited)
poll_reported act.Answer call start old new n makes told idle turns = untrue (sym told ∙ idle)
poll_reported (act.Read count) call start old new n makes told idle turns = untrue (sym told ∙ idle)
poll_reported (act.Request s from) call start old new n makes told idle turns = untrue (subst (λ (c : Call). is_idle_poll c ≡ true) makes.1 idle)
poll_reported act.Poll call start old new n makes told idle turns =
    (never_waits act.Poll n start old refl turns, poll_waits makes.0 old.library new.library makes.2 (subst (λ (c : Call). is_idle_poll c ≡ true) makes.1 idle))
poll_reported (act.Send s body) call start old new n makes told idle turns = untrue (subst (λ (c : Call). is_idle_poll c ≡ true) makes.1 idle)
poll_reported (act.Release s) call start old new n makes told idle turns = untrue (subst (λ (c : Call). is_idle_poll c ≡ true) makes.1 idle)
poll_reported act.Beat call start old new n makes told idle turns = untrue (subst (λ (c : Call). is_idle_poll c ≡ true) makes.0 idle)
poll_reported (act.Hand s heir) call start old new n makes told idle turns = untrue (subst (λ (c : Call). is_idle_poll c ≡ true) makes.1 idle)

advance_idles : (turns : ℕ) (line : LibStep) (old new : Stage) → Advances true turns line old new → Idles old → Idles new
advance_idles turns line old new advances was zero ends = λ some. let no : ⊥ = omega (arith, some) in absurd no
advance_idles turns line old new advances was (suc n) ends =
    let is = advances.reports in
    let mid = advances.mid in
    let calls_are : ends.0 ++ ends.1 ∷ [] ≡ mid.calls ++ is.call ∷ [] = sym ends.2 ∙ ap (λ (s : Stage). s.calls) is.rest in
    let idle : is_idle_poll is.call ≡ true = subst (λ (c : Call). is_idle_poll c ≡ true) (sym (same_last ends.0 mid.calls ends.1 is.call calls_are)) ends.3 in
    let before : ends.0 ≡ mid.calls = same_before ends.0 mid.calls ends.1 is.call calls_are in
    let poll = poll_reported line is.call old mid new advances.waits is.makes is.told idle advances.waited in
    let had : HasIdled n old.library.waited = was n (subst (λ (cs : List Call). EndsIdle n cs) (before ∙ ap (λ (s : Stage). s.calls) poll.0) ends.4) in
    let now : HasIdled n mid.library.waited = subst (λ (s : Stage). HasIdled n s.library.waited) (sym poll.0) had in
    let add : n + 1 ≡ suc n = omega arith in
    subst (λ (k : ℕ). HasIdled k new.library.waited) add (subst (λ (w : Waits). HasIdled (n + 1) w) (sym poll.1) (idled_more n mid.library.waited now))

way_idles : (turns : ℕ) (line : LibStep) (told : ℕ) (old new : Stage) → Times (Advances true turns line) told (begun line old) new → Idles old → Idles new
way_idles turns line zero old new same was = subst (λ (s : Stage). Idles s) (sym same) was
way_idles turns line (suc n) old new advances was = advance_idles turns line advances.0 new advances.2 (way_idles turns line n old advances.0 advances.1 was)

lines_idle : (turns number : ℕ) (plan : List Step) (count : ℕ) (old new : Stage) → CarriesLines true turns number plan count old new → Idles old → Idles new
lines_idle turns number plan zero old new same was = subst (λ (s : Stage). Idles s) (sym same) was
lines_idle turns number plan (suc n) old new carries was =
    let way = carries.2.carries.way in
    way_idles turns carries.2.line way.told carries.0 new way.advances (lines_idle turns number plan n old carries.0 carries.1 was)

none_idle : (n : ℕ) (w : Waits) → EndsIdle n [] → HasIdled n w
none_idle zero w ends = λ some. let no : ⊥ = omega (arith, some) in absurd no
none_idle (suc n) w ends =
    let e : 0 ≡ length ends.0 + 1 = ap (λ (cs : List Call). length cs) ends.2 ∙ length-append ends.0 (ends.1 ∷ []) in
    let no : ⊥ = omega (arith, e) in
    absurd no

-- with an open gate
pub stand_idle : (turns number : ℕ) (plan : List Step) (old new : Stage) → 1 ≤ turns → turns ≤ most_waits → old.calls ≡ [] → PlanStands true turns number plan turns old new → CountsIdle turns new.calls new.library.waited
stand_idle turns number plan old new some most none stands = λ kind n ends.
    let line = stands.line in
    let here = stands.stands in
    let by_line = waits_count line turns here.mid new here.waited most (omega (arith, some)) in
    let first : Idles old = λ m m_ends. none_idle m old.library.waited (subst (λ (cs : List Call). EndsIdle m cs) none m_ends) in
    let idles = way_idles turns line here.way.told stands.mid here.mid here.way.advances (lines_idle turns number plan stands.at old stands.mid stands.before first) in
    let had : HasIdled n here.mid.library.waited = idles n (subst (λ (cs : List Call). EndsIdle n cs) (calls_stay true line turns here.mid new here.waited) ends) in
    let more : (new.library.waited.kind ≡ waits.Event) × (min (n + turns) most_waits ≤ new.library.waited.count) = waits_more line n turns here.mid new (sym by_line.0 ∙ kind) here.waited had (omega (arith, some)) in
    more.1
