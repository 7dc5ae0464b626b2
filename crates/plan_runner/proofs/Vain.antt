-- A call that is made again waits by its line's kind, and leaves the rest as it was.
use Rattle.std.proofs.Common.{◌≡◌, inl, inr, ℕ, zero, suc, ◌<◌, ◌≤◌, Bool, true, false, List, Result, Ok, Err, refl, ap, subst, sym, ◌∙◌, arith}
use Rattle.lease_words.specs.declared.item.Sent.{Sent}
use Rattle.library_api.specs.Known.{Known}
use Rattle.library_api.specs.Polls.{waits_for}
use Rattle.library_api.specs.Requests.{after_request}
use Rattle.library_api.specs.Waits.{Waits, most_waits, waits_after}
use Rattle.library_api.specs.declared.event.Event.{Event}
use Rattle.library_api.specs.declared.event.Event.TheVariants as events
use Rattle.library_api.specs.declared.refusal.AskError.{AskError}
use Rattle.library_api.specs.declared.refusal.AskError.TheVariants.{Outstanding, AsksSpent, RingFull}
use Rattle.library_api.specs.declared.refusal.SendRefusal.{SendRefusal}
use Rattle.library_api.specs.declared.refusal.SendRefusal.TheVariants.{NotHeld, TooLong, BadBody, LaneFull, SendsSpent, Lost}
use Rattle.library_api.specs.declared.waited.WaitKind.{WaitKind}
use Rattle.library_api.specs.declared.waited.WaitKind.TheVariants as waits
use Rattle.library_calls.specs.Calls.{MakesCall, Polls, SendsTo}
use Rattle.run_report.specs.declared.calls.Call.{Call}
use Rattle.script_text.specs.declared.steps.LibStep.{LibStep}
use Rattle.script_text.specs.declared.steps.LibStep.TheVariants as act
use Rattle.plan_runner.specs.Calls.{LeavesAnswer}
use Rattle.plan_runner.specs.Lines.{call_of, has_no_room, is_idle, is_idle_poll, is_lane_full, is_ring_full, is_vain, waits_by}
use Rattle.plan_runner.specs.Turns.{Stage, WaitsFor, WaitsOnce}
use Rattle.plan_runner.proofs.Polled.{poll_leaves}
use Rattle.plan_runner.proofs.Waiting.{IsWait, counts}

pub untrue : {A : Type 0} → false ≡ true → A
untrue e = absurd (subst (λ (b : Bool). elim b as (λ _. Type 0) [ true ↦ ⊥ | false ↦ Unit {0} ]) e tt)

idle_waits : (event : Event) → is_idle event ≡ true → waits_for event ≡ waits.Event
idle_waits events.Nothing idle = refl
idle_waits (events.NotYet s pos published) idle = refl
idle_waits (events.Granted nr s lease from start) idle = untrue idle
idle_waits (events.Refused nr s why) idle = untrue idle
idle_waits (events.Message s lease pos bytes) idle = untrue idle
idle_waits (events.Stale s lease pos) idle = untrue idle
idle_waits (events.LeaseLost s lease seen) idle = untrue idle

pub idle_leaves : (event : Event) (old new : ℕ) → is_idle event ≡ true → LeavesAnswer event old new → new ≡ old
idle_leaves events.Nothing old new idle leaves = leaves
idle_leaves (events.NotYet s pos published) old new idle leaves = leaves
idle_leaves (events.Granted nr s lease from start) old new idle leaves = untrue idle
idle_leaves (events.Refused nr s why) old new idle leaves = untrue idle
idle_leaves (events.Message s lease pos bytes) old new idle leaves = untrue idle
idle_leaves (events.Stale s lease pos) old new idle leaves = untrue idle
idle_leaves (events.LeaseLost s lease seen) old new idle leaves = untrue idle

pub poll_waits : (event : Event) (old new : Known) → Polls event old new → is_idle event ≡ true → new.waited ≡ waits_after waits.Event old.waited
poll_waits event old new polls idle = (poll_leaves event old new polls).waits ∙ ap (λ (kind : WaitKind). waits_after kind old.waited) (idle_waits event idle)

ask_waits : (answer : Result ℕ AskError) (old : Known) (s from taken : ℕ) → is_ring_full answer ≡ true → (after_request old s from taken answer).waited ≡ waits_after waits.Asks old.waited
ask_waits (Ok nr) old s from taken full = untrue full
ask_waits (Err (Outstanding nr)) old s from taken full = untrue full
ask_waits (Err (AsksSpent count)) old s from taken full = untrue full
ask_waits (Err (RingFull pushed found)) old s from taken full = refl

send_waits : (s : ℕ) (body : List ℕ) (answer : Result Sent SendRefusal) (old new : Known) → is_lane_full answer ≡ true → SendsTo s body answer old new → new.waited ≡ waits_after waits.Lane old.waited
send_waits s body (Ok sent) old new full sends = untrue full
send_waits s body (Err NotHeld) old new full sends = untrue full
send_waits s body (Err (TooLong size)) old new full sends = untrue full
send_waits s body (Err (BadBody at)) old new full sends = untrue full
send_waits s body (Err (LaneFull committed taken)) old new full sends = ap (λ (k : Known). k.waited) sends.0
send_waits s body (Err (SendsSpent count)) old new full sends = untrue full
send_waits s body (Err (Lost seen)) old new full sends = untrue full

pub record WaitsBy (kind : WaitKind) (old new : Known) : Type 0 where
  pub waits : IsWait kind
  pub waited : new.waited ≡ waits_after kind old.waited

-- a call that is made again
pub vain_waits : (line : LibStep) (call : Call) (old new : Known) → MakesCall (call_of line) call old new → is_vain line call ≡ true → WaitsBy (waits_by line) old new
vain_waits (act.Request s from) call old new makes vain =
    record { waits = tt; waited = ap (λ (k : Known). k.waited) makes.2.library ∙ ask_waits makes.0 old s from new.ends.tail.taken (subst (λ (c : Call). has_no_room c ≡ true) makes.1 vain) }
vain_waits act.Poll call old new makes vain = untrue (subst (λ (c : Call). has_no_room c ≡ true) makes.1 vain)
vain_waits (act.Send s body) call old new makes vain = record { waits = tt; waited = send_waits s body makes.0 old new (subst (λ (c : Call). has_no_room c ≡ true) makes.1 vain) makes.2.sends }
vain_waits (act.Release s) call old new makes vain = untrue (subst (λ (c : Call). has_no_room c ≡ true) makes.1 vain)
vain_waits act.Beat call old new makes vain = untrue (subst (λ (c : Call). has_no_room c ≡ true) makes.0 vain)
vain_waits (act.Hand s heir) call old new makes vain = untrue (subst (λ (c : Call). has_no_room c ≡ true) makes.1 vain)
vain_waits act.Answer call old new makes vain = record { waits = tt; waited = poll_waits makes.0 old new makes.2 (subst (λ (c : Call). is_idle_poll c ≡ true) makes.1 vain) }
vain_waits (act.Read count) call old new makes vain = record { waits = tt; waited = poll_waits makes.0 old new makes.2 (subst (λ (c : Call). is_idle_poll c ≡ true) makes.1 vain) }

-- with an open gate
pub once_waits : (line : LibStep) (old new : Stage) → WaitsOnce true line old new → WaitsBy (waits_by line) old.library new.library
once_waits line old new once = elim once [
  | inl closed ↦ untrue (sym closed.0)
  | inr vain ↦ vain_waits line vain.call old.library new.library vain.makes vain.vain
]

pub waits_count : (line : LibStep) (n : ℕ) (old new : Stage) → WaitsFor true line n old new → n ≤ most_waits → 0 < n → (new.library.waited.kind ≡ waits_by line) × (n ≤ new.library.waited.count)
waits_count line zero old new waits most some = let no : ⊥ = omega (arith, some) in absurd no
waits_count line (suc n) old new waits most some =
    let once = once_waits line waits.0 new waits.2 in
    let n_counts = counts (waits_by line) n waits.0.library.waited once.waits (waits_count line n old waits.0 waits.1 (omega (arith, most))) (omega (arith, most)) in
    (ap (λ (w : Waits). w.kind) once.waited, omega (arith, n_counts, ap (λ (w : Waits). w.count) once.waited))
