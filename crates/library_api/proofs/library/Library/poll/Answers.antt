use Rattle.std.proofs.Common.{◌≡◌, sym, ◌∙◌, subst, ap}
use Rattle.std.specs.Prelude.{◌↔◌, Option}
use Rattle.lease_core.specs.declared.messages.Notice.{Notice}
use Rattle.library_api.specs.declared.waited.WaitKind.{WaitKind}
use Rattle.library_api.specs.declared.event.Event.{Event}
use Rattle.library_api.specs.Known.{Known, after_waiting}
use Rattle.library_api.specs.Polls.{Polled, event_of, polled, taken_up, waits_for}
use Rattle.library_api.specs.Causes.{IsNothing, IsStale, IsNotYet, IsLeaseLost, IsRefused}
use Rattle.library_api.proofs.EventCauses.{nothing_cause, stale_cause, early_cause, lost_cause, refused_cause}
use Rattle.library_api.proofs.TakenUp.{HasPolled, has_polled}
use Rattle.library_api.proofs.library.Library.poll.Goals as goal

polls : (c : goal.After-wait) → HasPolled c.args.self.now c.wait.new.self c.answer-event.result
polls c =
    let k2 = c.answer-event.new.self in
    let event = c.answer-event.result in
    let waits : c.wait.new.self ≡ after_waiting (waits_for event) k2 = c.wait.ensures ∙ ap (λ (w : WaitKind). after_waiting w k2) c.waits_for.ensures in
    subst (λ (k : Known). HasPolled c.args.self.now k event) (sym waits)
    (has_polled c.args.self.now c.take_up-notice.new.self k2 c.take_up-notice.result event c.take_up-notice.ensures.library c.take_up-notice.ensures.notice c.answer-event.ensures.library c.answer-event.ensures.event c.answer-event.ensures.head)

-- a fact of the event by its cause
by_cause : (P : Event → Type 0) {Q : Type 0} (e e' : Event) → e ≡ e' → P e' ↔ Q → P e ↔ Q
by_cause P {Q} e e' is cause = subst (λ (x : Event). P x ↔ Q) (sym is) cause

pub returns-clause-library : goal.returns-clause-library
returns-clause-library c = (polls c).library

pub returns-clause-event : goal.returns-clause-event
returns-clause-event c = (polls c).answer

abbrev loaded : (c : goal.After-wait) → Polled
loaded c = polled c.args.self.now c.wait.new.self

abbrev notice : (c : goal.After-wait) → Option Notice
notice c = taken_up c.args.self.now.kept (loaded c).popped

pub returns-clause-nothing : goal.returns-clause-nothing
returns-clause-nothing c = by_cause IsNothing c.answer-event.result (event_of c.args.self.now (loaded c)) (polls c).answer (nothing_cause c.args.self.now (loaded c).found (notice c))

pub returns-clause-stale : goal.returns-clause-stale
returns-clause-stale c = by_cause IsStale c.answer-event.result (event_of c.args.self.now (loaded c)) (polls c).answer (stale_cause c.args.self.now (loaded c).found (notice c))

pub returns-clause-not_yet : goal.returns-clause-not_yet
returns-clause-not_yet c = by_cause IsNotYet c.answer-event.result (event_of c.args.self.now (loaded c)) (polls c).answer (early_cause c.args.self.now (loaded c).found (notice c))

pub returns-clause-lease_lost : goal.returns-clause-lease_lost
returns-clause-lease_lost c = by_cause IsLeaseLost c.answer-event.result (event_of c.args.self.now (loaded c)) (polls c).answer (lost_cause c.args.self.now (loaded c).found (notice c))

pub returns-clause-refused : goal.returns-clause-refused
returns-clause-refused c = by_cause IsRefused c.answer-event.result (event_of c.args.self.now (loaded c)) (polls c).answer (refused_cause c.args.self.now (loaded c).found (notice c))
