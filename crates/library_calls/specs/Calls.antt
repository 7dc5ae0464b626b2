-- What a call of a library comes to, with its answer.
use Rattle.std.specs.Prelude.{◌≡◌, ◌↔◌, ℕ, ◌+◌, ◌<◌, ◌≤◌, List, length, slice_get, Option, None, Some, IsNone, IsSome, Result, Ok, Err, IfOk, IfErr, OnOk, IsErrAnd}
use Rattle.lease_words.specs.Answers.{HasLoaded}
use Rattle.lease_words.specs.declared.item.Sent.{Sent}
use Rattle.library_api.specs.Causes.{HasLostLease, IsNotYet, IsNothing, IsRefused, OfNoLease, OfRefusal}
use Rattle.library_api.specs.Ends.{seat_after_beat}
use Rattle.library_api.specs.Known.{Known, after_waiting, held, sends_made, session_at, with_seat}
use Rattle.library_api.specs.Polls.{HasHold, IsLatest, IsNewLease, LoadsCount, LoadsWord, OnHolding, after_poll, event_of, polled, popped_since, session_of, taken_up}
use Rattle.library_api.specs.Releases.{CarriesHand, CarriesRelease, IsBadHeir, IsHandNotHeld, IsNoHeir, IsReleaseNotHeld, after_giving_back, after_hand_refused, after_release_refused}
use Rattle.library_api.specs.Requests.{CarriesAsked, IsAsksSpent, IsOutstanding, IsRingFull, MayAsk, after_request}
use Rattle.library_api.specs.Sends.{IsOneItem, IsSendable, LaneIsFull, LeaseIsSpent, SendCause, after_send_refused, after_sent, items_since, taken_seen}
use Rattle.library_api.specs.declared.event.Event.{Event}
use Rattle.library_api.specs.declared.refusal.AskError.{AskError}
use Rattle.library_api.specs.declared.refusal.HandRefusal.{HandRefusal}
use Rattle.library_api.specs.declared.refusal.ReleaseRefusal.{ReleaseRefusal}
use Rattle.library_api.specs.declared.refusal.Released.{Released}
use Rattle.library_api.specs.declared.refusal.SendRefusal.{SendRefusal}
use Rattle.library_api.specs.declared.waited.WaitKind.TheVariants.{Free}
use Rattle.ring_links.specs.Ends.{IsFull}
use Rattle.run_report.specs.declared.calls.Call.{Call}
use Rattle.run_report.specs.declared.calls.Call.TheVariants as calls
use Rattle.script_text.specs.declared.steps.LibStep.{LibStep}
use Rattle.script_text.specs.declared.steps.LibStep.TheVariants as act

-- a request was answered so
pub record Requests (s from : ℕ) (answer : Result ℕ AskError) (old new : Known) : Type 0 where
  pub library : new ≡ after_request old s from new.ends.tail.taken answer
  pub outstanding : IsOutstanding answer ↔ IsSome old.unanswered
  pub asks_spent : IsAsksSpent answer ↔ ((old.unanswered ≡ None) × (old.asked ≡ old.asks))
  pub ring_full : IsRingFull answer ↔ (MayAsk old × IsFull old.ends.tail.ring.capacity (length old.ends.tail.pushed) new.ends.tail.taken)
  pub carries : CarriesAsked old new.ends.tail.taken answer
  pub later : old.ends.tail.taken ≤ new.ends.tail.taken

-- a poll found this
pub record Polls (event : Event) (old new : Known) : Type 0 where
  pub library : new ≡ after_poll old (polled old new)
  pub event_is : event ≡ event_of old (polled old new)
  pub empty : IsNone old.kept → (IsNone (popped_since old new) ↔ (new.ends.head.pushed ≡ length old.ends.head.popped))
  pub told : IsNone old.kept → 0 < length old.ends.head.told → popped_since old new ≡ slice_get old.ends.head.told 0
  pub heard : IsNone old.kept → length old.ends.head.popped + length old.ends.head.told ≤ new.ends.head.pushed
  pub later : old.ends.head.pushed ≤ new.ends.head.pushed
  pub count : let o = polled old new in let n = taken_up old.kept o.popped in LoadsCount old n → (session_at old (session_of n)).published ≤ o.found.published
  pub word : let o = polled old new in let n = taken_up old.kept o.popped in LoadsWord old o.found n → IsLatest old.ends.seat (session_of n) o.found.word
  pub lease : let o = polled old new in let n = taken_up old.kept o.popped in LoadsWord old o.found n → IsNewLease old.ends.seat (session_of n) o.found.word
  pub held : OnHolding event (HasHold new)

-- what a send that was answered so leaves
abbrev pub SendsTo : ℕ → List ℕ → Result Sent SendRefusal → Known → Known → Type 0
SendsTo s body (Ok sent) old new =
    (new ≡ after_sent old s (taken_seen new s) (items_since old new s)) × (sent.lease ≡ held old s) × (sent.ordinal ≡ sends_made old s + 1)
    × IsOneItem (held old s) body (items_since old new s) × IsSendable old s body × (LaneIsFull old s (taken_seen new s) → ⊥) × (LeaseIsSpent old s → ⊥)
SendsTo s body (Err why) old new = (new ≡ after_send_refused old s (taken_seen new s) why) × SendCause old s body (taken_seen new s) why

-- a send was answered so
pub record Sends (s : ℕ) (body : List ℕ) (answer : Result Sent SendRefusal) (old new : Known) : Type 0 where
  pub sends : SendsTo s body answer old new
  pub loaded : IsSendable old s body → HasLoaded old.ends.seat.table.shape.depth (session_at old s) (taken_seen new s)

-- a lease was given back so
abbrev pub Releases : ℕ → Result Released ReleaseRefusal → Known → Known → Type 0
Releases s (Ok released) old new =
    (new ≡ after_giving_back old s 0 old.ends.seat.knows.number) × (0 < held old s) × (released.lease ≡ held old s) × (released.count ≡ sends_made old s)
Releases s (Err why) old new = (new ≡ after_release_refused old s why) × (IsReleaseNotHeld why ↔ (held old s ≡ 0)) × CarriesRelease old s why

-- and so to an heir
abbrev pub Hands : ℕ → ℕ → Result Released HandRefusal → Known → Known → Type 0
Hands s heir (Ok released) old new = (new ≡ after_giving_back old s heir heir) × (0 < held old s) × (released.lease ≡ held old s) × (released.count ≡ sends_made old s)
Hands s heir (Err why) old new =
    (new ≡ after_hand_refused old s why) × (IsHandNotHeld why ↔ (held old s ≡ 0)) × (IsBadHeir why ↔ ((0 < held old s) × IsNoHeir old heir)) × CarriesHand old s heir why

-- a beat
abbrev pub Beats : Known → Known → Type 0
Beats old new = new ≡ after_waiting Free (with_seat old (seat_after_beat old.ends.seat))

-- The call that a step of a library is, with its answer, and what the library knows behind it. `answer` and `read` are no calls.
abbrev pub MakesCall : LibStep → Call → Known → Known → Type 0
MakesCall (act.Request s from) call old new = (answer : Result ℕ AskError) × (call ≡ calls.Request s from answer) × Requests s from answer old new
MakesCall act.Poll call old new = (event : Event) × (call ≡ calls.Poll event) × Polls event old new
MakesCall (act.Send s body) call old new = (answer : Result Sent SendRefusal) × (call ≡ calls.Send s body answer) × Sends s body answer old new
MakesCall (act.Release s) call old new = (answer : Result Released ReleaseRefusal) × (call ≡ calls.Release s answer) × Releases s answer old new
MakesCall act.Beat call old new = (call ≡ calls.Beat) × Beats old new
MakesCall (act.Hand s heir) call old new = (answer : Result Released HandRefusal) × (call ≡ calls.Hand s heir answer) × Hands s heir answer old new
MakesCall act.Answer call old new = ⊥
MakesCall (act.Read count) call old new = ⊥
