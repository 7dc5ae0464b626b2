-- The requests that a library pushed are those of its kept calls.
use Rattle.std.proofs.Common.{◌≡◌, inl, inr, ℕ, Bool, true, false, List, [], ◌∷◌, ◌++◌, Option, None, Some, Result, Ok, Err, refl, ap, sym, ◌∙◌}
use Rattle.std.proofs.lemmas.Grind.{flat_map-append}
use Rattle.std.proofs.lemmas.List.{append-nil, append_assoc}
use Rattle.std.specs.List.{flat_map}
use Rattle.std.specs.Prelude.{nat_le, if◌then◌else◌}
use Rattle.lease_core.specs.declared.messages.Command.{Command}
use Rattle.lease_core.specs.declared.messages.Command.TheVariants as commands
use Rattle.lease_core.specs.declared.messages.Notice.{Notice}
use Rattle.lease_core.specs.declared.messages.Notice.TheVariants as notices
use Rattle.library_api.specs.Calls.{AreLawful, Call, IsLawful, after_call, after_calls, asks, beats, gives_back, hand_refused, is_done, meets, polls, release_refused, send_refused, sends}
use Rattle.library_api.specs.Ends.{seat_after_beat}
use Rattle.library_api.specs.Known.{Known, holds, with_seat}
use Rattle.library_api.specs.Polls.{Found, Polled, after_grant, after_message, after_notice, after_poll, after_pop, after_published, after_taking_up, saw_published, saw_word, shows, taken_up, with_none_kept, with_request_closed}
use Rattle.library_api.specs.Releases.{after_hand_refused, after_release_refused}
use Rattle.library_api.specs.Requests.{after_asking, after_done}
use Rattle.library_api.specs.Sends.{after_refusing}
use Rattle.library_api.specs.declared.reading.Message.{Message}
use Rattle.library_api.specs.declared.refusal.AskError.{AskError}
use Rattle.library_api.specs.declared.refusal.AskError.TheVariants as asking
use Rattle.library_api.specs.declared.refusal.HandRefusal.{HandRefusal}
use Rattle.library_api.specs.declared.refusal.HandRefusal.TheVariants as handing
use Rattle.library_api.specs.declared.refusal.ReleaseRefusal.{ReleaseRefusal}
use Rattle.library_api.specs.declared.refusal.ReleaseRefusal.TheVariants as releasing
use Rattle.library_api.specs.declared.refusal.SendRefusal.{SendRefusal}
use Rattle.library_api.specs.declared.refusal.SendRefusal.TheVariants as sending
use Rattle.engine_laws.specs.libraries.Replies.{asked_by}
use Rattle.ring_links.specs.declared.queue.Full.{Full}
use Rattle.headline.specs.runs.Lives.{AreKept, IsInVain, IsKeptAs, IsReportedAs}
use Rattle.headline.specs.runs.Reports.{ask_kept, asks_kept}
use Rattle.run_report.specs.declared.calls.Call.{Call as Kept}
use Rattle.run_report.specs.declared.calls.Call.TheVariants as calls

-- what a library pushed
abbrev pushed_of : Known → List Command
pushed_of k = k.ends.tail.pushed

early_pushed : (early shown : Bool) (k : Known) (m : Message) (found : Found)
    → pushed_of (if early then record (saw_published k m.s found.published) { kept = Some m } else after_published (saw_word (saw_published k m.s found.published) m.s found.word) m shown) ≡ pushed_of k
early_pushed true shown k m found = refl
early_pushed false true k m found = refl
early_pushed false false k m found = refl

message_pushed : (is_held shown : Bool) (k : Known) (m : Message) (found : Found) → pushed_of (after_message k m is_held shown found) ≡ pushed_of k
message_pushed false shown k m found = refl
message_pushed true shown k m found = early_pushed (nat_le found.published m.pos) shown k m found

grant_pushed : (shown : Bool) (k : Known) (s lease from : ℕ) → pushed_of (after_grant k s lease from shown) ≡ pushed_of k
grant_pushed true k s lease from = refl
grant_pushed false k s lease from = refl

notice_pushed : (k : Known) (found : Found) (n : Option Notice) → pushed_of (after_notice k found n) ≡ pushed_of k
notice_pushed k found None = refl
notice_pushed k found (Some (notices.Granted nr s lease from start)) = grant_pushed (shows k.ends.seat.knows.number lease found.word) (saw_word (with_request_closed k) s found.word) s lease from
notice_pushed k found (Some (notices.Refused nr s why)) = refl
notice_pushed k found (Some (notices.Message s lease pos bytes)) =
    message_pushed (holds k s lease) (shows k.ends.seat.knows.number lease found.word) k (record { s = s; lease = lease; pos = pos; bytes = bytes }) found

pop_pushed : (kept : Option Message) (k : Known) (pushed : ℕ) (popped : Option Notice) → pushed_of (with_none_kept (after_pop kept (with_seat k (seat_after_beat k.ends.seat)) pushed popped)) ≡ pushed_of k
pop_pushed (Some m) k pushed popped = refl
pop_pushed None k pushed popped = refl

poll_pushed : (k : Known) (o : Polled) → pushed_of (after_poll k o) ≡ pushed_of k
poll_pushed k o = notice_pushed (after_taking_up k o.pushed o.popped) o.found (taken_up k.kept o.popped) ∙ pop_pushed k.kept k o.pushed o.popped

refused_pushed : (k : Known) (s taken : ℕ) (why : SendRefusal) → pushed_of (after_refusing k s taken why) ≡ pushed_of k
refused_pushed k s taken sending.NotHeld = refl
refused_pushed k s taken (sending.TooLong size) = refl
refused_pushed k s taken (sending.BadBody at) = refl
refused_pushed k s taken (sending.LaneFull committed found) = refl
refused_pushed k s taken (sending.SendsSpent count) = refl
refused_pushed k s taken (sending.Lost seen) = refl

release_pushed : (k : Known) (s : ℕ) (why : ReleaseRefusal) → pushed_of (after_release_refused k s why) ≡ pushed_of k
release_pushed k s releasing.NotHeld = refl
release_pushed k s (releasing.Lost seen) = refl

hand_pushed : (k : Known) (s : ℕ) (why : HandRefusal) → pushed_of (after_hand_refused k s why) ≡ pushed_of k
hand_pushed k s handing.NotHeld = refl
hand_pushed k s (handing.BadHeir heir) = refl
hand_pushed k s (handing.Lost seen) = refl

-- the requests behind a call
abbrev AddsAsks : Known → Known → List Kept → Type 0
AddsAsks old new kept = flat_map asked_by (pushed_of new) ≡ flat_map asked_by (pushed_of old) ++ asks_kept kept

no_ask : (old new : Known) (kept : List Kept) → pushed_of new ≡ pushed_of old → asks_kept kept ≡ [] → AddsAsks old new kept
no_ask old new kept same none = ap (flat_map asked_by) same ∙ (sym (append-nil (flat_map asked_by (pushed_of old))) ∙ ap (λ more. flat_map asked_by (pushed_of old) ++ more) (sym none))

request_asks : (k : Known) (s from taken : ℕ) (answer : Result ℕ AskError) (kept : List Kept) → IsKeptAs k (asks s from taken answer) kept → AddsAsks k (after_asking k s from taken answer) kept
request_asks k s from taken (Ok nr) kept is = flat_map-append asked_by (pushed_of k) _ ∙ ap (λ more. flat_map asked_by (pushed_of k) ++ more) (sym (ap asks_kept is))
request_asks k s from taken (Err (asking.Outstanding nr)) kept is = no_ask k (after_asking k s from taken (Err (asking.Outstanding nr))) kept refl (ap asks_kept is)
request_asks k s from taken (Err (asking.AsksSpent count)) kept is = no_ask k (after_asking k s from taken (Err (asking.AsksSpent count))) kept refl (ap asks_kept is)
request_asks k s from taken (Err (asking.RingFull pushed found)) kept is = no_ask k (after_asking k s from taken (Err (asking.RingFull pushed found))) kept (append-nil (pushed_of k)) (ap asks_kept is)

call_asks : (k : Known) (call : Call) (kept : List Kept) → IsLawful k call → IsKeptAs k call kept → AddsAsks k (after_call k call) kept
call_asks k (asks s from taken answer) kept lawful is = request_asks k s from taken answer kept is
call_asks k (polls o) kept lawful is = no_ask k (after_poll k o) kept (poll_pushed k o) (ap asks_kept is)
call_asks k (sends s taken body items) kept lawful is = no_ask k (after_call k (sends s taken body items)) kept refl (ap asks_kept is)
call_asks k (send_refused s taken why) kept lawful is = no_ask k (after_call k (send_refused s taken why)) kept (refused_pushed k s taken why) (ap asks_kept is.1)
call_asks k (gives_back s heir owner) kept lawful is = no_ask k (after_call k (gives_back s heir owner)) kept refl (elim is [
  | inl nobody ↦ ap asks_kept nobody.1
  | inr handed ↦ ap asks_kept handed
])
call_asks k (release_refused s why) kept lawful is = no_ask k (after_call k (release_refused s why)) kept (release_pushed k s why) (ap asks_kept is)
call_asks k (hand_refused s why) kept lawful is = no_ask k (after_call k (hand_refused s why)) kept (hand_pushed k s why) (ap asks_kept is.1)
call_asks k beats kept lawful is = no_ask k (after_call k beats) kept refl (ap asks_kept is)
call_asks k (is_done finished taken answer) kept lawful is = absurd is
call_asks k (meets ends) kept lawful is = no_ask k (after_call k (meets ends)) kept lawful.pushed (ap asks_kept is)

vain_ask : (one : Kept) → IsInVain one → asks_kept (one ∷ []) ≡ []
vain_ask (calls.Request s from (Ok nr)) vain = elim vain [
  | inl idle ↦ (let clash : false ≡ true = idle in absurd (cc))
  | inr full ↦ (let clash : false ≡ true = full in absurd (cc))
]
vain_ask (calls.Request s from (Err why)) vain = refl
vain_ask (calls.Poll event) vain = refl
vain_ask (calls.Send s body answer) vain = refl
vain_ask (calls.Release s answer) vain = refl
vain_ask (calls.Hand s heir answer) vain = refl
vain_ask calls.Beat vain = refl

-- the word that all is done asks for nothing
done_asks : (k : Known) (finished : Bool) (taken : ℕ) (answer : Result (Unit {0}) (Full Command)) → flat_map asked_by (pushed_of (after_done k (commands.Done finished) taken answer)) ≡ flat_map asked_by (pushed_of k)
done_asks k finished taken (Ok unit) = flat_map-append asked_by (pushed_of k) (commands.Done finished ∷ []) ∙ append-nil (flat_map asked_by (pushed_of k))
done_asks k finished taken (Err full) = ap (flat_map asked_by) (append-nil (pushed_of k))

reported_asks : (k : Known) (call : Call) (kept : List Kept) → IsLawful k call → IsReportedAs k call kept → AddsAsks k (after_call k call) kept
reported_asks k call kept lawful is = elim is [
  | inl own ↦ call_asks k call kept lawful own
  | inr beside ↦ elim beside [
    | inl out ↦ call_asks k call (out.one ∷ []) lawful out.is ∙ ap (λ more. flat_map asked_by (pushed_of k) ++ more) (vain_ask out.one out.vain ∙ sym (ap asks_kept out.none))
    | inr ends ↦ (
        let same = ap (λ c. flat_map asked_by (pushed_of (after_call k c))) ends.is ∙ done_asks k ends.finished ends.taken ends.answer in
        same ∙ (sym (append-nil (flat_map asked_by (pushed_of k))) ∙ ap (λ more. flat_map asked_by (pushed_of k) ++ more) (sym (ap asks_kept ends.none))))
  ]
]

pub calls_ask : (k : Known) (made : List Call) (kept : List Kept) → AreLawful k made → AreKept IsReportedAs k made kept → AddsAsks k (after_calls k made) kept
calls_ask k [] kept lawful none = no_ask k k kept refl (ap asks_kept none)
calls_ask k (call ∷ made) kept lawful are =
    calls_ask (after_call k call) made are.1 lawful.1 are.4
    ∙ (ap (λ front. front ++ asks_kept are.1) (reported_asks k call are.0 lawful.0 are.3)
    ∙ (append_assoc (flat_map asked_by (pushed_of k)) (asks_kept are.0) (asks_kept are.1)
    ∙ ap (λ more. flat_map asked_by (pushed_of k) ++ more) (sym (ap asks_kept are.2 ∙ flat_map-append ask_kept are.0 are.1))))
