-- What the kept calls of a library say is what the library knows.
use Rattle.std.proofs.Common.{◌≡◌, inl, inr, ℕ, Bool, true, false, List, [], ◌∷◌, ◌++◌, Option, None, Some, Result, Ok, Err, refl, ap, subst, sym, ◌∙◌}
use Rattle.std.proofs.lemmas.Grind.{flat_map-append}
use Rattle.std.proofs.lemmas.List.{append-nil, append_assoc}
use Rattle.std.proofs.lemmas.List.Elements.{All-append, All-cons, All-head, All-nil, All-tail}
use Rattle.std.specs.List.{All}
use Rattle.std.specs.Prelude.{nat_le, if◌then◌else◌}
use Rattle.lease_core.specs.declared.messages.Command.{Command}
use Rattle.lease_core.specs.declared.messages.Command.TheVariants as commands
use Rattle.lease_core.specs.declared.messages.Notice.{Notice}
use Rattle.lease_core.specs.declared.messages.Notice.TheVariants as notices
use Rattle.lease_words.specs.declared.item.Sent.{Sent}
use Rattle.library_api.specs.Calls.{Call, after_call, asks, beats, gives_back, hand_refused, is_done, meets, polls, popped_beside, popped_in, popped_of, release_refused, send_refused, sends}
use Rattle.library_api.specs.Known.{Known, holds}
use Rattle.library_api.specs.Polls.{Found, after_grant, after_published, saw_published, saw_word, with_request_closed, after_message, after_notice, after_taking_up, message_event, notice_event, notice_of, shows, taken_up}
use Rattle.library_api.specs.Posts.{posts_in, posts_of}
use Rattle.library_api.specs.Reads.{kept_notice, notices_of, reads_in, reads_of}
use Rattle.library_api.specs.Releases.{after_hand_refused, after_release_refused}
use Rattle.library_api.specs.Requests.{after_asking, after_done}
use Rattle.library_api.specs.Sends.{after_refusing}
use Rattle.library_api.specs.declared.event.Event.TheVariants as events
use Rattle.library_api.specs.declared.reading.Message.{Message}
use Rattle.library_api.specs.declared.refusal.AskError.{AskError}
use Rattle.library_api.specs.declared.refusal.AskError.TheVariants as asking
use Rattle.library_api.specs.declared.refusal.HandRefusal.{HandRefusal}
use Rattle.library_api.specs.declared.refusal.HandRefusal.TheVariants as handing
use Rattle.library_api.specs.declared.refusal.ReleaseRefusal.{ReleaseRefusal}
use Rattle.library_api.specs.declared.refusal.ReleaseRefusal.TheVariants as releasing
use Rattle.library_api.specs.declared.refusal.SendRefusal.{SendRefusal}
use Rattle.library_api.specs.declared.refusal.SendRefusal.TheVariants as sending
use Rattle.ring_links.specs.declared.queue.Full.{Full}
use Rattle.headline.specs.runs.Lives.{AreKept, IsInVain, IsKeptAs, IsReportedAs}
use Rattle.headline.specs.runs.Reports.{HandsOn, OnNotice, position_kept, positions_kept, post_kept, posts_kept}
use Rattle.run_report.specs.declared.calls.Call.{Call as Kept}
use Rattle.run_report.specs.declared.calls.Call.TheVariants as calls

-- a send that was answered Sent is none in vain, and a poll that found a message is none
sent_in_vain : (s : ℕ) (body : List ℕ) (sent : Sent) → IsInVain (calls.Send s body (Ok sent)) → ⊥
sent_in_vain s body sent vain = elim vain [
  | inl idle ↦ (let clash : false ≡ true = idle in absurd (cc))
  | inr full ↦ (let clash : false ≡ true = full in absurd (cc))
]

read_in_vain : (s lease pos : ℕ) (bytes : List ℕ) → IsInVain (calls.Poll (events.Message s lease pos bytes)) → ⊥
read_in_vain s lease pos bytes vain = elim vain [
  | inl idle ↦ (let clash : false ≡ true = idle in absurd (cc))
  | inr full ↦ (let clash : false ≡ true = full in absurd (cc))
]

-- a call's post
post_of : (s : ℕ) (k : Known) (call : Call) (kept : List Kept) → IsKeptAs k call kept → posts_kept s kept ≡ posts_in s k call
post_of s k (asks t from taken answer) kept is = ap (posts_kept s) is
post_of s k (polls o) kept is = ap (posts_kept s) is
post_of s k (sends t taken body items) kept is = ap (posts_kept s) is ∙ append-nil (posts_in s k (sends t taken body items))
post_of s k (send_refused t taken why) kept is = ap (posts_kept s) is.1
post_of s k (gives_back t heir owner) kept is = elim is [
  | inl nobody ↦ ap (posts_kept s) nobody.1
  | inr handed ↦ ap (posts_kept s) handed
]
post_of s k (release_refused t why) kept is = ap (posts_kept s) is
post_of s k (hand_refused t why) kept is = ap (posts_kept s) is.1
post_of s k beats kept is = ap (posts_kept s) is
post_of s k (is_done finished taken answer) kept is = absurd is
post_of s k (meets ends) kept is = ap (posts_kept s) is

-- a call in vain posts nothing, asks for nothing and reads nothing
vain_post : (s : ℕ) (one : Kept) → IsInVain one → posts_kept s (one ∷ []) ≡ []
vain_post s (calls.Send t body (Ok sent)) vain = absurd (sent_in_vain t body sent vain)
vain_post s (calls.Send t body (Err why)) vain = refl
vain_post s (calls.Request t from answer) vain = refl
vain_post s (calls.Poll event) vain = refl
vain_post s (calls.Release t answer) vain = refl
vain_post s (calls.Hand t heir answer) vain = refl
vain_post s calls.Beat vain = refl

reported_post : (s : ℕ) (k : Known) (call : Call) (kept : List Kept) → IsReportedAs k call kept → posts_kept s kept ≡ posts_in s k call
reported_post s k call kept is = elim is [
  | inl own ↦ post_of s k call kept own
  | inr beside ↦ elim beside [
    | inl out ↦ ap (posts_kept s) out.none ∙ (sym (vain_post s out.one out.vain) ∙ post_of s k call (out.one ∷ []) out.is)
    | inr ends ↦ ap (posts_kept s) ends.none ∙ sym (ap (posts_in s k) ends.is)
  ]
]

pub posts_told : (s : ℕ) (k : Known) (made : List Call) (kept : List Kept) → AreKept IsReportedAs k made kept → posts_kept s kept ≡ posts_of s k made
posts_told s k [] kept none = ap (posts_kept s) none
posts_told s k (call ∷ made) kept are =
    ap (posts_kept s) are.2 ∙ (flat_map-append (post_kept s) are.0 are.1
    ∙ (ap (λ front. front ++ posts_kept s are.1) (reported_post s k call are.0 are.3) ∙ ap (λ back. posts_in s k call ++ back) (posts_told s (after_call k call) made are.1 are.4)))

-- the position that it reads
position_of : (s lease : ℕ) (k : Known) (call : Call) (kept : List Kept) → IsKeptAs k call kept → positions_kept s lease kept ≡ reads_in s lease k call
position_of s lease k (asks t from taken answer) kept is = ap (positions_kept s lease) is
position_of s lease k (polls o) kept is = ap (positions_kept s lease) is ∙ append-nil (reads_in s lease k (polls o))
position_of s lease k (sends t taken body items) kept is = ap (positions_kept s lease) is
position_of s lease k (send_refused t taken why) kept is = ap (positions_kept s lease) is.1
position_of s lease k (gives_back t heir owner) kept is = elim is [
  | inl nobody ↦ ap (positions_kept s lease) nobody.1
  | inr handed ↦ ap (positions_kept s lease) handed
]
position_of s lease k (release_refused t why) kept is = ap (positions_kept s lease) is
position_of s lease k (hand_refused t why) kept is = ap (positions_kept s lease) is.1
position_of s lease k beats kept is = ap (positions_kept s lease) is
position_of s lease k (is_done finished taken answer) kept is = absurd is
position_of s lease k (meets ends) kept is = ap (positions_kept s lease) is

vain_position : (s lease : ℕ) (one : Kept) → IsInVain one → positions_kept s lease (one ∷ []) ≡ []
vain_position s lease (calls.Poll events.Nothing) vain = refl
vain_position s lease (calls.Poll (events.NotYet t pos published)) vain = refl
vain_position s lease (calls.Poll (events.Granted nr t other from start)) vain = refl
vain_position s lease (calls.Poll (events.Refused nr t why)) vain = refl
vain_position s lease (calls.Poll (events.Message t other pos bytes)) vain = absurd (read_in_vain t other pos bytes vain)
vain_position s lease (calls.Poll (events.Stale t other pos)) vain = refl
vain_position s lease (calls.Poll (events.LeaseLost t other seen)) vain = refl
vain_position s lease (calls.Send t body answer) vain = refl
vain_position s lease (calls.Request t from answer) vain = refl
vain_position s lease (calls.Release t answer) vain = refl
vain_position s lease (calls.Hand t heir answer) vain = refl
vain_position s lease calls.Beat vain = refl

reported_position : (s lease : ℕ) (k : Known) (call : Call) (kept : List Kept) → IsReportedAs k call kept → positions_kept s lease kept ≡ reads_in s lease k call
reported_position s lease k call kept is = elim is [
  | inl own ↦ position_of s lease k call kept own
  | inr beside ↦ elim beside [
    | inl out ↦ ap (positions_kept s lease) out.none ∙ (sym (vain_position s lease out.one out.vain) ∙ position_of s lease k call (out.one ∷ []) out.is)
    | inr ends ↦ ap (positions_kept s lease) ends.none ∙ sym (ap (reads_in s lease k) ends.is)
  ]
]

pub positions_told : (s lease : ℕ) (k : Known) (made : List Call) (kept : List Kept) → AreKept IsReportedAs k made kept → positions_kept s lease kept ≡ reads_of s lease k made
positions_told s lease k [] kept none = ap (positions_kept s lease) none
positions_told s lease k (call ∷ made) kept are =
    ap (positions_kept s lease) are.2 ∙ (flat_map-append (position_kept s lease) are.0 are.1
    ∙ (ap (λ front. front ++ positions_kept s lease are.1) (reported_position s lease k call are.0 are.3) ∙ ap (λ back. reads_in s lease k call ++ back) (positions_told s lease (after_call k call) made are.1 are.4)))

-- The notices that a library takes up are those that it popped: what holds of each holds of each that is handed on.
module _ (P : Notice → Type 0) where
  abbrev AllHold : List Notice → Type 0
  AllHold ns = All P ns

  given_if : (early shown : Bool) (m : Message) (found : Found) → P (notice_of m)
      → OnNotice P (if early then events.NotYet m.s m.pos found.published else (if shown then events.Message m.s m.lease m.pos m.bytes else events.LeaseLost m.s m.lease found.word))
  given_if true shown m found holding = tt
  given_if false true m found holding = holding
  given_if false false m found holding = tt

  message_given : (is_held shown : Bool) (m : Message) (found : Found) → P (notice_of m) → OnNotice P (message_event m is_held shown found)
  message_given false shown m found holding = tt
  message_given true shown m found holding = given_if (nat_le found.published m.pos) shown m found holding

  grant_given : (shown : Bool) (nr s lease from start : ℕ) (found : Found) → P (notices.Granted nr s lease from start) → OnNotice P (if shown then events.Granted nr s lease from start else events.LeaseLost s lease found.word)
  grant_given true nr s lease from start found holding = holding
  grant_given false nr s lease from start found holding = tt

  -- the notice that is taken up, or none
  abbrev OfTaken : Option Notice → Type 0
  OfTaken None = Unit {0}
  OfTaken (Some n) = P n

  notice_given : (k : Known) (found : Found) (n : Option Notice) → OfTaken n → OnNotice P (notice_event k found n)
  notice_given k found None holding = tt
  notice_given k found (Some (notices.Granted nr s lease from start)) holding = grant_given (shows k.ends.seat.knows.number lease found.word) nr s lease from start found holding
  notice_given k found (Some (notices.Refused nr s why)) holding = holding
  notice_given k found (Some (notices.Message s lease pos bytes)) holding =
      message_given (holds k s lease) (shows k.ends.seat.knows.number lease found.word) (record { s = s; lease = lease; pos = pos; bytes = bytes }) found holding

  taken_holding : (kept : Option Message) (popped : Option Notice) → AllHold (kept_notice kept ++ popped_beside kept popped) → OfTaken (taken_up kept popped)
  taken_holding (Some m) popped all = All-head P (notice_of m) [] all
  taken_holding None None all = tt
  taken_holding None (Some n) all = All-head P n [] all

  front : (xs ys : List Notice) → AllHold (xs ++ ys) → AllHold xs
  front [] ys all = All-nil P
  front (x ∷ xs) ys all = All-cons P x xs (All-head P x (xs ++ ys) all) (front xs ys (All-tail P x (xs ++ ys) all))

  back : (xs ys : List Notice) → AllHold (xs ++ ys) → AllHold ys
  back [] ys all = all
  back (x ∷ xs) ys all = back xs ys (All-tail P x (xs ++ ys) all)

  -- what is kept behind a call is of the log too
  abbrev KeepsHolding : Known → Type 0
  KeepsHolding k = AllHold (kept_notice k.kept)

  none_kept : (k : Known) → k.kept ≡ None → KeepsHolding k
  none_kept k none = subst (λ kept. AllHold (kept_notice kept)) (sym none) (All-nil P)

  early_kept : (early shown : Bool) (k : Known) (m : Message) (found : Found) → k.kept ≡ None → P (notice_of m)
      → KeepsHolding (if early then record (saw_published k m.s found.published) { kept = Some m } else after_published (saw_word (saw_published k m.s found.published) m.s found.word) m shown)
  early_kept true shown k m found none holding = All-cons P (notice_of m) [] holding (All-nil P)
  early_kept false true k m found none holding = none_kept k none
  early_kept false false k m found none holding = none_kept k none

  message_kept : (is_held shown : Bool) (k : Known) (m : Message) (found : Found) → k.kept ≡ None → P (notice_of m) → KeepsHolding (after_message k m is_held shown found)
  message_kept false shown k m found none holding = none_kept k none
  message_kept true shown k m found none holding = early_kept (nat_le found.published m.pos) shown k m found none holding

  grant_kept : (shown : Bool) (k : Known) (s lease from : ℕ) → k.kept ≡ None → KeepsHolding (after_grant k s lease from shown)
  grant_kept true k s lease from none = none_kept k none
  grant_kept false k s lease from none = none_kept k none

  notice_kept : (k : Known) (found : Found) (n : Option Notice) → k.kept ≡ None → OfTaken n → KeepsHolding (after_notice k found n)
  notice_kept k found None none holding = none_kept k none
  notice_kept k found (Some (notices.Granted nr s lease from start)) none holding =
      grant_kept (shows k.ends.seat.knows.number lease found.word) (saw_word (with_request_closed k) s found.word) s lease from none
  notice_kept k found (Some (notices.Refused nr s why)) none holding = none_kept k none
  notice_kept k found (Some (notices.Message s lease pos bytes)) none holding =
      message_kept (holds k s lease) (shows k.ends.seat.knows.number lease found.word) k (record { s = s; lease = lease; pos = pos; bytes = bytes }) found none holding

  asked_kept : (k : Known) (s from taken : ℕ) (answer : Result ℕ AskError) → (after_asking k s from taken answer).kept ≡ k.kept
  asked_kept k s from taken (Ok nr) = refl
  asked_kept k s from taken (Err (asking.Outstanding nr)) = refl
  asked_kept k s from taken (Err (asking.AsksSpent count)) = refl
  asked_kept k s from taken (Err (asking.RingFull pushed found)) = refl

  refused_kept : (k : Known) (s taken : ℕ) (why : SendRefusal) → (after_refusing k s taken why).kept ≡ k.kept
  refused_kept k s taken sending.NotHeld = refl
  refused_kept k s taken (sending.TooLong size) = refl
  refused_kept k s taken (sending.BadBody at) = refl
  refused_kept k s taken (sending.LaneFull committed found) = refl
  refused_kept k s taken (sending.SendsSpent count) = refl
  refused_kept k s taken (sending.Lost seen) = refl

  release_kept : (k : Known) (s : ℕ) (why : ReleaseRefusal) → (after_release_refused k s why).kept ≡ k.kept
  release_kept k s releasing.NotHeld = refl
  release_kept k s (releasing.Lost seen) = refl

  hand_kept : (k : Known) (s : ℕ) (why : HandRefusal) → (after_hand_refused k s why).kept ≡ k.kept
  hand_kept k s handing.NotHeld = refl
  hand_kept k s (handing.BadHeir heir) = refl
  hand_kept k s (handing.Lost seen) = refl

  done_kept : (k : Known) (command : Command) (taken : ℕ) (answer : Result (Unit {0}) (Full Command)) → (after_done k command taken answer).kept ≡ k.kept
  done_kept k command taken (Ok unit) = refl
  done_kept k command taken (Err full) = refl

  same_kept : (old new : Known) → new.kept ≡ old.kept → KeepsHolding old → KeepsHolding new
  same_kept old new same all = subst (λ kept. AllHold (kept_notice kept)) (sym same) all

  none_given : (kept : List Kept) → kept ≡ [] → All (HandsOn P) kept
  none_given kept none = subst (All (HandsOn P)) (sym none) (All-nil (HandsOn P))

  -- one call: what it gives is of the log, and what is kept behind it
  record IsGiven (k : Known) (call : Call) (kept : List Kept) : Type 0 where
    gives : All (HandsOn P) kept
    keeps : KeepsHolding (after_call k call)

  one_kept : (one : Kept) (kept : List Kept) → kept ≡ one ∷ [] → HandsOn P one → All (HandsOn P) kept
  one_kept one kept is gives = subst (All (HandsOn P)) (sym is) (All-cons (HandsOn P) one [] gives (All-nil (HandsOn P)))

  call_given : (k : Known) (call : Call) (kept : List Kept) → IsKeptAs k call kept → AllHold (kept_notice k.kept ++ popped_in k call) → IsGiven k call kept
  call_given k (asks s from taken answer) kept is all = record { gives = one_kept _ kept is tt; keeps = same_kept k (after_asking k s from taken answer) (asked_kept k s from taken answer) (front (kept_notice k.kept) [] all) }
  call_given k (polls o) kept is all =
      let n = taken_up k.kept o.popped in
      let holding = taken_holding k.kept o.popped all in
      record {
        gives = one_kept _ kept is (notice_given k o.found n holding);
        keeps = notice_kept (after_taking_up k o.pushed o.popped) o.found n refl holding;
      }
  call_given k (sends s taken body items) kept is all = record { gives = one_kept _ kept is tt; keeps = front (kept_notice k.kept) [] all }
  call_given k (send_refused s taken why) kept is all = record { gives = one_kept _ kept is.1 tt; keeps = same_kept k (after_refusing k s taken why) (refused_kept k s taken why) (front (kept_notice k.kept) [] all) }
  call_given k (gives_back s heir owner) kept is all = record {
    gives = elim is [
      | inl nobody ↦ one_kept _ kept nobody.1 tt
      | inr handed ↦ one_kept _ kept handed tt
    ];
    keeps = front (kept_notice k.kept) [] all;
  }
  call_given k (release_refused s why) kept is all = record { gives = one_kept _ kept is tt; keeps = same_kept k (after_release_refused k s why) (release_kept k s why) (front (kept_notice k.kept) [] all) }
  call_given k (hand_refused s why) kept is all = record { gives = one_kept _ kept is.1 tt; keeps = same_kept k (after_hand_refused k s why) (hand_kept k s why) (front (kept_notice k.kept) [] all) }
  call_given k beats kept is all = record { gives = one_kept _ kept is tt; keeps = front (kept_notice k.kept) [] all }
  call_given k (is_done finished taken answer) kept is all = absurd is
  call_given k (meets ends) kept is all = record { gives = none_given kept is; keeps = front (kept_notice k.kept) [] all }

  reported_given : (k : Known) (call : Call) (kept : List Kept) → IsReportedAs k call kept → AllHold (kept_notice k.kept ++ popped_in k call) → IsGiven k call kept
  reported_given k call kept is all = elim is [
    | inl own ↦ call_given k call kept own all
    | inr beside ↦ elim beside [
      | inl out ↦ record { gives = none_given kept out.none; keeps = (call_given k call (out.one ∷ []) out.is all).keeps }
      | inr ends ↦ record { gives = none_given kept ends.none; keeps = subst (λ c. KeepsHolding (after_call k c)) (sym ends.is) (same_kept k (after_done k (commands.Done ends.finished) ends.taken ends.answer) (done_kept k (commands.Done ends.finished) ends.taken ends.answer) (front (kept_notice k.kept) (popped_in k call) all)) }
    ]
  ]

  -- and so of all
  pub calls_given : (k : Known) (made : List Call) (kept : List Kept) → AreKept IsReportedAs k made kept → AllHold (notices_of k made) → All (HandsOn P) kept
  calls_given k [] kept none all = none_given kept none
  calls_given k (call ∷ made) kept are all =
      let begun = kept_notice k.kept in
      let here : AllHold ((begun ++ popped_in k call) ++ popped_of (after_call k call) made) = subst AllHold (sym (append_assoc begun (popped_in k call) (popped_of (after_call k call) made))) all in
      let one = reported_given k call are.0 are.3 (front (begun ++ popped_in k call) (popped_of (after_call k call) made) here) in
      let rest = back (begun ++ popped_in k call) (popped_of (after_call k call) made) here in
      subst (All (HandsOn P)) (sym are.2) (All-append (HandsOn P) are.0 are.1 one.gives
      (calls_given (after_call k call) made are.1 are.4 (All-append P (kept_notice (after_call k call).kept) (popped_of (after_call k call) made) one.keeps rest)))
