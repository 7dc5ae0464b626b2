-- At most the last request of a library is open: each but the first was made behind a reply.
use Rattle.std.proofs.Common.{◌≡◌, ℕ, ◌+◌, ◌≤◌, Bool, true, false, List, [], ◌∷◌, ◌++◌, length, Option, None, Some, Result, Ok, Err, refl, sym, ap, subst, ◌∙◌, arith}
use Rattle.std.proofs.lemmas.List.{append-nil, length-append}
use Rattle.std.proofs.lemmas.Option.{none-some}
use Rattle.std.specs.Prelude.{IsSome, nat_le, if◌then◌else◌}
use Rattle.lease_core.specs.declared.messages.Command.{Command}
use Rattle.lease_core.specs.declared.messages.Command.TheVariants as commands
use Rattle.lease_core.specs.declared.messages.Notice.{Notice}
use Rattle.lease_core.specs.declared.messages.Notice.TheVariants as notices
use Rattle.library_api.specs.Calls.{AreLawful, Call, IsLawful, after_call, after_calls, asks, beats, closes, gives_back, hand_refused, is_done, meets, polls, popped_beside, release_refused, send_refused, sends}
use Rattle.library_api.specs.Ends.{seat_after_beat}
use Rattle.library_api.specs.Known.{Known, holds, new_library, with_seat}
use Rattle.library_api.specs.Laws.{PollsCloseRequests, PollsPop}
use Rattle.library_api.specs.Polls.{Found, Polled, after_grant, after_message, after_notice, after_poll, after_pop, after_published, after_taking_up, saw_published, saw_word, shows, taken_up, with_none_kept, with_request_closed}
use Rattle.library_api.specs.Releases.{after_hand_refused, after_release_refused}
use Rattle.library_api.specs.Replies.{replies_in, reply_count}
use Rattle.library_api.specs.Requests.{after_asking, after_done}
use Rattle.library_api.specs.Sends.{after_refusing}
use Rattle.library_api.specs.declared.reading.Message.{Message}
use Rattle.library_api.specs.declared.refusal.AskError.{AskError}
use Rattle.library_api.specs.declared.refusal.AskError.TheVariants as asking
use Rattle.library_api.specs.declared.refusal.HandRefusal.{HandRefusal}
use Rattle.library_api.specs.declared.refusal.HandRefusal.TheVariants as handing
use Rattle.library_api.specs.declared.refusal.ReleaseRefusal.{ReleaseRefusal}
use Rattle.library_api.specs.declared.refusal.ReleaseRefusal.TheVariants as releasing
use Rattle.library_api.specs.declared.refusal.SendRefusal.{SendRefusal}
use Rattle.library_api.specs.declared.refusal.SendRefusal.TheVariants as sending
use Rattle.ring_links.specs.declared.queue.Full.{Full}
use Rattle.headline.proofs.run_lemmas.Numbers.{replies-append}
use Rattle.headline.specs.runs.Lives.{HasLived, IsReportedAs, Life}

-- what a library asked, and was told
record Asking : Type 0 where
  asked : ℕ
  open_is : Option ℕ
  popped : List Notice

abbrev asking_of : Known → Asking
asking_of k = record { asked = k.asked; open_is = k.unanswered; popped = k.ends.head.popped }

-- each request but the open one was replied to
record IsFew (a : Asking) : Type 0 where
  closed : a.open_is ≡ None → a.asked ≤ length (replies_in a.popped)
  few : a.asked ≤ length (replies_in a.popped) + 1

same_few : (old new : Asking) → new ≡ old → IsFew old → IsFew new
same_few old new same was = subst IsFew (sym same) was

-- a request is made where none is open
none_is : (open_is : Option ℕ) → (IsSome open_is → ⊥) → open_is ≡ None
none_is None not = refl
none_is (Some nr) not = absurd (not refl)

asked_few : (k : Known) (s from taken : ℕ) (answer : Result ℕ AskError) → IsLawful k (asks s from taken answer) → IsFew (asking_of k) → IsFew (asking_of (after_asking k s from taken answer))
asked_few k s from taken (Ok nr) lawful was =
    let before = was.closed (none_is k.unanswered lawful.1.1) in
    let next : nr ≡ k.asked + 1 = lawful.0 in
    record { closed = λ none. absurd (none-some nr (sym none)); few = omega arith }
asked_few k s from taken (Err (asking.Outstanding nr)) lawful was = record { closed = was.closed; few = was.few }
asked_few k s from taken (Err (asking.AsksSpent count)) lawful was = record { closed = was.closed; few = was.few }
asked_few k s from taken (Err (asking.RingFull pushed found)) lawful was = record { closed = was.closed; few = was.few }

-- a poll asks for nothing
early_asked : (early shown : Bool) (k : Known) (m : Message) (found : Found)
    → (if early then record (saw_published k m.s found.published) { kept = Some m } else after_published (saw_word (saw_published k m.s found.published) m.s found.word) m shown).asked ≡ k.asked
early_asked true shown k m found = refl
early_asked false true k m found = refl
early_asked false false k m found = refl

message_asked : (is_held shown : Bool) (k : Known) (m : Message) (found : Found) → (after_message k m is_held shown found).asked ≡ k.asked
message_asked false shown k m found = refl
message_asked true shown k m found = early_asked (nat_le found.published m.pos) shown k m found

grant_asked : (shown : Bool) (k : Known) (s lease from : ℕ) → (after_grant k s lease from shown).asked ≡ k.asked
grant_asked true k s lease from = refl
grant_asked false k s lease from = refl

notice_asked : (k : Known) (found : Found) (n : Option Notice) → (after_notice k found n).asked ≡ k.asked
notice_asked k found None = refl
notice_asked k found (Some (notices.Granted nr s lease from start)) = grant_asked (shows k.ends.seat.knows.number lease found.word) (saw_word (with_request_closed k) s found.word) s lease from
notice_asked k found (Some (notices.Refused nr s why)) = refl
notice_asked k found (Some (notices.Message s lease pos bytes)) =
    message_asked (holds k s lease) (shows k.ends.seat.knows.number lease found.word) k (record { s = s; lease = lease; pos = pos; bytes = bytes }) found

pop_asked : (kept : Option Message) (k : Known) (pushed : ℕ) (popped : Option Notice) → (with_none_kept (after_pop kept (with_seat k (seat_after_beat k.ends.seat)) pushed popped)).asked ≡ k.asked
pop_asked (Some m) k pushed popped = refl
pop_asked None k pushed popped = refl

poll_asked : (k : Known) (o : Polled) → (after_poll k o).asked ≡ k.asked
poll_asked k o = notice_asked (after_taking_up k o.pushed o.popped) o.found (taken_up k.kept o.popped) ∙ pop_asked k.kept k o.pushed o.popped

-- one notice more
module _ (old new : Asking) (asked : new.asked ≡ old.asked) (was : IsFew old) where
  reply_few : (n : Notice) → length (replies_in (n ∷ [])) ≡ 1 → new.popped ≡ old.popped ++ n ∷ [] → IsFew new
  reply_few n one popped =
      let count : length (replies_in new.popped) ≡ length (replies_in old.popped) + 1 =
      ap (λ ns. length (replies_in ns)) popped ∙ ap length (replies-append old.popped (n ∷ [])) ∙ length-append (replies_in old.popped) (replies_in (n ∷ [])) ∙ ap (λ i. length (replies_in old.popped) + i) one in
      let before = was.few in
      record { closed = λ none. omega arith; few = omega arith }

  beside_few : (more : List Notice) → replies_in more ≡ [] → new.popped ≡ old.popped ++ more → new.open_is ≡ old.open_is → IsFew new
  beside_few more none popped open_is =
      let count : length (replies_in new.popped) ≡ length (replies_in old.popped) =
      ap (λ ns. length (replies_in ns)) popped ∙ ap length (replies-append old.popped more ∙ ap (λ ns. replies_in old.popped ++ ns) none ∙ append-nil (replies_in old.popped)) in
      let before = was.few in
      record { closed = λ closed. (let earlier = was.closed (sym open_is ∙ closed) in omega arith); few = omega arith }

  polled_few : (kept : Option Message) (popped : Option Notice) → new.open_is ≡ closes (taken_up kept popped) old.open_is → new.popped ≡ old.popped ++ (popped_beside kept popped ++ []) → IsFew new
  polled_few (Some m) popped open_is are = beside_few [] refl are open_is
  polled_few None None open_is are = beside_few [] refl are open_is
  polled_few None (Some (notices.Granted nr s lease from start)) open_is are = reply_few (notices.Granted nr s lease from start) refl are
  polled_few None (Some (notices.Refused nr s why)) open_is are = reply_few (notices.Refused nr s why) refl are
  polled_few None (Some (notices.Message s lease pos bytes)) open_is are = beside_few (notices.Message s lease pos bytes ∷ []) refl are open_is

-- the other calls
refused_same : (k : Known) (s taken : ℕ) (why : SendRefusal) → asking_of (after_refusing k s taken why) ≡ asking_of k
refused_same k s taken sending.NotHeld = refl
refused_same k s taken (sending.TooLong size) = refl
refused_same k s taken (sending.BadBody at) = refl
refused_same k s taken (sending.LaneFull committed found) = refl
refused_same k s taken (sending.SendsSpent count) = refl
refused_same k s taken (sending.Lost seen) = refl

release_same : (k : Known) (s : ℕ) (why : ReleaseRefusal) → asking_of (after_release_refused k s why) ≡ asking_of k
release_same k s releasing.NotHeld = refl
release_same k s (releasing.Lost seen) = refl

hand_same : (k : Known) (s : ℕ) (why : HandRefusal) → asking_of (after_hand_refused k s why) ≡ asking_of k
hand_same k s handing.NotHeld = refl
hand_same k s (handing.BadHeir heir) = refl
hand_same k s (handing.Lost seen) = refl

done_same : (k : Known) (command : Command) (taken : ℕ) (answer : Result (Unit {0}) (Full Command)) → asking_of (after_done k command taken answer) ≡ asking_of k
done_same k command taken (Ok unit) = refl
done_same k command taken (Err full) = refl

module _ (pops : PollsPop) (close : PollsCloseRequests) where
  call_few : (k : Known) (call : Call) → IsLawful k call → IsFew (asking_of k) → IsFew (asking_of (after_call k call))
  call_few k (asks s from taken answer) lawful was = asked_few k s from taken answer lawful was
  call_few k (polls o) lawful was = polled_few (asking_of k) (asking_of (after_poll k o)) (poll_asked k o) was k.kept o.popped (close k o) (pops k (polls o ∷ []) (lawful, tt))
  call_few k (sends s taken body items) lawful was = record { closed = was.closed; few = was.few }
  call_few k (send_refused s taken why) lawful was = same_few (asking_of k) (asking_of (after_refusing k s taken why)) (refused_same k s taken why) was
  call_few k (gives_back s heir owner) lawful was = record { closed = was.closed; few = was.few }
  call_few k (release_refused s why) lawful was = same_few (asking_of k) (asking_of (after_release_refused k s why)) (release_same k s why) was
  call_few k (hand_refused s why) lawful was = same_few (asking_of k) (asking_of (after_hand_refused k s why)) (hand_same k s why) was
  call_few k beats lawful was = record { closed = was.closed; few = was.few }
  call_few k (is_done finished taken answer) lawful was = same_few (asking_of k) (asking_of (after_done k (commands.Done finished) taken answer)) (done_same k (commands.Done finished) taken answer) was
  call_few k (meets ends) lawful was = same_few (asking_of k) (asking_of (after_call k (meets ends))) (ap (λ popped. record { asked = k.asked; open_is = k.unanswered; popped = popped }) lawful.popped) was

  calls_few : (k : Known) (made : List Call) → AreLawful k made → IsFew (asking_of k) → IsFew (asking_of (after_calls k made))
  calls_few k [] lawful was = was
  calls_few k (call ∷ made) lawful was = calls_few (after_call k call) made lawful.1 (call_few k call lawful.0 was)

  pub at_most_one_open : (requests : ℕ) (life : Life) → HasLived IsReportedAs requests life → life.library.asked ≤ reply_count life.library + 1
  at_most_one_open requests life lived =
      let first = new_library lived.first requests in
      (subst (λ k. IsFew (asking_of k)) (sym lived.known) (calls_few first lived.made lived.lawful (record { closed = λ none. omega arith; few = omega arith }))).few
