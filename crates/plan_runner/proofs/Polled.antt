-- What a poll leaves of the request that is open, and of the waits.
use Rattle.std.proofs.Common.{◌≡◌, inl, inr, ℕ, Bool, true, false, if◌then◌else◌, nat_le, Option, None, Some, refl, ap, subst, sym}
use Rattle.lease_core.specs.declared.messages.Notice.{Notice}
use Rattle.lease_core.specs.declared.messages.Notice.TheVariants as notices
use Rattle.library_api.specs.Known.{Known}
use Rattle.library_api.specs.Polls.{Found, Polled, after_grant, after_message, after_notice, after_published, after_taking_up, message_event, notice_event, polled, saw_published, saw_word, taken_up, waits_for}
use Rattle.library_api.specs.Waits.{Waits, waits_after}
use Rattle.library_api.specs.declared.event.Event.{Event}
use Rattle.library_api.specs.declared.event.Event.TheVariants as events
use Rattle.library_api.specs.declared.reading.Message.{Message}
use Rattle.library_calls.specs.Calls.{Polls}
use Rattle.plan_runner.specs.Calls.{LeavesAnswer}
use Rattle.plan_runner.specs.Lines.{open_count}

-- the request stays open or is closed as the event says, and the waits are these
pub record LeavesKnown (event : Event) (unanswered : Option ℕ) (waited : Waits) (new : Known) : Type 0 where
  pub left : LeavesAnswer event (open_count unanswered) (open_count new.unanswered)
  pub waits : new.waited ≡ waited

granted : (k : Known) (unanswered : Option ℕ) (nr s lease from start : ℕ) (found : Found) (shown : Bool) → k.unanswered ≡ None
    → LeavesKnown (if shown then events.Granted nr s lease from start else events.LeaseLost s lease found.word) unanswered k.waited (after_grant k s lease from shown)
granted k unanswered nr s lease from start found true closed = record { left = ap open_count closed; waits = refl }
granted k unanswered nr s lease from start found false closed = record { left = inl (ap open_count closed); waits = refl }

published : (k early_known : Known) (m : Message) (found : Found) (early shown : Bool) → early_known.unanswered ≡ k.unanswered → early_known.waited ≡ k.waited
    → LeavesKnown (if early then events.NotYet m.s m.pos found.published else (if shown then events.Message m.s m.lease m.pos m.bytes else events.LeaseLost m.s m.lease found.word)) k.unanswered k.waited
    (if early then early_known else after_published k m shown)
published k early_known m found true shown unanswered waited = record { left = ap open_count unanswered; waits = waited }
published k early_known m found false true unanswered waited = record { left = refl; waits = refl }
published k early_known m found false false unanswered waited = record { left = inr refl; waits = refl }

message : (k : Known) (m : Message) (held shown : Bool) (found : Found) → LeavesKnown (message_event m held shown found) k.unanswered k.waited (after_message k m held shown found)
message k m false shown found = record { left = refl; waits = refl }
message k m true shown found = published (saw_word (saw_published k m.s found.published) m.s found.word) (record (saw_published k m.s found.published) { kept = Some m }) m found (nat_le found.published m.pos) shown refl refl

-- by the notice that a poll took up, or by none
by_notice : (k : Known) (kept : Option Message) (pushed : ℕ) (popped : Option Notice) (found : Found)
    → LeavesKnown (notice_event (record k { kept = kept }) found (taken_up kept popped)) k.unanswered k.waited (after_notice (after_taking_up (record k { kept = kept }) pushed popped) found (taken_up kept popped))
by_notice k (Some m) pushed popped found = message _ m _ _ found
by_notice k None pushed None found = record { left = refl; waits = refl }
by_notice k None pushed (Some (notices.Granted nr s lease from start)) found = granted _ k.unanswered nr s lease from start found _ refl
by_notice k None pushed (Some (notices.Refused nr s why)) found = record { left = refl; waits = refl }
by_notice k None pushed (Some (notices.Message s lease pos bytes)) found = message _ (record { s = s; lease = lease; pos = pos; bytes = bytes }) _ _ found

pub poll_leaves : (event : Event) (old new : Known) → Polls event old new → LeavesKnown event old.unanswered (waits_after (waits_for event) old.waited) new
poll_leaves event old new polls =
    let o : Polled = polled old new in
    let was = by_notice old old.kept o.pushed o.popped o.found in
    let taken = after_notice (after_taking_up old o.pushed o.popped) o.found (taken_up old.kept o.popped) in
    let of = notice_event old o.found (taken_up old.kept o.popped) in
    subst (λ (e : Event). LeavesKnown e old.unanswered (waits_after (waits_for e) old.waited) new) (sym polls.event_is)
    (subst (λ (k : Known). LeavesKnown of old.unanswered (waits_after (waits_for of) old.waited) k) (sym polls.library)
    (record { left = was.left; waits = ap (λ (w : Waits). waits_after (waits_for of) w) was.waits }))
