-- A poll takes up a notice, answers it, and waits.
use Rattle.std.proofs.Common.{◌≡◌, refl, sym, ap, ◌∙◌, subst}
use Rattle.std.specs.Prelude.{ℕ, Option, Some, None}
use Rattle.lease_core.specs.declared.messages.Notice.{Notice}
use Rattle.library_api.specs.declared.event.Event.{Event}
use Rattle.lease_core.specs.declared.messages.Notice.TheVariants as notices
use Rattle.library_api.specs.declared.reading.Message.{Message}
use Rattle.library_api.specs.Ends.{seat_after_beat}
use Rattle.library_api.specs.Known.{Known, after_waiting, with_seat}
use Rattle.library_api.specs.Polls.{Found, Polled, with_none_kept, after_pop, event_of, after_poll, polled, notice_event, after_notice, after_taking_up, taken_up, popped_since, found_in, waits_for}

pub record HasPolled (k k3 : Known) (event : Event) : Type 0 where
  pub library : k3 ≡ after_poll k (polled k k3)
  pub answer : event ≡ event_of k (polled k k3)

abbrev loaded : (k k1 k2 : Known) (notice : Option Notice) → Polled
loaded k k1 k2 notice = record { pushed = k1.ends.head.pushed; popped = popped_since k k1; found = found_in k2 notice }

-- To take up a notice changes nothing that decides what is answered on it.
pub event_at : (k : Known) (kept : Option Message) (pushed : ℕ) (popped : Option Notice) (found : Found) (n : Option Notice)
    → notice_event (with_none_kept (after_pop kept (with_seat k (seat_after_beat k.ends.seat)) pushed popped)) found n ≡ notice_event k found n
event_at k (Some m) pushed popped found None = refl
event_at k (Some m) pushed popped found (Some (notices.Granted nr s lease from start)) = refl
event_at k (Some m) pushed popped found (Some (notices.Refused nr s why)) = refl
event_at k (Some m) pushed popped found (Some (notices.Message s lease pos bytes)) = refl
event_at k None pushed popped found None = refl
event_at k None pushed popped found (Some (notices.Granted nr s lease from start)) = refl
event_at k None pushed popped found (Some (notices.Refused nr s why)) = refl
event_at k None pushed popped found (Some (notices.Message s lease pos bytes)) = refl

read_off : (k k1 k2 : Known) (notice : Option Notice) → notice ≡ taken_up k.kept (popped_since k k1) → k2.ends.head ≡ k1.ends.head → polled k k2 ≡ loaded k k1 k2 notice
read_off k k1 k2 notice up head = rw (head, up)

pub has_polled : (k k1 k2 : Known) (notice : Option Notice) (event : Event)
    → k1 ≡ after_taking_up k k1.ends.head.pushed (popped_since k k1)
    → notice ≡ taken_up k.kept (popped_since k k1)
    → k2 ≡ after_notice k1 (found_in k2 notice) notice
    → event ≡ notice_event k1 (found_in k2 notice) notice
    → k2.ends.head ≡ k1.ends.head
    → HasPolled k (after_waiting (waits_for event) k2) event
has_polled k k1 k2 notice event took up after answered head =
    let k3 = after_waiting (waits_for event) k2 in
    let o = loaded k k1 k2 notice in
    let read : polled k k3 ≡ o = read_off k k1 k2 notice up head in
    let is : event ≡ event_of k o =
    answered ∙ ap (λ (x : Known). notice_event x o.found notice) took ∙ event_at k k.kept o.pushed o.popped o.found notice ∙ ap (λ (n : Option Notice). notice_event k o.found n) up in
    let then : k2 ≡ after_notice (after_taking_up k o.pushed o.popped) o.found (taken_up k.kept o.popped) =
    after ∙ ap (λ (x : Known). after_notice x o.found notice) took ∙ ap (λ (n : Option Notice). after_notice (after_taking_up k o.pushed o.popped) o.found n) up in
    record {
      library = subst (λ (p : Polled). k3 ≡ after_poll k p) (sym read) (ap (λ (e : Event). after_waiting (waits_for e) k2) is ∙ ap (λ (x : Known). after_waiting (waits_for (event_of k o)) x) then);
      answer = subst (λ (p : Polled). event ≡ event_of k p) (sym read) is;
    }
