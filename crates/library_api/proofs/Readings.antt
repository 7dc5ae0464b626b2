-- What a library reads next follows from the events.
use Rattle.std.proofs.Common.{◌≡◌, ℕ, ◌+◌, ◌<◌, ◌==◌, List, length, get_or, set, Bool, true, false, nat_le, if◌then◌else◌, refl, sym, ap, ◌∙◌, subst, eq-eqb, ne_eqb}
use Rattle.std.specs.Prelude.{Option, Some, None}
use native.Mathlib.Decide.{ℕ_discrete}
use Rattle.std.proofs.lemmas.List.{get_or-set_same, get_or-set_other}
use Rattle.lease_core.specs.declared.messages.Notice.{Notice}
use Rattle.lease_core.specs.declared.messages.Notice.TheVariants as notices
use Rattle.library_api.specs.declared.event.Event.{Event}
use Rattle.library_api.specs.declared.event.Event.TheVariants as events
use Rattle.library_api.specs.declared.reading.Reading.{Reading}
use Rattle.library_api.specs.declared.reading.Message.{Message}
use Rattle.library_api.specs.Ends.{seat_after_beat}
use Rattle.library_api.specs.Known.{Known, no_reading, reading_at, holds, with_seat}
use Rattle.library_api.specs.Polls.{Found, Polled, shows, saw_word, saw_published, with_none_kept, with_request_closed, after_pop, after_taking_up, after_grant, after_published, after_message, after_notice, after_poll, taken_up, message_event, notice_event, event_of}
use Rattle.library_api.specs.Calls.{reading_by}
use Rattle.library_api.proofs.TakenUp.{event_at}

-- the reading of a session once that of one was changed
pub set_at : (xs : List Reading) (t s : ℕ) (r d : Reading) → s < length xs → get_or (set xs t r) s d ≡ (if t == s then r else get_or xs s d)
set_at xs t s r d within = elim (ℕ_discrete s t) [
  | yes here ↦ subst (λ (j : ℕ). get_or (set xs j r) s d ≡ (if j == s then r else get_or xs s d)) here
      (get_or-set_same xs s r d within ∙ ap (λ (b : Bool). if b then r else get_or xs s d) (sym (eq-eqb s s refl)))
  | no other ↦ get_or-set_other xs t s r d other ∙ ap (λ (b : Bool). if b then r else get_or xs s d) (sym (ne_eqb t s (λ e. other (sym e))))
]

on_held : (s : ℕ) (k : Known) (m : Message) (e shown : Bool) (found : Found) → s < length k.readings
    → reading_at (if e then record (saw_published k m.s found.published) { kept = Some m } else after_published (saw_word (saw_published k m.s found.published) m.s found.word) m shown) s
    ≡ reading_by s (if e then events.NotYet m.s m.pos found.published else (if shown then events.Message m.s m.lease m.pos m.bytes else events.LeaseLost m.s m.lease found.word)) (reading_at k s)
on_held s k m true shown found within = refl
on_held s k m false true found within = set_at k.readings m.s s (record { lease = m.lease; next = m.pos + 1 }) no_reading within
on_held s k m false false found within = set_at k.readings m.s s no_reading no_reading within

on_message : (s : ℕ) (k : Known) (m : Message) (h shown : Bool) (found : Found) → s < length k.readings
    → reading_at (after_message k m h shown found) s ≡ reading_by s (message_event m h shown found) (reading_at k s)
on_message s k m false shown found within = refl
on_message s k m true shown found within = on_held s k m (nat_le found.published m.pos) shown found within

on_grant : (s : ℕ) (k : Known) (nr t lease from start : ℕ) (shown : Bool) (found : Found) → s < length k.readings
    → reading_at (after_grant (saw_word (with_request_closed k) t found.word) t lease from shown) s
    ≡ reading_by s (if shown then events.Granted nr t lease from start else events.LeaseLost t lease found.word) (reading_at k s)
on_grant s k nr t lease from start true found within = set_at k.readings t s (record { lease = lease; next = from }) no_reading within
on_grant s k nr t lease from start false found within = set_at k.readings t s no_reading no_reading within

on_notice : (s : ℕ) (k : Known) (found : Found) (n : Option Notice) → s < length k.readings
    → reading_at (after_notice k found n) s ≡ reading_by s (notice_event k found n) (reading_at k s)
on_notice s k found None within = refl
on_notice s k found (Some (notices.Granted nr t lease from start)) within = on_grant s k nr t lease from start (shows k.ends.seat.knows.number lease found.word) found within
on_notice s k found (Some (notices.Refused nr t why)) within = refl
on_notice s k found (Some (notices.Message t lease pos bytes)) within =
    on_message s k (record { s = t; lease = lease; pos = pos; bytes = bytes }) (holds k t lease) (shows k.ends.seat.knows.number lease found.word) found within

on_taking_up : (k : Known) (kept : Option Message) (pushed : ℕ) (popped : Option Notice)
    → (with_none_kept (after_pop kept (with_seat k (seat_after_beat k.ends.seat)) pushed popped)).readings ≡ k.readings
on_taking_up k (Some m) pushed popped = refl
on_taking_up k None pushed popped = refl

pub follow : (s : ℕ) (k : Known) (o : Polled) → s < length k.readings → reading_at (after_poll k o) s ≡ reading_by s (event_of k o) (reading_at k s)
follow s k o within =
    let k1 = after_taking_up k o.pushed o.popped in
    let n = taken_up k.kept o.popped in
    let same : k1.readings ≡ k.readings = on_taking_up k k.kept o.pushed o.popped in
    on_notice s k1 o.found n (subst (λ (rs : List Reading). s < length rs) (sym same) within)
    ∙ ap (λ (e : Event). reading_by s e (reading_at k1 s)) (event_at k k.kept o.pushed o.popped o.found n)
    ∙ ap (λ (rs : List Reading). reading_by s (event_of k o) (get_or rs s no_reading)) same
