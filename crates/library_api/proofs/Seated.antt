-- The lease on record is the one that is held.
use Rattle.std.proofs.Common.{◌≡◌, ℕ, ◌+◌, ◌<◌, ◌==◌, List, [], ◌∷◌, length, Bool, true, false, nat_le, nat_lt, if◌then◌else◌, refl, sym, ap, ◌∙◌, subst}
use Rattle.std.specs.Prelude.{Option, Some, None}
use Rattle.std.proofs.lemmas.Bool.{eqb-true, eqb-false}
use Rattle.std.proofs.lemmas.List.{get_or-set_other}
use Rattle.lease_core.specs.declared.messages.Notice.{Notice}
use Rattle.lease_core.specs.declared.messages.Notice.TheVariants as notices
use Rattle.lease_core.specs.declared.word.Word.{Word}
use Rattle.lease_words.specs.declared.view.LibraryLease.{LibraryLease}
use Rattle.lease_words.specs.declared.view.LibrarySession.{LibrarySession}
use Rattle.lease_words.specs.Leases.{held_lease, with_one_send}
use Rattle.lease_words.specs.Views.{LibraryView, no_library_session, library_at, with_library_at}
use Rattle.lease_words.specs.Sees.{after_see, after_arrival}
use Rattle.library_api.specs.declared.event.Event.{Event}
use Rattle.library_api.specs.declared.event.Event.TheVariants as events
use Rattle.library_api.specs.declared.reading.Message.{Message}
use Rattle.library_api.specs.declared.reading.Reading.{Reading}
use Rattle.library_api.specs.Ends.{seat_after_beat}
use Rattle.library_api.specs.Known.{Known, no_reading, reading_count, reading_at, lease_in, held, holds, session_at, with_seat, without_reading}
use Rattle.library_api.specs.Polls.{Found, Polled, shows, saw_word, saw_published, with_none_kept, with_request_closed, after_pop, after_taking_up, after_grant, after_published, after_message, after_notice, after_poll, taken_up, message_event, notice_event, event_of, OnHolding, HasHold}
use Rattle.library_api.specs.Sends.{with_session_known}
use Rattle.library_api.specs.Calls.{reading_by}
use Rattle.library_api.specs.Reads.{IsSeated}
use Rattle.library_api.proofs.Unmoved.{changed, saw_if}
use Rattle.library_api.proofs.EventCauses.{held_event}
use Rattle.library_api.proofs.TakenUp.{event_at}
use Rattle.library_api.proofs.Readings.{set_at}

-- The lease on record stays the one that is held. The leases of a session are those of before where a poll doesn't load its word.
abbrev looks_at : ℕ → Event → Bool
looks_at s events.Nothing = false
looks_at s (events.NotYet t pos published) = false
looks_at s (events.Granted nr t lease from start) = t == s
looks_at s (events.Refused nr t why) = false
looks_at s (events.Message t lease pos bytes) = t == s
looks_at s (events.Stale t lease pos) = false
looks_at s (events.LeaseLost t lease seen) = t == s

abbrev pub leases_at : ℕ → Known → List LibraryLease
leases_at s k = (session_at k s).leases

-- a session beside the one that was changed
beside : (seat : LibraryView) (t s : ℕ) (x : LibrarySession) (b : Bool) → (t == s) ≡ false → (library_at (if b then with_library_at seat t x else seat) s).leases ≡ (library_at seat s).leases
beside seat t s x true apart = ap (λ (ls : LibrarySession). ls.leases) (get_or-set_other seat.knows.sessions t s x no_library_session (λ e. eqb-false t s apart (sym e)))
beside seat t s x false apart = refl

beside_word : (k : Known) (t s : ℕ) (w : Word) → (t == s) ≡ false → leases_at s (saw_word k t w) ≡ leases_at s k
beside_word k t s w apart = beside k.ends.seat t s (after_see k.ends.seat.knows.number (session_at k t) w) (nat_lt t k.ends.seat.table.shape.sessions) apart

same_count : (k : Known) (t s n : ℕ) → leases_at s (saw_published k t n) ≡ leases_at s k
same_count k t s n = saw_if (List LibraryLease) (λ ls. ls.leases) k.ends.seat t s (after_arrival (session_at k t) n) (nat_lt t k.ends.seat.table.shape.sessions) refl

grant_leases : (s : ℕ) (k : Known) (nr t lease from start : ℕ) (seen w : Word) (b : Bool) → looks_at s (if b then events.Granted nr t lease from start else events.LeaseLost t lease seen) ≡ false
    → leases_at s (after_grant (saw_word (with_request_closed k) t w) t lease from b) ≡ leases_at s k
grant_leases s k nr t lease from start seen w true apart = beside_word k t s w apart
grant_leases s k nr t lease from start seen w false apart = beside_word k t s w apart

held_leases : (s : ℕ) (k : Known) (m : Message) (e shown : Bool) (found : Found) → looks_at s (held_event m e shown found) ≡ false
    → leases_at s (if e then record (saw_published k m.s found.published) { kept = Some m } else after_published (saw_word (saw_published k m.s found.published) m.s found.word) m shown) ≡ leases_at s k
held_leases s k m true shown found apart = same_count k m.s s found.published
held_leases s k m false true found apart = beside_word (saw_published k m.s found.published) m.s s found.word apart ∙ same_count k m.s s found.published
held_leases s k m false false found apart = beside_word (saw_published k m.s found.published) m.s s found.word apart ∙ same_count k m.s s found.published

message_leases : (s : ℕ) (k : Known) (m : Message) (h shown : Bool) (found : Found) → looks_at s (message_event m h shown found) ≡ false → leases_at s (after_message k m h shown found) ≡ leases_at s k
message_leases s k m false shown found apart = refl
message_leases s k m true shown found apart = held_leases s k m (nat_le found.published m.pos) shown found apart

notice_leases : (s : ℕ) (k : Known) (found : Found) (n : Option Notice) → looks_at s (notice_event k found n) ≡ false → leases_at s (after_notice k found n) ≡ leases_at s k
notice_leases s k found None apart = refl
notice_leases s k found (Some (notices.Granted nr t lease from start)) apart =
    grant_leases s k nr t lease from start found.word found.word (shows k.ends.seat.knows.number lease found.word) apart
notice_leases s k found (Some (notices.Refused nr t why)) apart = refl
notice_leases s k found (Some (notices.Message t lease pos bytes)) apart =
    message_leases s k (record { s = t; lease = lease; pos = pos; bytes = bytes }) (holds k t lease) (shows k.ends.seat.knows.number lease found.word) found apart

taking_leases : (s : ℕ) (k : Known) (kept : Option Message) (pushed : ℕ) (popped : Option Notice)
    → leases_at s (with_none_kept (after_pop kept (with_seat k (seat_after_beat k.ends.seat)) pushed popped)) ≡ leases_at s k
taking_leases s k (Some m) pushed popped = refl
taking_leases s k None pushed popped = refl

pub poll_leases : (s : ℕ) (k : Known) (o : Polled) → looks_at s (event_of k o) ≡ false → leases_at s (after_poll k o) ≡ leases_at s k
poll_leases s k o apart =
    let n = taken_up k.kept o.popped in
    notice_leases s (after_taking_up k o.pushed o.popped) o.found n (subst (λ (e : Event). looks_at s e ≡ false) (sym (event_at k k.kept o.pushed o.popped o.found n)) apart)
    ∙ taking_leases s k k.kept o.pushed o.popped

-- the lease on record is held where neither it nor the seat's changed
pub both_same : (s : ℕ) (k k' : Known) → reading_at k' s ≡ reading_at k s → held_lease (leases_at s k') ≡ held_lease (leases_at s k) → IsSeated s k → IsSeated s k'
both_same s k k' reading seat seated =
    ap (λ (r : Reading). lease_in r.lease (held_lease (leases_at s k'))) reading ∙ ap (λ (h : ℕ). lease_in (reading_at k s).lease h) seat ∙ seated ∙ sym (ap (λ (r : Reading). r.lease) reading)

none_in : (n : ℕ) (b : Bool) → (if b then n else n) ≡ n
none_in n true = refl
none_in n false = refl

-- and where there is none
none_held : (s : ℕ) (k : Known) → reading_at k s ≡ no_reading → IsSeated s k
none_held s k none =
    ap (λ (r : Reading). lease_in r.lease (held_lease (leases_at s k))) none ∙ none_in 0 (0 == held_lease (leases_at s k)) ∙ sym (ap (λ (r : Reading). r.lease) none)

-- and where a poll says so
taken_hold : (s t lease next : ℕ) (k : Known) → s < reading_count → t ≡ s → HasHold k t lease → reading_at k s ≡ record { lease = lease; next = next } → IsSeated s k
taken_hold s t lease next k within at hold is =
    subst (λ (j : ℕ). j < reading_count → held k j ≡ lease) at hold within ∙ sym (ap (λ (r : Reading). r.lease) is)

looked_seated : (s t lease next : ℕ) (k k' : Known) (here : Bool) → s < reading_count → (t == s) ≡ here → HasHold k' t lease
    → reading_at k' s ≡ (if here then record { lease = lease; next = next } else reading_at k s) → (here ≡ false → leases_at s k' ≡ leases_at s k) → IsSeated s k → IsSeated s k'
looked_seated s t lease next k k' true within at hold goes same seated = taken_hold s t lease next k' within (eqb-true t s at) hold goes
looked_seated s t lease next k k' false within at hold goes same seated = both_same s k k' goes (ap (λ (hs : List LibraryLease). held_lease hs) (same refl)) seated

lost_seated : (s : ℕ) (k k' : Known) (here : Bool) → reading_at k' s ≡ (if here then no_reading else reading_at k s) → (here ≡ false → leases_at s k' ≡ leases_at s k) → IsSeated s k → IsSeated s k'
lost_seated s k k' true goes same seated = none_held s k' goes
lost_seated s k k' false goes same seated = both_same s k k' goes (ap (λ (hs : List LibraryLease). held_lease hs) (same refl)) seated

pub event_seated : (s : ℕ) (k k' : Known) (e : Event) → s < reading_count → OnHolding e (HasHold k') → reading_at k' s ≡ reading_by s e (reading_at k s)
    → (looks_at s e ≡ false → leases_at s k' ≡ leases_at s k) → IsSeated s k → IsSeated s k'
event_seated s k k' events.Nothing within hold goes same seated = both_same s k k' goes (ap (λ (hs : List LibraryLease). held_lease hs) (same refl)) seated
event_seated s k k' (events.NotYet t pos published) within hold goes same seated = both_same s k k' goes (ap (λ (hs : List LibraryLease). held_lease hs) (same refl)) seated
event_seated s k k' (events.Granted nr t lease from start) within hold goes same seated = looked_seated s t lease from k k' (t == s) within refl hold goes same seated
event_seated s k k' (events.Refused nr t why) within hold goes same seated = both_same s k k' goes (ap (λ (hs : List LibraryLease). held_lease hs) (same refl)) seated
event_seated s k k' (events.Message t lease pos bytes) within hold goes same seated = looked_seated s t lease (pos + 1) k k' (t == s) within refl hold goes same seated
event_seated s k k' (events.Stale t lease pos) within hold goes same seated = both_same s k k' goes (ap (λ (hs : List LibraryLease). held_lease hs) (same refl)) seated
event_seated s k k' (events.LeaseLost t lease seen) within hold goes same seated = lost_seated s k k' (t == s) goes same seated

-- a session was lost or given back
abbrev forgotten : Known → ℕ → LibrarySession → Known
forgotten k t x = without_reading (with_session_known k t x) t

pub forgotten_seated : (s t : ℕ) (k : Known) (x : LibrarySession) → s < length k.readings → IsSeated s k → IsSeated s (forgotten k t x)
forgotten_seated s t k x within seated =
    lost_seated s k (forgotten k t x) (t == s) (set_at k.readings t s no_reading no_reading within)
    (λ apart. ap (λ (ls : LibrarySession). ls.leases) (get_or-set_other k.ends.seat.knows.sessions t s x no_library_session (λ e. eqb-false t s apart (sym e)))) seated

-- a session of which only this is known otherwise
pub known_seated : (s t : ℕ) (k : Known) (x : LibrarySession) → held_lease x.leases ≡ held_lease (leases_at t k) → IsSeated s k → IsSeated s (with_session_known k t x)
known_seated s t k x same seated =
    both_same s k (with_session_known k t x) refl (changed ℕ (λ ls. held_lease ls.leases) k.ends.seat.knows.sessions t s x no_library_session same) seated

pub one_send : (hs : List LibraryLease) → held_lease (with_one_send hs) ≡ held_lease hs
one_send [] = refl
one_send (h ∷ hs) = refl
