-- What a library's seat knows that it did is what its calls answered.
use Rattle.std.proofs.Common.{◌≡◌, ℕ, ◌+◌, ◌<◌, ◌==◌, List, [], ◌∷◌, ◌++◌, length, get_or, set, Bool, true, false, nat_le, nat_lt, if◌then◌else◌, refl, sym, ap, ◌∙◌, subst, inl, inr, eq-eqb, ne_eqb, arith, append_assoc, add-one}
use Rattle.std.specs.Prelude.{Option, Some, None, Ok, Err}
use native.Mathlib.Decide.{ℕ_discrete}
use Rattle.std.proofs.lemmas.Bool.{cases_lt}
use Rattle.std.proofs.lemmas.List.{get_or-set_same, get_or-set_other, get_or_past, set_past}
use Rattle.lease_core.specs.declared.lease.Ending.{Ending}
use Rattle.lease_core.specs.declared.lease.Ending.TheVariants.{Running, GivenBack, TakenBack}
use Rattle.lease_core.specs.declared.messages.Notice.{Notice}
use Rattle.lease_core.specs.declared.messages.Notice.TheVariants as notices
use Rattle.lease_core.specs.declared.word.Word.{Word}
use Rattle.lease_words.specs.declared.view.LibraryLease.{LibraryLease}
use Rattle.lease_words.specs.declared.view.LibrarySession.{LibrarySession}
use Rattle.lease_words.specs.Leases.{held_by, held_lease, held_count, shows_lease, loss_ending, with_first_ending, with_one_send, new_lease, leases_after_see}
use Rattle.lease_words.specs.Views.{LibraryView, no_library_session, library_at, with_library_at}
use Rattle.lease_words.specs.Sees.{release_ending, after_see, after_arrival, after_taken_load, after_send, after_release, after_loss}
use Rattle.lease_words.specs.Answers.{active_word, released_word}
use Rattle.library_api.specs.declared.refusal.SendRefusal.TheVariants as sending
use Rattle.library_api.specs.declared.refusal.ReleaseRefusal.TheVariants as releasing
use Rattle.library_api.specs.declared.refusal.HandRefusal.TheVariants as handing
use Rattle.library_api.specs.declared.refusal.AskError.TheVariants as asking
use Rattle.library_api.specs.declared.reading.Message.{Message}
use Rattle.library_api.specs.Ends.{seat_after_beat, seat_after_see, seat_after_arrival}
use Rattle.library_api.specs.Known.{Known, reading_at, holds, held, sends_made, session_at, with_seat}
use Rattle.library_api.specs.Polls.{Found, Polled, shows, saw_word, saw_published, with_none_kept, with_request_closed, after_pop, after_taking_up, after_grant, after_published, after_message, after_notice, after_poll, taken_up}
use Rattle.library_api.specs.Calls.{Call, asks, polls, sends, send_refused, gives_back, release_refused, hand_refused, beats, is_done, meets, after_call, after_calls, IsLawful, AreLawful, Deed, did_send, did_give, sends_by, end_by, deeds_by, deeds_in, deeds_of}

abbrev deeds_at : LibraryView → ℕ → List Deed
deeds_at seat s = deeds_by (library_at seat s).leases

-- a lease that was lost did no more
lost_end : (h h' : LibraryLease) (e : Ending) → h'.lease ≡ h.lease → h'.count ≡ h.count → end_by h' (loss_ending e) ≡ end_by h e
lost_end h h' Running same count = refl
lost_end h h' TakenBack same count = refl
lost_end h h' (GivenBack heir) same count = rw (same, count)

lost_deeds : (hs : List LibraryLease) → deeds_by (with_first_ending loss_ending hs) ≡ deeds_by hs
lost_deeds [] = refl
lost_deeds (h ∷ hs) = ap (λ (ds : List Deed). deeds_by hs ++ (sends_by h.lease h.count ++ ds)) (lost_end h (record h { ending = loss_ending h.ending }) h.ending refl refl)

append_none : (ds : List Deed) → ds ++ [] ≡ ds
append_none [] = refl
append_none (d ∷ ds) = ap (λ (xs : List Deed). d ∷ xs) (append_none ds)

seen_if : (hs : List LibraryLease) (w : Word) (shown same : Bool)
    → deeds_by (if shown then (if same then hs else new_lease w.lease ∷ with_first_ending loss_ending hs) else with_first_ending loss_ending hs) ≡ deeds_by hs
seen_if hs w true true = refl
seen_if hs w true false = append_none (deeds_by (with_first_ending loss_ending hs)) ∙ lost_deeds hs
seen_if hs w false same = lost_deeds hs

seen_deeds : (library : ℕ) (w : Word) (hs : List LibraryLease) → deeds_by (leases_after_see library w hs) ≡ deeds_by hs
seen_deeds library w hs = seen_if hs w (shows_lease library w) (held_lease hs == w.lease)

-- a session of a list that was changed at one place
changed : (xs : List LibrarySession) (t s : ℕ) (x d : LibrarySession) → deeds_by x.leases ≡ deeds_by (get_or xs t d).leases → deeds_by (get_or (set xs t x) s d).leases ≡ deeds_by (get_or xs s d).leases
changed xs t s x d same = elim (ℕ_discrete s t) [
  | yes here ↦ elim (cases_lt t (length xs)) [
    | inr past ↦ ap (λ (ys : List LibrarySession). deeds_by (get_or ys s d).leases) (set_past xs t x past)
    | inl within ↦ subst (λ (j : ℕ). deeds_by (get_or (set xs t x) j d).leases ≡ deeds_by (get_or xs j d).leases) (sym here)
        (ap (λ (ls : LibrarySession). deeds_by ls.leases) (get_or-set_same xs t x d within) ∙ same)
  ]
  | no other ↦ ap (λ (ls : LibrarySession). deeds_by ls.leases) (get_or-set_other xs t s x d other)
]

-- and one in which more was done
grown : (xs : List LibrarySession) (t s : ℕ) (x d : LibrarySession) (more : List Deed) → t < length xs → deeds_by x.leases ≡ deeds_by (get_or xs t d).leases ++ more
    → deeds_by (get_or (set xs t x) s d).leases ≡ deeds_by (get_or xs s d).leases ++ (if t == s then more else [])
grown xs t s x d more within grew = elim (ℕ_discrete s t) [
  | yes here ↦ subst (λ (j : ℕ). deeds_by (get_or (set xs t x) j d).leases ≡ deeds_by (get_or xs j d).leases ++ (if t == j then more else [])) (sym here)
      (ap (λ (ls : LibrarySession). deeds_by ls.leases) (get_or-set_same xs t x d within) ∙ grew
      ∙ ap (λ (b : Bool). deeds_by (get_or xs t d).leases ++ (if b then more else [])) (sym (eq-eqb t t refl)))
  | no other ↦ ap (λ (ls : LibrarySession). deeds_by ls.leases) (get_or-set_other xs t s x d other)
      ∙ sym (append_none (deeds_by (get_or xs s d).leases))
      ∙ ap (λ (b : Bool). deeds_by (get_or xs s d).leases ++ (if b then more else [])) (sym (ne_eqb t s (λ e. other (sym e))))
]

-- a lease that is held is the one that the seat holds
held_if : (granted seated : ℕ) (b : Bool) → (granted == seated) ≡ b → 0 < (if b then granted else 0) → (if b then granted else 0) ≡ seated
held_if granted seated true same some = grind (arith, same)
held_if granted seated false same some = absurd (omega arith)

held_seated : (k : Known) (s : ℕ) → 0 < held k s → held k s ≡ held_lease (session_at k s).leases
held_seated k s some = held_if (reading_at k s).lease (held_lease (session_at k s).leases) ((reading_at k s).lease == held_lease (session_at k s).leases) refl some

seated : (k : Known) (s : ℕ) → 0 < held k s → 0 < held_lease (session_at k s).leases
seated k s some = subst (λ (n : ℕ). 0 < n) (held_seated k s some) some

pub within : (k : Known) (s : ℕ) → 0 < held k s → s < length k.ends.seat.knows.sessions
within k s some = elim (cases_lt s (length k.ends.seat.knows.sessions)) [
  | inl here ↦ here
  | inr past ↦ absurd (let none : 0 < held_lease (no_library_session).leases = subst (λ (ls : LibrarySession). 0 < held_lease ls.leases) (get_or_past k.ends.seat.knows.sessions s no_library_session past) (seated k s some) in omega arith)
]

sent_at : (rest : List Deed) (h h' : LibraryLease) (e : Ending) → h'.lease ≡ h.lease → h'.count ≡ h.count + 1 → 0 < held_by e h.lease
    → rest ++ (sends_by h.lease (h.count + 1) ++ end_by h' e) ≡ (rest ++ (sends_by h.lease h.count ++ end_by h e)) ++ did_send (held_by e h.lease) (held_by e h.count + 1) ∷ []
sent_at rest h h' Running same count some = rw add-one (simp (append_none, append_assoc))
sent_at rest h h' TakenBack same count some = absurd (omega arith)
sent_at rest h h' (GivenBack heir) same count some = absurd (omega arith)

sent_deeds : (hs : List LibraryLease) → 0 < held_lease hs → deeds_by (with_one_send hs) ≡ deeds_by hs ++ did_send (held_lease hs) (held_count hs + 1) ∷ []
sent_deeds [] some = absurd (omega arith)
sent_deeds (h ∷ hs) some = sent_at (deeds_by hs) h (record h { count = h.count + 1 }) h.ending refl refl some

gave_at : (rest : List Deed) (h : LibraryLease) (e : Ending) (heir : ℕ) → 0 < held_by e h.lease
    → rest ++ (sends_by h.lease h.count ++ did_give h.lease h.count heir ∷ []) ≡ (rest ++ (sends_by h.lease h.count ++ end_by h e)) ++ did_give (held_by e h.lease) (held_by e h.count) heir ∷ []
gave_at rest h Running heir some = simp (append_none, append_assoc)
gave_at rest h TakenBack heir some = absurd (omega arith)
gave_at rest h (GivenBack other) heir some = absurd (omega arith)

gave_deeds : (hs : List LibraryLease) (heir : ℕ) → 0 < held_lease hs → deeds_by (with_first_ending (release_ending heir) hs) ≡ deeds_by hs ++ did_give (held_lease hs) (held_count hs) heir ∷ []
gave_deeds [] heir some = absurd (omega arith)
gave_deeds (h ∷ hs) heir some = gave_at (deeds_by hs) h h.ending heir some

-- loads and losses add nothing
saw_if : (seat : LibraryView) (t s : ℕ) (x : LibrarySession) (b : Bool) → deeds_by x.leases ≡ deeds_at seat t → deeds_at (if b then with_library_at seat t x else seat) s ≡ deeds_at seat s
saw_if seat t s x true same = changed seat.knows.sessions t s x no_library_session same
saw_if seat t s x false same = refl

see_deeds : (seat : LibraryView) (t s : ℕ) (w : Word) → deeds_at (seat_after_see seat t w) s ≡ deeds_at seat s
see_deeds seat t s w = saw_if seat t s (after_see seat.knows.number (library_at seat t) w) (nat_lt t seat.table.shape.sessions) (seen_deeds seat.knows.number w (library_at seat t).leases)

arrival_deeds : (seat : LibraryView) (t s count : ℕ) → deeds_at (seat_after_arrival seat t count) s ≡ deeds_at seat s
arrival_deeds seat t s count = saw_if seat t s (after_arrival (library_at seat t) count) (nat_lt t seat.table.shape.sessions) refl

abbrev deeds : Known → ℕ → List Deed
deeds k s = deeds_at k.ends.seat s

on_published : (k : Known) (m : Message) (b : Bool) (s : ℕ) → deeds (after_published k m b) s ≡ deeds k s
on_published k m true s = refl
on_published k m false s = refl

on_held : (k : Known) (m : Message) (e shown : Bool) (found : Found) (s : ℕ)
    → deeds (if e then record (saw_published k m.s found.published) { kept = Some m } else after_published (saw_word (saw_published k m.s found.published) m.s found.word) m shown) s ≡ deeds k s
on_held k m true shown found s = arrival_deeds k.ends.seat m.s s found.published
on_held k m false shown found s = on_published (saw_word (saw_published k m.s found.published) m.s found.word) m shown s
    ∙ see_deeds (seat_after_arrival k.ends.seat m.s found.published) m.s s found.word ∙ arrival_deeds k.ends.seat m.s s found.published

on_message : (k : Known) (m : Message) (h shown : Bool) (found : Found) (s : ℕ) → deeds (after_message k m h shown found) s ≡ deeds k s
on_message k m false shown found s = refl
on_message k m true shown found s = on_held k m (nat_le found.published m.pos) shown found s

on_grant : (k : Known) (t lease from : ℕ) (b : Bool) (s : ℕ) → deeds (after_grant k t lease from b) s ≡ deeds k s
on_grant k t lease from true s = refl
on_grant k t lease from false s = refl

on_notice : (k : Known) (found : Found) (n : Option Notice) (s : ℕ) → deeds (after_notice k found n) s ≡ deeds k s
on_notice k found None s = refl
on_notice k found (Some (notices.Granted nr t lease from start)) s =
    on_grant (saw_word (with_request_closed k) t found.word) t lease from (shows k.ends.seat.knows.number lease found.word) s ∙ see_deeds k.ends.seat t s found.word
on_notice k found (Some (notices.Refused nr t why)) s = refl
on_notice k found (Some (notices.Message t lease pos bytes)) s =
    on_message k (record { s = t; lease = lease; pos = pos; bytes = bytes }) (holds k t lease) (shows k.ends.seat.knows.number lease found.word) found s

on_taking_up : (k : Known) (kept : Option Message) (pushed : ℕ) (popped : Option Notice) (s : ℕ)
    → deeds (with_none_kept (after_pop kept (with_seat k (seat_after_beat k.ends.seat)) pushed popped)) s ≡ deeds k s
on_taking_up k (Some m) pushed popped s = refl
on_taking_up k None pushed popped s = refl

on_poll : (k : Known) (o : Polled) (s : ℕ) → deeds (after_poll k o) s ≡ deeds k s
on_poll k o s = on_notice (after_taking_up k o.pushed o.popped) o.found (taken_up k.kept o.popped) s ∙ on_taking_up k k.kept o.pushed o.popped s

nothing_done : (ds ds' : List Deed) → ds' ≡ ds → ds' ≡ ds ++ []
nothing_done ds ds' same = same ∙ sym (append_none ds)

-- what was lost of a session leaves its deeds
loss_at : (k : Known) (t s : ℕ) (x : LibrarySession) → deeds_by x.leases ≡ deeds k t → deeds_by (get_or (set k.ends.seat.knows.sessions t x) s no_library_session).leases ≡ deeds k s
loss_at k t s x same = changed k.ends.seat.knows.sessions t s x no_library_session same

did : (s : ℕ) (k : Known) (c : Call) → IsLawful k c → deeds (after_call k c) s ≡ deeds k s ++ deeds_in s k c
did s k (asks t from taken (Ok nr)) lawful = nothing_done (deeds k s) (deeds k s) refl
did s k (asks t from taken (Err (asking.Outstanding nr))) lawful = nothing_done (deeds k s) (deeds k s) refl
did s k (asks t from taken (Err (asking.AsksSpent count))) lawful = nothing_done (deeds k s) (deeds k s) refl
did s k (asks t from taken (Err (asking.RingFull pushed found))) lawful = nothing_done (deeds k s) (deeds k s) refl
did s k (polls o) lawful = nothing_done (deeds k s) (deeds (after_poll k o) s) (on_poll k o s)
did s k (sends t taken body items) lawful =
    grown k.ends.seat.knows.sessions t s (after_send (after_taken_load (session_at k t) taken) items (active_word (held k t) k.ends.seat.knows.number (sends_made k t + 1))) no_library_session
    (did_send (held k t) (sends_made k t + 1) ∷ []) (within k t lawful.0)
    (sent_deeds (session_at k t).leases (seated k t lawful.0) ∙ ap (λ (n : ℕ). deeds k t ++ did_send n (sends_made k t + 1) ∷ []) (sym (held_seated k t lawful.0)))
did s k (send_refused t taken sending.NotHeld) lawful = nothing_done (deeds k s) (deeds k s) refl
did s k (send_refused t taken (sending.TooLong size)) lawful = nothing_done (deeds k s) (deeds k s) refl
did s k (send_refused t taken (sending.BadBody at)) lawful = nothing_done (deeds k s) (deeds k s) refl
did s k (send_refused t taken (sending.LaneFull committed found)) lawful = nothing_done (deeds k s) (deeds (after_call k (send_refused t taken (sending.LaneFull committed found))) s) (loss_at k t s (after_taken_load (session_at k t) taken) refl)
did s k (send_refused t taken (sending.SendsSpent count)) lawful = nothing_done (deeds k s) (deeds (after_call k (send_refused t taken (sending.SendsSpent count))) s) (loss_at k t s (after_taken_load (session_at k t) taken) refl)
did s k (send_refused t taken (sending.Lost seen)) lawful =
    nothing_done (deeds k s) (deeds (after_call k (send_refused t taken (sending.Lost seen))) s) (loss_at k t s (after_loss (after_taken_load (session_at k t) taken) seen) (lost_deeds (session_at k t).leases))
did s k (gives_back t heir owner) lawful =
    grown k.ends.seat.knows.sessions t s (after_release (session_at k t) heir (released_word (held k t) owner (sends_made k t))) no_library_session
    (did_give (held k t) (sends_made k t) heir ∷ []) (within k t lawful)
    (gave_deeds (session_at k t).leases heir (seated k t lawful) ∙ ap (λ (n : ℕ). deeds k t ++ did_give n (sends_made k t) heir ∷ []) (sym (held_seated k t lawful)))
did s k (release_refused t releasing.NotHeld) lawful = nothing_done (deeds k s) (deeds k s) refl
did s k (release_refused t (releasing.Lost seen)) lawful =
    nothing_done (deeds k s) (deeds (after_call k (release_refused t (releasing.Lost seen))) s) (loss_at k t s (after_loss (session_at k t) seen) (lost_deeds (session_at k t).leases))
did s k (hand_refused t handing.NotHeld) lawful = nothing_done (deeds k s) (deeds k s) refl
did s k (hand_refused t (handing.BadHeir heir)) lawful = nothing_done (deeds k s) (deeds k s) refl
did s k (hand_refused t (handing.Lost seen)) lawful =
    nothing_done (deeds k s) (deeds (after_call k (hand_refused t (handing.Lost seen))) s) (loss_at k t s (after_loss (session_at k t) seen) (lost_deeds (session_at k t).leases))
did s k beats lawful = nothing_done (deeds k s) (deeds k s) refl
did s k (is_done finished taken (Ok unit)) lawful = nothing_done (deeds k s) (deeds k s) refl
did s k (is_done finished taken (Err full)) lawful = nothing_done (deeds k s) (deeds k s) refl
did s k (meets ends) met = nothing_done (deeds k s) (deeds_at ends.seat s) (ap (λ (hs : List LibraryLease). deeds_by hs) (met.leases s))

pub all_did : (s : ℕ) (k : Known) (calls : List Call) → AreLawful k calls → deeds (after_calls k calls) s ≡ deeds k s ++ deeds_of s k calls
all_did s k [] lawful = nothing_done (deeds k s) (deeds k s) refl
all_did s k (c ∷ cs) lawful =
    all_did s (after_call k c) cs lawful.1 ∙ ap (λ (ds : List Deed). ds ++ deeds_of s (after_call k c) cs) (did s k c lawful.0) ∙ append_assoc (deeds k s) (deeds_in s k c) (deeds_of s (after_call k c) cs)
