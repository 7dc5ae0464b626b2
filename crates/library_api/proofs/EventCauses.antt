-- The cause of each event.
use Rattle.std.proofs.Common.{◌≡◌, ℕ, ◌<◌, ◌≤◌, ◌⊎◌, List, Bool, true, false, nat_le, if◌then◌else◌, refl, inl, inr, ⊎_elim, arith, rules}
use Rattle.std.specs.Prelude.{◌↔◌, Option, Some, None, IsNone}
use Rattle.lease_core.specs.declared.messages.Notice.{Notice}
use Rattle.lease_core.specs.declared.messages.Notice.TheVariants as notices
use Rattle.library_api.specs.declared.event.Event.{Event}
use Rattle.library_api.specs.declared.event.Event.TheVariants as events
use Rattle.library_api.specs.declared.reading.Message.{Message}
use Rattle.library_api.specs.Known.{Known, holds}
use Rattle.library_api.specs.Polls.{Found, shows, notice_event, message_event}
use Rattle.library_api.specs.Causes.{IsNothing, IsStale, IsNotYet, IsLeaseLost, IsRefused, OfNoLease, IsEarly, HasLostLease, OfRefusal}

yes_no : true ≡ false → ⊥
yes_no e = cc

no_yes : false ≡ true → ⊥
no_yes e = cc

-- what is answered on a message of a lease that is held, by whether its position is published
abbrev pub held_event : Message → Bool → Bool → Found → Event
held_event m early shown found =
    if early then events.NotYet m.s m.pos found.published
    else (if shown then events.Message m.s m.lease m.pos m.bytes
    else events.LeaseLost m.s m.lease found.word)

abbrev grant_event : ℕ → ℕ → ℕ → ℕ → ℕ → Bool → Found → Event
grant_event nr s lease from start shown found = if shown then events.Granted nr s lease from start else events.LeaseLost s lease found.word

not_nothing : (m : Message) (e shown : Bool) (found : Found) → IsNothing (held_event m e shown found) → ⊥
not_nothing m true shown found = λ no. no
not_nothing m false true found = λ no. no
not_nothing m false false found = λ no. no

not_stale : (m : Message) (e shown : Bool) (found : Found) → IsStale (held_event m e shown found) → ⊥
not_stale m true shown found = λ no. no
not_stale m false true found = λ no. no
not_stale m false false found = λ no. no

not_refused : (m : Message) (e shown : Bool) (found : Found) → IsRefused (held_event m e shown found) → ⊥
not_refused m true shown found = λ no. no
not_refused m false true found = λ no. no
not_refused m false false found = λ no. no

early_held : (m : Message) (e shown : Bool) (found : Found) → nat_le found.published m.pos ≡ e → IsNotYet (held_event m e shown found) ↔ ((true ≡ true) × (found.published ≤ m.pos))
early_held m true shown found is = (λ _. (refl, grind (arith, is)), λ _. tt)
early_held m false true found is = (λ no. absurd no, λ p. let late : found.published ≤ m.pos = p.1 in grind (arith, is, late))
early_held m false false found is = (λ no. absurd no, λ p. let late : found.published ≤ m.pos = p.1 in grind (arith, is, late))

lost_held : (m : Message) (e shown : Bool) (found : Found) → nat_le found.published m.pos ≡ e
    → IsLeaseLost (held_event m e shown found) ↔ (((true ≡ true) × (m.pos < found.published) × (shown ≡ false)) ⊎ ⊥)
lost_held m true shown found is = (λ no. absurd no, ⊎_elim (λ p. let late : m.pos < found.published = p.1 in grind (arith, is, late)) (λ no. absurd no))
lost_held m false true found is = (λ no. absurd no, ⊎_elim (λ p. absurd (yes_no p.2)) (λ no. absurd no))
lost_held m false false found is = (λ _. inl (refl, grind (arith, is), refl), λ _. tt)

stale_on : (m : Message) (h shown : Bool) (found : Found) → IsStale (message_event m h shown found) ↔ (h ≡ false)
stale_on m false shown found = (λ _. refl, λ _. tt)
stale_on m true shown found = (λ x. absurd (not_stale m (nat_le found.published m.pos) shown found x), λ e. absurd (yes_no e))

early_on : (m : Message) (h shown : Bool) (found : Found) → IsNotYet (message_event m h shown found) ↔ ((h ≡ true) × (found.published ≤ m.pos))
early_on m false shown found = (λ no. absurd no, λ p. absurd (no_yes p.0))
early_on m true shown found = early_held m (nat_le found.published m.pos) shown found refl

lost_on : (m : Message) (h shown : Bool) (found : Found) → IsLeaseLost (message_event m h shown found) ↔ (((h ≡ true) × (m.pos < found.published) × (shown ≡ false)) ⊎ ⊥)
lost_on m false shown found = (λ no. absurd no, ⊎_elim (λ p. absurd (no_yes p.0)) (λ no. absurd no))
lost_on m true shown found = lost_held m (nat_le found.published m.pos) shown found refl

nothing_on : (m : Message) (h shown : Bool) (found : Found) → IsNothing (message_event m h shown found) → ⊥
nothing_on m false shown found = λ no. no
nothing_on m true shown found = not_nothing m (nat_le found.published m.pos) shown found

refused_on : (m : Message) (h shown : Bool) (found : Found) → IsRefused (message_event m h shown found) → ⊥
refused_on m false shown found = λ no. no
refused_on m true shown found = not_refused m (nat_le found.published m.pos) shown found

grant_no_nothing : (nr s lease from start : ℕ) (shown : Bool) (found : Found) → IsNothing (grant_event nr s lease from start shown found) → ⊥
grant_no_nothing nr s lease from start true found = λ no. no
grant_no_nothing nr s lease from start false found = λ no. no

grant_no_stale : (nr s lease from start : ℕ) (shown : Bool) (found : Found) → IsStale (grant_event nr s lease from start shown found) → ⊥
grant_no_stale nr s lease from start true found = λ no. no
grant_no_stale nr s lease from start false found = λ no. no

grant_no_early : (nr s lease from start : ℕ) (shown : Bool) (found : Found) → IsNotYet (grant_event nr s lease from start shown found) → ⊥
grant_no_early nr s lease from start true found = λ no. no
grant_no_early nr s lease from start false found = λ no. no

grant_no_refusal : (nr s lease from start : ℕ) (shown : Bool) (found : Found) → IsRefused (grant_event nr s lease from start shown found) → ⊥
grant_no_refusal nr s lease from start true found = λ no. no
grant_no_refusal nr s lease from start false found = λ no. no

grant_lost : (nr s lease from start : ℕ) (shown : Bool) (found : Found) → IsLeaseLost (grant_event nr s lease from start shown found) ↔ (⊥ ⊎ (shown ≡ false))
grant_lost nr s lease from start true found = (λ no. absurd no, ⊎_elim (λ no. absurd no) (λ e. absurd (yes_no e)))
grant_lost nr s lease from start false found = (λ _. inr refl, λ _. tt)

abbrev as_message : ℕ → ℕ → ℕ → List ℕ → Message
as_message s lease pos bytes = record { s = s; lease = lease; pos = pos; bytes = bytes }

pub nothing_cause : (k : Known) (found : Found) (n : Option Notice) → IsNothing (notice_event k found n) ↔ IsNone n
nothing_cause k found None = (λ _. search rules, λ _. tt)
nothing_cause k found (Some (notices.Granted nr s lease from start)) =
    (λ x. absurd (grant_no_nothing nr s lease from start (shows k.ends.seat.knows.number lease found.word) found x), λ no. absurd (search rules))
nothing_cause k found (Some (notices.Refused nr s why)) = (λ no. absurd no, λ no. absurd (search rules))
nothing_cause k found (Some (notices.Message s lease pos bytes)) =
    (λ x. absurd (nothing_on (as_message s lease pos bytes) (holds k s lease) (shows k.ends.seat.knows.number lease found.word) found x), λ no. absurd (search rules))

pub stale_cause : (k : Known) (found : Found) (n : Option Notice) → IsStale (notice_event k found n) ↔ OfNoLease k n
stale_cause k found None = (λ no. no, λ no. no)
stale_cause k found (Some (notices.Granted nr s lease from start)) =
    (grant_no_stale nr s lease from start (shows k.ends.seat.knows.number lease found.word) found, λ no. absurd no)
stale_cause k found (Some (notices.Refused nr s why)) = (λ no. no, λ no. no)
stale_cause k found (Some (notices.Message s lease pos bytes)) = stale_on (as_message s lease pos bytes) (holds k s lease) (shows k.ends.seat.knows.number lease found.word) found

pub early_cause : (k : Known) (found : Found) (n : Option Notice) → IsNotYet (notice_event k found n) ↔ IsEarly k found n
early_cause k found None = (λ no. no, λ no. no)
early_cause k found (Some (notices.Granted nr s lease from start)) =
    (grant_no_early nr s lease from start (shows k.ends.seat.knows.number lease found.word) found, λ no. absurd no)
early_cause k found (Some (notices.Refused nr s why)) = (λ no. no, λ no. no)
early_cause k found (Some (notices.Message s lease pos bytes)) = early_on (as_message s lease pos bytes) (holds k s lease) (shows k.ends.seat.knows.number lease found.word) found

pub lost_cause : (k : Known) (found : Found) (n : Option Notice) → IsLeaseLost (notice_event k found n) ↔ HasLostLease k found n
lost_cause k found None = (λ no. absurd no, ⊎_elim (λ no. no) (λ no. no))
lost_cause k found (Some (notices.Granted nr s lease from start)) = grant_lost nr s lease from start (shows k.ends.seat.knows.number lease found.word) found
lost_cause k found (Some (notices.Refused nr s why)) = (λ no. absurd no, ⊎_elim (λ no. no) (λ no. no))
lost_cause k found (Some (notices.Message s lease pos bytes)) = lost_on (as_message s lease pos bytes) (holds k s lease) (shows k.ends.seat.knows.number lease found.word) found

pub refused_cause : (k : Known) (found : Found) (n : Option Notice) → IsRefused (notice_event k found n) ↔ OfRefusal n
refused_cause k found None = (λ no. no, λ no. no)
refused_cause k found (Some (notices.Granted nr s lease from start)) =
    (grant_no_refusal nr s lease from start (shows k.ends.seat.knows.number lease found.word) found, λ no. absurd no)
refused_cause k found (Some (notices.Refused nr s why)) = (λ _. tt, λ _. tt)
refused_cause k found (Some (notices.Message s lease pos bytes)) =
    (refused_on (as_message s lease pos bytes) (holds k s lease) (shows k.ends.seat.knows.number lease found.word) found, λ no. absurd no)
