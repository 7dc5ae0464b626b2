-- What a send comes to.
use Rattle.std.specs.Prelude.{◌≡◌, ℕ, ◌+◌, ◌<◌, ◌≤◌, List, [], ◌∷◌, length, drop, None, Some}
use Rattle.fix_fields.specs.Fit.{unfit_at}
use Rattle.fix_fields.specs.declared.limits.TheConstants.{LONGEST_APPLICATION_BODY}
use Rattle.lease_words.specs.declared.item.Item.{Item}
use Rattle.lease_words.specs.declared.item.SendError.{SendError}
use Rattle.lease_words.specs.declared.item.SendError.TheVariants as errors
use Rattle.lease_words.specs.declared.view.LibrarySession.{LibrarySession}
use Rattle.lease_words.specs.Sees.{after_taken_load, after_send, after_loss}
use Rattle.lease_words.specs.Answers.{active_word, IsLoss}
use Rattle.lease_words.specs.Views.{with_library_at}
use Rattle.library_api.specs.declared.refusal.SendRefusal.{SendRefusal}
use Rattle.library_api.specs.declared.refusal.SendRefusal.TheVariants.{NotHeld, TooLong, BadBody, LaneFull, SendsSpent, Lost}
use Rattle.library_api.specs.declared.waited.WaitKind.{WaitKind}
use Rattle.library_api.specs.declared.waited.WaitKind.TheVariants.{Free, Lane}
use Rattle.library_api.specs.Known.{Known, held, sends_made, session_at, with_seat, without_reading, after_waiting}

-- a session as its seat knows it now
abbrev pub with_session_known : Known → ℕ → LibrarySession → Known
with_session_known k s ls = with_seat k (with_library_at k.ends.seat s ls)

-- the items that went out of a session
abbrev pub items_since : Known → Known → ℕ → List Item
items_since before after s = drop (length (session_at before s).items) (session_at after s).items

-- the taken count of the session's lane that was loaded last
abbrev pub taken_seen : Known → ℕ → ℕ
taken_seen k s = (session_at k s).taken

-- these items were sent, where the taken count was loaded
abbrev pub after_sending : Known → ℕ → ℕ → List Item → Known
after_sending k s taken items =
    with_session_known k s (after_send (after_taken_load (session_at k s) taken) items (active_word (held k s) k.ends.seat.knows.number (sends_made k s + 1)))

abbrev pub after_sent : Known → ℕ → ℕ → List Item → Known
after_sent k s taken items = after_waiting Free (after_sending k s taken items)

-- the send was refused so
abbrev pub after_refusing : Known → ℕ → ℕ → SendRefusal → Known
after_refusing k s taken NotHeld = k
after_refusing k s taken (TooLong size) = k
after_refusing k s taken (BadBody at) = k
after_refusing k s taken (LaneFull committed found) = with_session_known k s (after_taken_load (session_at k s) taken)
after_refusing k s taken (SendsSpent count) = with_session_known k s (after_taken_load (session_at k s) taken)
after_refusing k s taken (Lost seen) = without_reading (with_session_known k s (after_loss (after_taken_load (session_at k s) taken) seen)) s

abbrev pub send_waits_for : SendRefusal → WaitKind
send_waits_for NotHeld = Free
send_waits_for (TooLong size) = Free
send_waits_for (BadBody at) = Free
send_waits_for (LaneFull committed found) = Lane
send_waits_for (SendsSpent count) = Free
send_waits_for (Lost seen) = Free

abbrev pub after_send_refused : Known → ℕ → ℕ → SendRefusal → Known
after_send_refused k s taken why = after_waiting (send_waits_for why) (after_refusing k s taken why)

-- a refusal by the lease table
abbrev pub refusal_of : SendError → SendRefusal
refusal_of (errors.LaneFull committed taken) = LaneFull committed taken
refusal_of (errors.SendsSpent count) = SendsSpent count
refusal_of (errors.Lost seen) = Lost seen

-- a library that lost its lease holds none of the session
abbrev pub forgotten_on : Known → ℕ → SendRefusal → Known
forgotten_on k s NotHeld = k
forgotten_on k s (TooLong size) = k
forgotten_on k s (BadBody at) = k
forgotten_on k s (LaneFull committed found) = k
forgotten_on k s (SendsSpent count) = k
forgotten_on k s (Lost seen) = without_reading k s

-- one item went out, with this lease and body
abbrev pub IsOneItem : ℕ → List ℕ → List Item → Type 0
IsOneItem lease body [] = ⊥
IsOneItem lease body (item ∷ []) = (item.lease ≡ lease) × (item.body ≡ body)
IsOneItem lease body (item ∷ other ∷ items) = ⊥

abbrev pub most_bytes : ℕ
most_bytes = LONGEST_APPLICATION_BODY

-- a lease of the session is held, and the body may be sent
pub record IsSendable (k : Known) (s : ℕ) (body : List ℕ) : Type 0 where
  pub holding : 0 < held k s
  pub short : length body ≤ most_bytes
  pub fit : unfit_at body ≡ None

-- by the loaded count the lane has no room
abbrev pub LaneIsFull : Known → ℕ → ℕ → Type 0
LaneIsFull k s taken = length (session_at k s).items ≡ taken + k.ends.seat.table.shape.depth

abbrev pub LeaseIsSpent : Known → ℕ → Type 0
LeaseIsSpent k s = sends_made k s ≡ k.ends.seat.table.shape.sends

-- Which refusal of a send it is.
abbrev pub IsNotHeld : SendRefusal → Type 0
IsNotHeld NotHeld = Unit {0}
IsNotHeld (TooLong size) = ⊥
IsNotHeld (BadBody at) = ⊥
IsNotHeld (LaneFull committed taken) = ⊥
IsNotHeld (SendsSpent count) = ⊥
IsNotHeld (Lost seen) = ⊥

abbrev pub IsTooLong : SendRefusal → Type 0
IsTooLong NotHeld = ⊥
IsTooLong (TooLong size) = Unit {0}
IsTooLong (BadBody at) = ⊥
IsTooLong (LaneFull committed taken) = ⊥
IsTooLong (SendsSpent count) = ⊥
IsTooLong (Lost seen) = ⊥

abbrev pub IsBadBody : SendRefusal → Type 0
IsBadBody NotHeld = ⊥
IsBadBody (TooLong size) = ⊥
IsBadBody (BadBody at) = Unit {0}
IsBadBody (LaneFull committed taken) = ⊥
IsBadBody (SendsSpent count) = ⊥
IsBadBody (Lost seen) = ⊥

abbrev pub IsLaneFull : SendRefusal → Type 0
IsLaneFull NotHeld = ⊥
IsLaneFull (TooLong size) = ⊥
IsLaneFull (BadBody at) = ⊥
IsLaneFull (LaneFull committed taken) = Unit {0}
IsLaneFull (SendsSpent count) = ⊥
IsLaneFull (Lost seen) = ⊥

abbrev pub IsSendsSpent : SendRefusal → Type 0
IsSendsSpent NotHeld = ⊥
IsSendsSpent (TooLong size) = ⊥
IsSendsSpent (BadBody at) = ⊥
IsSendsSpent (LaneFull committed taken) = ⊥
IsSendsSpent (SendsSpent count) = Unit {0}
IsSendsSpent (Lost seen) = ⊥

-- Why a send was refused, in the order in which the causes are tried, with the numbers that the refusal carries
abbrev pub SendCause : Known → ℕ → List ℕ → ℕ → SendRefusal → Type 0
SendCause k s body taken NotHeld = held k s ≡ 0
SendCause k s body taken (TooLong size) = (0 < held k s) × (most_bytes < length body) × (size ≡ length body)
SendCause k s body taken (BadBody at) = (0 < held k s) × (length body ≤ most_bytes) × (unfit_at body ≡ Some at)
SendCause k s body taken (LaneFull committed found) = IsSendable k s body × LaneIsFull k s taken × (committed ≡ length (session_at k s).items) × (found ≡ taken)
SendCause k s body taken (SendsSpent count) = IsSendable k s body × (LaneIsFull k s taken → ⊥) × LeaseIsSpent k s × (count ≡ sends_made k s)
SendCause k s body taken (Lost seen) = IsSendable k s body × (LaneIsFull k s taken → ⊥) × (LeaseIsSpent k s → ⊥) × IsLoss (session_at k s) seen

-- nothing of this library stood against a send
pub record HasSent (k : Known) (s : ℕ) (body : List ℕ) (taken : ℕ) : Type 0 where
  pub sendable : IsSendable k s body
  pub room : LaneIsFull k s taken → ⊥
  pub left : LeaseIsSpent k s → ⊥
