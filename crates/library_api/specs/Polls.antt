-- What a poll comes to.
use Rattle.std.specs.Prelude.{◌≡◌, ◌≢◌, ℕ, ◌+◌, ◌<◌, ◌≤◌, nat_lt, nat_le, ◌==◌, ◌&&◌, Bool, true, false, if◌then◌else◌, List, [], ◌∷◌, length, drop, Option, Some, None, option_to_list}
use Rattle.lease_core.specs.Lines.{opening_word}
use Rattle.lease_core.specs.declared.messages.Notice.{Notice}
use Rattle.lease_core.specs.declared.messages.Notice.TheVariants as notices
use Rattle.lease_core.specs.declared.word.Word.{Word}
use Rattle.lease_words.specs.Leases.{shows_lease, held_lease, Each, IsNotOlder, AreBelow}
use Rattle.lease_words.specs.Views.{LibraryView, library_at}
use Rattle.library_api.specs.declared.event.Event.{Event}
use Rattle.library_api.specs.declared.event.Event.TheVariants as events
use Rattle.library_api.specs.declared.reading.Message.{Message}
use Rattle.library_api.specs.declared.waited.WaitKind.{WaitKind}
use Rattle.library_api.specs.declared.waited.WaitKind.TheVariants.{Free, Event as ForEvent}
use Rattle.library_api.specs.Ends.{head_after, seat_after_see, seat_after_arrival, seat_after_beat}
use Rattle.library_api.specs.Known.{Known, holds, held, reading_count, session_at, with_seat, with_reading, without_reading, after_waiting}

-- what a poll loads of a notice's session: the published count and the word
pub record Found : Type 0 where
  pub published : ℕ
  pub word : Word

-- and before that the pushed count of its ring, with the notice that it popped
pub record Polled : Type 0 where
  pub pushed : ℕ
  pub popped : Option Notice
  pub found : Found

abbrev pub first_notice : List Notice → Option Notice
first_notice [] = None
first_notice (n ∷ ns) = Some n

abbrev pub notice_of : Message → Notice
notice_of m = notices.Message m.s m.lease m.pos m.bytes

-- the notice that a poll takes up: the kept message, or what it popped
abbrev pub taken_up : Option Message → Option Notice → Option Notice
taken_up (Some m) popped = Some (notice_of m)
taken_up None popped = popped

-- the word shows this lease as active and this library's
abbrev pub shows : ℕ → ℕ → Word → Bool
shows number lease w = shows_lease number w && (w.lease == lease)

-- what is answered on a message, whose lease is held or isn't, and is shown by the word or isn't
abbrev pub message_event : Message → Bool → Bool → Found → Event
message_event m false shown found = events.Stale m.s m.lease m.pos
message_event m true shown found =
    if nat_le found.published m.pos then events.NotYet m.s m.pos found.published
    else (if shown then events.Message m.s m.lease m.pos m.bytes
    else events.LeaseLost m.s m.lease found.word)

-- and on a notice
abbrev pub notice_event : Known → Found → Option Notice → Event
notice_event k found None = events.Nothing
notice_event k found (Some (notices.Granted nr s lease from start)) =
    if shows k.ends.seat.knows.number lease found.word then events.Granted nr s lease from start else events.LeaseLost s lease found.word
notice_event k found (Some (notices.Refused nr s why)) = events.Refused nr s why
notice_event k found (Some (notices.Message s lease pos bytes)) =
    message_event (record { s = s; lease = lease; pos = pos; bytes = bytes }) (holds k s lease) (shows k.ends.seat.knows.number lease found.word) found

-- the library saw a session's word
abbrev pub saw_word : Known → ℕ → Word → Known
saw_word k s w = with_seat k (seat_after_see k.ends.seat s w)

-- and its published count
abbrev pub saw_published : Known → ℕ → ℕ → Known
saw_published k s count = with_seat k (seat_after_arrival k.ends.seat s count)

-- nothing is kept
abbrev pub with_none_kept : Known → Known
with_none_kept k = record k { kept = None }

-- a notice is popped where no message is kept
abbrev pub after_pop : Option Message → Known → ℕ → Option Notice → Known
after_pop (Some m) k pushed popped = k
after_pop None k pushed popped = record k { ends = record k.ends { head = head_after k.ends.head pushed (option_to_list popped) } }

-- a poll beats, and takes up the kept message or a notice
abbrev pub after_taking_up : Known → ℕ → Option Notice → Known
after_taking_up k pushed popped = with_none_kept (after_pop k.kept (with_seat k (seat_after_beat k.ends.seat)) pushed popped)

-- the request that is open is closed
abbrev pub with_request_closed : Known → Known
with_request_closed k = record k { unanswered = None }

-- a grant: its lease is held from now on, with the position from which it reads, or nothing of the session is
abbrev pub after_grant : Known → ℕ → ℕ → ℕ → Bool → Known
after_grant k s lease from true = with_reading k s (record { lease = lease; next = from })
after_grant k s lease from false = without_reading k s

-- a message that was published
abbrev pub after_published : Known → Message → Bool → Known
after_published k m true = with_reading k m.s (record { lease = m.lease; next = m.pos + 1 })
after_published k m false = without_reading k m.s

-- a message, whose lease is held or isn't
abbrev pub after_message : Known → Message → Bool → Bool → Found → Known
after_message k m false shown found = k
after_message k m true shown found =
    if nat_le found.published m.pos then record (saw_published k m.s found.published) { kept = Some m }
    else after_published (saw_word (saw_published k m.s found.published) m.s found.word) m shown

-- and a notice
abbrev pub after_notice : Known → Found → Option Notice → Known
after_notice k found None = k
after_notice k found (Some (notices.Granted nr s lease from start)) =
    after_grant (saw_word (with_request_closed k) s found.word) s lease from (shows k.ends.seat.knows.number lease found.word)
after_notice k found (Some (notices.Refused nr s why)) = with_request_closed k
after_notice k found (Some (notices.Message s lease pos bytes)) =
    after_message k (record { s = s; lease = lease; pos = pos; bytes = bytes }) (holds k s lease) (shows k.ends.seat.knows.number lease found.word) found

abbrev pub waits_for : Event → WaitKind
waits_for events.Nothing = ForEvent
waits_for (events.NotYet s pos published) = ForEvent
waits_for (events.Granted nr s lease from start) = Free
waits_for (events.Refused nr s why) = Free
waits_for (events.Message s lease pos bytes) = Free
waits_for (events.Stale s lease pos) = Free
waits_for (events.LeaseLost s lease seen) = Free

-- the event of a poll, and what the library knows then
abbrev pub event_of : Known → Polled → Event
event_of k o = notice_event k o.found (taken_up k.kept o.popped)

abbrev pub after_poll : Known → Polled → Known
after_poll k o = after_waiting (waits_for (event_of k o)) (after_notice (after_taking_up k o.pushed o.popped) o.found (taken_up k.kept o.popped))

-- What was loaded is read off from what the library knows then. The notice that was popped:
abbrev pub popped_since : Known → Known → Option Notice
popped_since before after = first_notice (drop (length before.ends.head.popped) after.ends.head.popped)

-- the session of a notice
abbrev pub session_of : Option Notice → ℕ
session_of None = 0
session_of (Some (notices.Granted nr s lease from start)) = s
session_of (Some (notices.Refused nr s why)) = s
session_of (Some (notices.Message s lease pos bytes)) = s

abbrev pub first_word : List Word → Word
first_word [] = opening_word
first_word (w ∷ ws) = w

-- the word of a session that was seen last, and its published count; of a session that the table doesn't have the opening word and 0
abbrev pub word_seen : LibraryView → ℕ → Word
word_seen seat s = if nat_lt s seat.table.shape.sessions then first_word (library_at seat s).words else opening_word

abbrev pub published_seen : LibraryView → ℕ → ℕ
published_seen seat s = if nat_lt s seat.table.shape.sessions then (library_at seat s).published else 0

abbrev pub found_in : Known → Option Notice → Found
found_in k notice = let s = session_of notice in record { published = published_seen k.ends.seat s; word = word_seen k.ends.seat s }

abbrev pub polled : Known → Known → Polled
polled before after =
    let popped = popped_since before after in
    record { pushed = after.ends.head.pushed; popped = popped; found = found_in after (taken_up before.kept popped) }

-- A poll loads the published count of the session of a message whose lease is held.
abbrev pub LoadsCount : Known → Option Notice → Type 0
LoadsCount k None = ⊥
LoadsCount k (Some (notices.Granted nr s lease from start)) = ⊥
LoadsCount k (Some (notices.Refused nr s why)) = ⊥
LoadsCount k (Some (notices.Message s lease pos bytes)) = holds k s lease ≡ true

-- and the word of the session of a grant, and of such a message where the count is above its position
abbrev pub LoadsWord : Known → Found → Option Notice → Type 0
LoadsWord k found None = ⊥
LoadsWord k found (Some (notices.Granted nr s lease from start)) = Unit {0}
LoadsWord k found (Some (notices.Refused nr s why)) = ⊥
LoadsWord k found (Some (notices.Message s lease pos bytes)) = (holds k s lease ≡ true) × (pos < found.published)

-- no word that was seen or told of is newer than this one
abbrev pub IsLatest : LibraryView → ℕ → Word → Type 0
IsLatest seat s w = s < seat.table.shape.sessions → Each (λ seen. IsNotOlder seen w) (library_at seat s).words

-- a lease that the seat didn't hold before is above all that it ever had
abbrev pub IsNewLease : LibraryView → ℕ → Word → Type 0
IsNewLease seat s w = s < seat.table.shape.sessions → shows_lease seat.knows.number w ≡ true → held_lease (library_at seat s).leases ≢ w.lease → AreBelow w.lease (library_at seat s).leases

-- what is known of the loads of a poll that took up this notice
pub record LoadsLate (k : Known) (found : Found) (n : Option Notice) : Type 0 where
  pub count : LoadsCount k n → (session_at k (session_of n)).published ≤ found.published
  pub word : LoadsWord k found n → IsLatest k.ends.seat (session_of n) found.word
  pub lease : LoadsWord k found n → IsNewLease k.ends.seat (session_of n) found.word

-- a fact holds of the session and lease of a grant and of a message that are handed on
abbrev pub OnHolding : Event → (ℕ → ℕ → Type 0) → Type 0
OnHolding events.Nothing P = Unit {0}
OnHolding (events.NotYet s pos published) P = Unit {0}
OnHolding (events.Granted nr s lease from start) P = P s lease
OnHolding (events.Refused nr s why) P = Unit {0}
OnHolding (events.Message s lease pos bytes) P = P s lease
OnHolding (events.Stale s lease pos) P = Unit {0}
OnHolding (events.LeaseLost s lease seen) P = Unit {0}

-- the library holds this lease of a session of which it keeps a record
abbrev pub HasHold : Known → ℕ → ℕ → Type 0
HasHold k s lease = s < reading_count → held k s ≡ lease
