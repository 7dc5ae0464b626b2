-- The calls of one library in order, and what it did by them.
use Rattle.std.specs.Prelude.{◌≡◌, ◌↔◌, ℕ, zero, suc, ◌+◌, ◌<◌, ◌==◌, if◌then◌else◌, Bool, List, [], ◌∷◌, ◌++◌, Option, Some, None, IsSome, option_to_list, Result}
use Rattle.lease_core.specs.declared.lease.Ending.{Ending}
use Rattle.lease_core.specs.declared.lease.Ending.TheVariants.{Running, GivenBack, TakenBack}
use Rattle.lease_core.specs.declared.messages.Command.{Command}
use Rattle.lease_core.specs.declared.messages.Command.TheVariants as commands
use Rattle.lease_core.specs.declared.messages.Notice.{Notice}
use Rattle.lease_core.specs.declared.messages.Notice.TheVariants as notices
use Rattle.lease_words.specs.declared.item.Item.{Item}
use Rattle.lease_words.specs.declared.view.LibraryLease.{LibraryLease}
use Rattle.ring_links.specs.declared.queue.Full.{Full}
use Rattle.library_api.specs.declared.event.Event.{Event}
use Rattle.library_api.specs.declared.event.Event.TheVariants as events
use Rattle.library_api.specs.declared.reading.Reading.{Reading}
use Rattle.library_api.specs.declared.reading.Message.{Message}
use Rattle.library_api.specs.declared.refusal.AskError.{AskError}
use Rattle.library_api.specs.declared.refusal.SendRefusal.{SendRefusal}
use Rattle.library_api.specs.declared.refusal.ReleaseRefusal.{ReleaseRefusal}
use Rattle.library_api.specs.declared.refusal.HandRefusal.{HandRefusal}
use Rattle.library_api.specs.declared.waited.WaitKind.TheVariants.{Free}
use Rattle.library_api.specs.Ends.{EndsView, seat_after_beat}
use Rattle.library_api.specs.Known.{Known, no_reading, held, sends_made, with_seat, after_waiting}
use Rattle.library_api.specs.Requests.{after_request, after_done, CarriesAsked, IsOutstanding}
use Rattle.library_api.specs.Polls.{Polled, event_of, after_poll, OnHolding, HasHold}
use Rattle.library_api.specs.Sends.{after_sent, after_send_refused, IsOneItem}
use Rattle.library_api.specs.Releases.{after_giving_back, after_release_refused, after_hand_refused}
use Rattle.lease_words.specs.Views.{library_at}

-- A call, with what it loaded and how it was answered. By `meets` the ends were lent, and the engine's met them.
pub data Call : Type 0 where
  asks : ℕ → ℕ → ℕ → Result ℕ AskError → Call
  polls : Polled → Call
  sends : ℕ → ℕ → List ℕ → List Item → Call
  send_refused : ℕ → ℕ → SendRefusal → Call
  gives_back : ℕ → ℕ → ℕ → Call
  release_refused : ℕ → ReleaseRefusal → Call
  hand_refused : ℕ → HandRefusal → Call
  beats : Call
  is_done : Bool → ℕ → Result (Unit {0}) (Full Command) → Call
  meets : EndsView → Call

-- what the library knows after a call
abbrev pub after_call : Known → Call → Known
after_call k (asks s from taken answer) = after_request k s from taken answer
after_call k (polls o) = after_poll k o
after_call k (sends s taken body items) = after_sent k s taken items
after_call k (send_refused s taken why) = after_send_refused k s taken why
after_call k (gives_back s heir owner) = after_giving_back k s heir owner
after_call k (release_refused s why) = after_release_refused k s why
after_call k (hand_refused s why) = after_hand_refused k s why
after_call k beats = after_waiting Free (with_seat k (seat_after_beat k.ends.seat))
after_call k (is_done finished taken answer) = after_done k (commands.Done finished) taken answer
after_call k (meets ends) = record k { ends = ends }

-- A meeting leaves the leases, the items, the commands and the notices as they are.
pub record HasMet (e e' : EndsView) : Type 0 where
  pub leases : (s : ℕ) → (library_at e'.seat s).leases ≡ (library_at e.seat s).leases
  pub items : (s : ℕ) → (library_at e'.seat s).items ≡ (library_at e.seat s).items
  pub pushed : e'.tail.pushed ≡ e.tail.pushed
  pub popped : e'.head.popped ≡ e.head.popped

-- what the clauses of a call say of it besides
abbrev pub IsLawful : Known → Call → Type 0
IsLawful k (asks s from taken answer) = CarriesAsked k taken answer × (IsOutstanding answer ↔ IsSome k.unanswered)
IsLawful k (polls o) = OnHolding (event_of k o) (HasHold (after_poll k o))
IsLawful k (sends s taken body items) = (0 < held k s) × IsOneItem (held k s) body items
IsLawful k (send_refused s taken why) = Unit {0}
IsLawful k (gives_back s heir owner) = 0 < held k s
IsLawful k (release_refused s why) = Unit {0}
IsLawful k (hand_refused s why) = Unit {0}
IsLawful k beats = Unit {0}
IsLawful k (is_done finished taken answer) = Unit {0}
IsLawful k (meets ends) = HasMet k.ends ends

abbrev pub after_calls : Known → List Call → Known
after_calls k [] = k
after_calls k (c ∷ cs) = after_calls (after_call k c) cs

abbrev pub AreLawful : Known → List Call → Type 0
AreLawful k [] = Unit {0}
AreLawful k (c ∷ cs) = IsLawful k c × AreLawful (after_call k c) cs

-- the notices that a library popped in a call, and in calls: a poll pops none while a message is kept
abbrev pub popped_beside : Option Message → Option Notice → List Notice
popped_beside (Some m) popped = []
popped_beside None popped = option_to_list popped

abbrev pub popped_in : Known → Call → List Notice
popped_in k (asks s from taken answer) = []
popped_in k (polls o) = popped_beside k.kept o.popped
popped_in k (sends s taken body items) = []
popped_in k (send_refused s taken why) = []
popped_in k (gives_back s heir owner) = []
popped_in k (release_refused s why) = []
popped_in k (hand_refused s why) = []
popped_in k beats = []
popped_in k (is_done finished taken answer) = []
popped_in k (meets ends) = []

abbrev pub popped_of : Known → List Call → List Notice
popped_of k [] = []
popped_of k (c ∷ cs) = popped_in k c ++ popped_of (after_call k c) cs

-- What a library did with a session: it sent by a lease, the n-th time, or gave the lease back after so many sends, to an heir or to nobody.
pub data Deed : Type 0 where
  did_send : ℕ → ℕ → Deed
  did_give : ℕ → ℕ → ℕ → Deed

-- the first n sends of a lease
abbrev pub sends_by : ℕ → ℕ → List Deed
sends_by lease zero = []
sends_by lease (suc n) = sends_by lease n ++ did_send lease (suc n) ∷ []

abbrev pub end_by : LibraryLease → Ending → List Deed
end_by h Running = []
end_by h TakenBack = []
end_by h (GivenBack heir) = did_give h.lease h.count heir ∷ []

-- what its seat knows that it did, by its leases, of which the latest is the first
abbrev pub deeds_by : List LibraryLease → List Deed
deeds_by [] = []
deeds_by (h ∷ hs) = deeds_by hs ++ (sends_by h.lease h.count ++ end_by h h.ending)

-- and what its calls answered that it did
abbrev pub deeds_in : ℕ → Known → Call → List Deed
deeds_in s k (asks t from taken answer) = []
deeds_in s k (polls o) = []
deeds_in s k (sends t taken body items) = if t == s then did_send (held k t) (sends_made k t + 1) ∷ [] else []
deeds_in s k (send_refused t taken why) = []
deeds_in s k (gives_back t heir owner) = if t == s then did_give (held k t) (sends_made k t) heir ∷ [] else []
deeds_in s k (release_refused t why) = []
deeds_in s k (hand_refused t why) = []
deeds_in s k beats = []
deeds_in s k (is_done finished taken answer) = []
deeds_in s k (meets ends) = []

abbrev pub deeds_of : ℕ → Known → List Call → List Deed
deeds_of s k [] = []
deeds_of s k (c ∷ cs) = deeds_in s k c ++ deeds_of s (after_call k c) cs

-- the numbers of the requests among these commands, and those from 1 to n
abbrev pub numbers_in : List Command → List ℕ
numbers_in [] = []
numbers_in (commands.Request nr s from ∷ cs) = nr ∷ numbers_in cs
numbers_in (commands.Done finished ∷ cs) = numbers_in cs

abbrev pub numbers_to : ℕ → List ℕ
numbers_to zero = []
numbers_to (suc n) = numbers_to n ++ suc n ∷ []

-- The requests that were pushed have the numbers 1, 2 and so on, and the one that is open is the last.
pub record AreNumbered (k : Known) : Type 0 where
  pub numbers : numbers_in k.ends.tail.pushed ≡ numbers_to k.asked
  pub last : (nr : ℕ) → k.unanswered ≡ Some nr → nr ≡ k.asked

-- What an event makes of the reading of a session: a grant begins at its position, a message goes on behind its own, and a loss ends it.
abbrev pub reading_by : ℕ → Event → Reading → Reading
reading_by s events.Nothing r = r
reading_by s (events.NotYet t pos published) r = r
reading_by s (events.Granted nr t lease from start) r = if t == s then record { lease = lease; next = from } else r
reading_by s (events.Refused nr t why) r = r
reading_by s (events.Message t lease pos bytes) r = if t == s then record { lease = lease; next = pos + 1 } else r
reading_by s (events.Stale t lease pos) r = r
reading_by s (events.LeaseLost t lease seen) r = if t == s then no_reading else r

-- a notice is the answer to a request
abbrev pub closes : Option Notice → Option ℕ → Option ℕ
closes None unanswered = unanswered
closes (Some (notices.Granted nr s lease from start)) unanswered = None
closes (Some (notices.Refused nr s why)) unanswered = None
closes (Some (notices.Message s lease pos bytes)) unanswered = unanswered
