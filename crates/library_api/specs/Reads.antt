-- The messages of one lease of a session, in order.
use Rattle.std.specs.Prelude.{◌≡◌, ◌≢◌, ℕ, zero, suc, ◌+◌, ◌==◌, ◌&&◌, Bool, true, false, if◌then◌else◌, List, [], ◌∷◌, ◌++◌, Option, Some, None}
use Rattle.lease_core.specs.declared.messages.Notice.{Notice}
use Rattle.lease_core.specs.declared.messages.Notice.TheVariants as notices
use Rattle.library_api.specs.declared.event.Event.{Event}
use Rattle.library_api.specs.declared.event.Event.TheVariants as events
use Rattle.library_api.specs.declared.reading.Message.{Message}
use Rattle.library_api.specs.Known.{Known, held, reading_at}
use Rattle.library_api.specs.Polls.{notice_of, event_of}
use Rattle.library_api.specs.Calls.{Call, after_call, popped_of, asks, polls, sends, send_refused, gives_back, release_refused, hand_refused, beats, is_done, meets}

-- the lease is the one of this session that is spoken of
abbrev pub is_of : ℕ → ℕ → ℕ → ℕ → Bool
is_of s lease t other = (t == s) && (other == lease)

-- and so the grant or the message is
abbrev pub concerns : ℕ → ℕ → Notice → Bool
concerns s lease (notices.Granted nr t other from start) = is_of s lease t other
concerns s lease (notices.Refused nr t why) = false
concerns s lease (notices.Message t other pos bytes) = is_of s lease t other

-- The position that comes next of a lease's messages, once it was granted: that of the grant, and one more than a message's.
abbrev pub next_after : Bool → Option ℕ → Notice → Option ℕ
next_after false next n = next
next_after true next (notices.Granted nr s lease from start) = Some from
next_after true next (notices.Refused nr s why) = next
next_after true next (notices.Message s lease pos bytes) = Some (pos + 1)

-- the grant comes first and once, and a message has the position that comes next
abbrev pub ComesNext : Bool → Option ℕ → Notice → Type 0
ComesNext false next n = Unit {0}
ComesNext true next (notices.Granted nr s lease from start) = next ≡ None
ComesNext true next (notices.Refused nr s why) = Unit {0}
ComesNext true next (notices.Message s lease pos bytes) = next ≡ Some pos

-- a lease's grant and messages are in order among these notices, where this position comes next
abbrev pub AreInOrder : ℕ → ℕ → Option ℕ → List Notice → Type 0
AreInOrder s lease next [] = Unit {0}
AreInOrder s lease next (n ∷ ns) = ComesNext (concerns s lease n) next n × AreInOrder s lease (next_after (concerns s lease n) next n) ns

-- the position of a lease's grant
abbrev pub start_of : Notice → ℕ
start_of (notices.Granted nr s lease from start) = from
start_of (notices.Refused nr s why) = 0
start_of (notices.Message s lease pos bytes) = 0

abbrev pub granted_from : ℕ → ℕ → List Notice → ℕ
granted_from s lease [] = 0
granted_from s lease (n ∷ ns) = if concerns s lease n then start_of n else granted_from s lease ns

-- the first position that the library may read: the next one, or where the lease isn't granted yet that of its grant
abbrev pub first_position : ℕ → ℕ → Option ℕ → List Notice → ℕ
first_position s lease (Some next) ns = next
first_position s lease None ns = granted_from s lease ns

-- the numbers from n on, as many as that
abbrev pub numbers_from : ℕ → ℕ → List ℕ
numbers_from n zero = []
numbers_from n (suc count) = n ∷ numbers_from (n + 1) count

-- the positions of the messages of a lease that polls handed on
abbrev pub read_by : ℕ → ℕ → Event → List ℕ
read_by s lease events.Nothing = []
read_by s lease (events.NotYet t pos published) = []
read_by s lease (events.Granted nr t other from start) = []
read_by s lease (events.Refused nr t why) = []
read_by s lease (events.Message t other pos bytes) = if is_of s lease t other then pos ∷ [] else []
read_by s lease (events.Stale t other pos) = []
read_by s lease (events.LeaseLost t other seen) = []

abbrev pub reads_in : ℕ → ℕ → Known → Call → List ℕ
reads_in s lease k (asks t from taken answer) = []
reads_in s lease k (polls o) = read_by s lease (event_of k o)
reads_in s lease k (sends t taken body items) = []
reads_in s lease k (send_refused t taken why) = []
reads_in s lease k (gives_back t heir owner) = []
reads_in s lease k (release_refused t why) = []
reads_in s lease k (hand_refused t why) = []
reads_in s lease k beats = []
reads_in s lease k (is_done finished taken answer) = []
reads_in s lease k (meets ends) = []

abbrev pub reads_of : ℕ → ℕ → Known → List Call → List ℕ
reads_of s lease k [] = []
reads_of s lease k (c ∷ cs) = reads_in s lease k c ++ reads_of s lease (after_call k c) cs

-- the message that is kept, and behind it the notices that these calls pop
abbrev pub kept_notice : Option Message → List Notice
kept_notice None = []
kept_notice (Some m) = notice_of m ∷ []

abbrev pub notices_of : Known → List Call → List Notice
notices_of k calls = kept_notice k.kept ++ popped_of k calls

-- The library has the lease on record with the position that comes next, or it wasn't granted yet.
abbrev pub IsAt : ℕ → ℕ → Option ℕ → Known → Type 0
IsAt s lease None k = (reading_at k s).lease ≢ lease
IsAt s lease (Some next) k = reading_at k s ≡ record { lease = lease; next = next }

-- the lease of a session that is on record is the one that the library holds
abbrev pub IsSeated : ℕ → Known → Type 0
IsSeated s k = held k s ≡ (reading_at k s).lease
