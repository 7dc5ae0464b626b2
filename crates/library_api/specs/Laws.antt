-- What holds over any list of calls of one library.
use Rattle.std.specs.Prelude.{◌≡◌, ℕ, ◌<◌, List, ◌++◌, length, Option, Some}
use Rattle.lease_core.specs.declared.messages.Notice.{Notice}
use Rattle.library_api.specs.Known.{Known, reading_count, reading_at, session_at}
use Rattle.library_api.specs.Polls.{Polled, event_of, after_poll, taken_up}
use Rattle.library_api.specs.Calls.{Call, after_calls, AreLawful, AreNumbered, deeds_by, deeds_of, popped_of, closes, reading_by}
use Rattle.library_api.specs.Replies.{AreReplies, HoldsThroughout, IsRepliedTo, OnReply}
use Rattle.library_api.specs.Posts.{posts_by, posts_of}
use Rattle.library_api.specs.Reads.{AreInOrder, IsAt, IsSeated, first_position, notices_of, numbers_from, reads_of}

-- What its seat knows that a library did with a session grows by what its calls answered, in order.
abbrev pub DeedsAreAnswered : Type 0
DeedsAreAnswered = (s : ℕ) (k : Known) (calls : List Call) → AreLawful k calls
    → deeds_by (session_at (after_calls k calls) s).leases ≡ deeds_by (session_at k s).leases ++ deeds_of s k calls

-- Its requests go on being numbered 1, 2 and so on, with the last one open or none.
abbrev pub RequestsAreNumbered : Type 0
RequestsAreNumbered = (k : Known) (calls : List Call) → AreLawful k calls → AreNumbered k → AreNumbered (after_calls k calls)

-- A poll closes the request exactly where it takes up a grant or a refusal, whether or not the grant's lease is lost; a message closes none.
abbrev pub PollsCloseRequests : Type 0
PollsCloseRequests = (k : Known) (o : Polled) → (after_poll k o).unanswered ≡ closes (taken_up k.kept o.popped) k.unanswered

-- What a library reads next of a session follows from the events alone: from a grant's position on, one further with each message.
abbrev pub ReadingsFollowEvents : Type 0
ReadingsFollowEvents = (s : ℕ) (k : Known) (o : Polled) → s < length k.readings → reading_at (after_poll k o) s ≡ reading_by s (event_of k o) (reading_at k s)

-- What its head popped grows by what its polls popped.
abbrev pub PollsPop : Type 0
PollsPop = (k : Known) (calls : List Call) → AreLawful k calls → (after_calls k calls).ends.head.popped ≡ k.ends.head.popped ++ popped_of k calls

-- Where the replies that were popped have the numbers 1, 2 and so on of its requests, no request is open but the one whose reply comes next,
abbrev pub RepliesCloseRequests : Type 0
RepliesCloseRequests = (k : Known) (calls : List Call) → AreLawful k calls → HoldsThroughout AreReplies k calls → IsRepliedTo k → IsRepliedTo (after_calls k calls)

-- and a poll that takes up a reply takes up that of the open one.
abbrev pub RepliesAreOfTheOpen : Type 0
RepliesAreOfTheOpen = (k : Known) (o : Polled) → AreReplies (after_poll k o) → IsRepliedTo k → OnReply (taken_up k.kept o.popped) (λ nr. k.unanswered ≡ Some nr)

-- The items of a session that its seat knows grow by what its calls answered Sent, in order: by that lease, with the body that was handed in.
abbrev pub PostsAreSent : Type 0
PostsAreSent = (s : ℕ) (k : Known) (calls : List Call) → AreLawful k calls
    → posts_by (session_at (after_calls k calls) s).items ≡ posts_by (session_at k s).items ++ posts_of s k calls

-- Where a lease's grant and messages are in order among the notices, the messages of it that are handed on have the positions from
-- the next one on, or where the lease isn't granted yet from its grant's, without a gap.
abbrev pub ReadsHaveNoGap : Type 0
ReadsHaveNoGap = (s lease : ℕ) (next : Option ℕ) (k : Known) (calls : List Call) → 0 < lease → s < reading_count → length k.readings ≡ reading_count
    → AreLawful k calls → IsSeated s k → IsAt s lease next k → AreInOrder s lease next (notices_of k calls)
    → reads_of s lease k calls ≡ numbers_from (first_position s lease next (notices_of k calls)) (length (reads_of s lease k calls))

-- What begins a list of notices in which a lease's are in order has them in order too, as what was popped begins what was pushed.
abbrev pub BeginningsAreInOrder : Type 0
BeginningsAreInOrder = (s lease : ℕ) (next : Option ℕ) (popped told : List Notice) → AreInOrder s lease next (popped ++ told) → AreInOrder s lease next popped
