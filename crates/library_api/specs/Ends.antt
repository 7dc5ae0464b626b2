-- What a library's seat and its ends of the rings know, and what they know after a step.
use Rattle.std.specs.Prelude.{ℕ, ◌+◌, nat_lt, if◌then◌else◌, List, ◌++◌, drop}
use Rattle.lease_core.specs.declared.messages.Command.{Command}
use Rattle.lease_core.specs.declared.messages.Notice.{Notice}
use Rattle.lease_core.specs.declared.word.Word.{Word}
use Rattle.lease_words.specs.declared.view.LibrarySession.{LibrarySession}
use Rattle.lease_words.specs.Views.{TableRef, LibraryView, library_at, with_library_at}
use Rattle.lease_words.specs.Sees.{after_see, after_arrival, after_beat}
use Rattle.lease_words.specs.Answers.{next_beat}
use Rattle.ring_links.specs.Ends.{RingId, TailView, HeadView}

pub record EndsView : Type 0 where
  pub seat : LibraryView
  pub tail : TailView Command
  pub head : HeadView Notice

-- the table and the rings to which they belong
pub record Belongings : Type 0 where
  pub leases : TableRef
  pub commands : RingId
  pub notices : RingId

abbrev pub belongings : EndsView → Belongings
belongings e = record { leases = e.seat.table; commands = e.tail.ring; notices = e.head.ring }

-- the seat with this of a session, or as it was where the table has no such session
abbrev pub with_session : LibraryView → ℕ → LibrarySession → LibraryView
with_session seat s ls = if nat_lt s seat.table.shape.sessions then with_library_at seat s ls else seat

-- the seat saw this word of a session, or the table has no such session
abbrev pub seat_after_see : LibraryView → ℕ → Word → LibraryView
seat_after_see seat s w = with_session seat s (after_see seat.knows.number (library_at seat s) w)

-- and so of a published count
abbrev pub seat_after_arrival : LibraryView → ℕ → ℕ → LibraryView
seat_after_arrival seat s count = with_session seat s (after_arrival (library_at seat s) count)

abbrev pub seat_after_beat : LibraryView → LibraryView
seat_after_beat seat = record seat { knows = after_beat seat.knows (next_beat seat.knows.beats) }

-- a push found this taken count, and pushed these commands
abbrev pub tail_after : TailView Command → ℕ → List Command → TailView Command
tail_after t taken commands = record t { pushed = t.pushed ++ commands; taken = taken; loads = t.loads + 1 }

-- a pop found this pushed count, and popped these notices
abbrev pub head_after : HeadView Notice → ℕ → List Notice → HeadView Notice
head_after h pushed notices = record h { popped = h.popped ++ notices; pushed = pushed; loads = h.loads + 1; told = drop 1 h.told }
