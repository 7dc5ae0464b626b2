-- What a pump pushes, and where it stops.
use Rattle.std.specs.Prelude.{◌≡◌, ℕ, zero, suc, ◌+◌, ◌<◌, List, [], ◌∷◌, ◌++◌, length, slice_index_or}
use Rattle.lease_core.specs.declared.messages.Notice.{Notice}
use Rattle.lease_core.specs.declared.messages.Notice.TheVariants.{Message}
use Rattle.ring_links.specs.Ends.{TailView, IsFull}
use Rattle.catchup_pump.specs.declared.cursor.Cursor.{Cursor}
use Rattle.catchup_pump.specs.declared.cursor.Stop.{Stop}
use Rattle.catchup_pump.specs.declared.cursor.Stop.TheVariants.{LogEnd, RingFull}

-- the message that stands n positions behind a cursor, as its library is told it
abbrev pub message_at : Cursor → List (List ℕ) → ℕ → Notice
message_at c log n = let pos = c.at + n in Message c.s c.lease pos (slice_index_or log pos [])

-- the first n messages from a cursor on
abbrev pub messages_from : Cursor → List (List ℕ) → ℕ → List Notice
messages_from c log zero = []
messages_from c log (suc n) = messages_from c log n ++ message_at c log n ∷ []

-- the cursor n positions further on
abbrev pub cursor_after : Cursor → ℕ → Cursor
cursor_after c n = record c { at = c.at + n }

-- a fact holds where a pump stopped at the log's end
abbrev pub OnLogEnd : Stop → Type 0 → Type 0
OnLogEnd LogEnd P = P
OnLogEnd (RingFull pushed taken) P = Unit {0}

-- and one of the counts with which it found the ring full
abbrev pub OnRingFull : Stop → (ℕ → ℕ → Type 0) → Type 0
OnRingFull LogEnd P = Unit {0}
OnRingFull (RingFull pushed taken) P = P pushed taken

-- The ring was full by the taken count that was loaded last, in this call.
pub record FoundFull (before after : TailView Notice) (pushed taken : ℕ) : Type 0 where
  pub loaded : before.loads < after.loads
  pub pushed_is : pushed ≡ length after.pushed
  pub taken_is : taken ≡ after.taken
  pub full : IsFull after.ring.capacity pushed taken
