-- What a tail and a head are between two calls: no slot is out with them, and their counts are those of what they know.
use Rattle.std.specs.Prelude.{◌≡◌, ℕ, ◌%◌, [], length, Option}
use Rattle.atomic_table.specs.declared.shared.Seat.{Seat}
use Rattle.ring_links.specs.declared.view.View.{View}
use Rattle.ring_links.specs.declared.ends.Cursor.{Cursor}
use Rattle.ring_links.specs.Order.{tail_view, head_view}

-- the cursor stands at this count, in a ring with n slots
pub record IsAt (n k : ℕ) (c : Cursor) : Type 0 where
  pub count : c.count ≡ k
  pub place : c.place ≡ c.count % n

pub record IsTail {T : Type 0} (s : Seat (Option T) (View T)) (c : Cursor) : Type 0 where
  pub rests : s.me ≡ (tail_view s.me.0.tail, [])
  pub idle : s.me.0.tail.out ≡ 0
  pub at : IsAt s.table_id.slots (length s.me.0.tail.items) c

pub record IsHead {T : Type 0} (s : Seat (Option T) (View T)) (c : Cursor) : Type 0 where
  pub rests : s.me ≡ (head_view s.me.0.head, [])
  pub idle : s.me.0.head.out ≡ 0
  pub at : IsAt s.table_id.slots (length s.me.0.head.items) c
