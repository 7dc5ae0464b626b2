-- What contracts see of a ring and of its two ends.
use Rattle.std.specs.Prelude.{◌≡◌, ℕ, ◌+◌, ◌-◌, ◌^◌, ◌<◌, ◌⊎◌, List, []}
use Rattle.atomic_table.specs.Seated.{TableId}

-- which ring it is, and for how many items it has room
pub record RingId : Type 0 where
  pub capacity : ℕ
  pub table : TableId

pub record TailView (T : Type 0) : Type 0 where
  pub ring : RingId
  -- all that the tail pushed, in order
  pub pushed : List T
  -- The taken count that it loaded last, and the number of these loads. Each push and each call of `room` loads it once; the load of a meeting
  -- counts for neither end.
  pub taken : ℕ
  pub loads : ℕ
  -- the taken count that a meeting told it
  pub told : ℕ

pub record HeadView (T : Type 0) : Type 0 where
  pub ring : RingId
  -- all that the head popped, in order
  pub popped : List T
  -- the pushed count that it loaded last, and the number of these loads: one in each pop
  pub pushed : ℕ
  pub loads : ℕ
  -- the items of which a meeting told it and that it hasn't popped, in order
  pub told : List T

abbrev pub ring_id : TableId → RingId
ring_id z = record { capacity = z.slots; table = z }

-- an end that has done nothing
abbrev pub new_tail : {T : Type 0} → RingId → TailView T
new_tail r = record { ring = r; pushed = []; taken = 0; loads = 0; told = 0 }

abbrev pub new_head : {T : Type 0} → RingId → HeadView T
new_head r = record { ring = r; popped = []; pushed = 0; loads = 0; told = [] }

-- a ring with these counts has no room: they differ by the capacity, or the pushed count can't rise
abbrev pub IsFull : ℕ → ℕ → ℕ → Type 0
IsFull capacity pushed taken = (pushed ≡ taken + capacity) ⊎ (pushed ≡ 2 ^ 64 - 1)

-- and one with these counts has room for an item more
abbrev pub HasRoom : ℕ → ℕ → ℕ → Type 0
HasRoom capacity pushed taken = (pushed < taken + capacity) × (pushed < 2 ^ 64 - 1)
