-- The fields of a cutter.
use Rattle.std.specs.Prelude.{◌≡◌, ◌+◌, ◌≤◌, length}
use Rattle.fix_frame.specs.declared.cutter.Cutter.TheInside.{Inside}
use Rattle.fix_frame.specs.declared.layout.TheConstants.{LEAST_LIMIT, LEAST_ROOM, LONGEST_FRAME}
use Rattle.fix_frame.specs.Look.{IsQuiet}

-- a limit for which there is room, and what is known of the bytes
pub record IsCutter (c : Inside) : Type 0 where
  pub least : LEAST_LIMIT ≤ c.limit
  pub most : c.limit ≤ LONGEST_FRAME
  pub room : c.ring.room ≡ c.limit + LEAST_ROOM
  pub held : length c.ring.bytes ≤ c.ring.room
  pub quiet : IsQuiet c.limit c.ring.bytes c.quiet
