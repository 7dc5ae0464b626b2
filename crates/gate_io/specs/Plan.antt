-- What a wire answers next, where it tells that beforehand.
use Rattle.std.specs.Prelude.{ℕ, ◌+◌, ◌==◌, ◌-◌, Bool, false, ◌||◌, List, Option, None, Some, length, min, if◌then◌else◌}
use Rattle.std.specs.Option.{option_map}
use Rattle.gate_io.specs.declared.wires.TheConstants.{FIRST_DIALLED}
use Rattle.gate_io.specs.declared.wires.WireGot.{WireGot}
use Rattle.gate_io.specs.declared.wires.WireGot.TheVariants as got
use Rattle.gate_io.specs.declared.wires.WireWrote.{WireWrote}
use Rattle.gate_io.specs.declared.wires.WireWrote.TheVariants as wrote
use Rattle.gate_io.specs.declared.wires.Accepted.{Accepted}
use Rattle.gate_io.specs.declared.wires.Accepted.TheVariants as accept
use Rattle.gate_io.specs.declared.dials.Dialled.{Dialled}
use Rattle.gate_io.specs.declared.dials.Dialled.TheVariants as dial

-- what a connection answers next, beside the bytes that are left
pub record LinkPlan : Type 0 where
  -- whether the input ends behind the bytes that are left, and whether the next read fails
  pub finished : Bool
  pub read_fails : Bool
  -- how many more written bytes there is room for
  pub room : ℕ
  -- how many more bytes are written before a write fails, and before writes are blocked, where there is such a place
  pub fails_after : Option ℕ
  pub blocks_after : Option ℕ

-- what a wire answers next that is asked for connections
pub record DoorPlan : Type 0 where
  -- how many connections were made that come of themselves, and how many for dials
  pub coming : ℕ
  pub answering : ℕ
  -- whether the next accept fails
  pub accept_fails : Bool

-- a place in what is written, where there is one, is reached
abbrev pub is_reached : Option ℕ → Bool
is_reached None = false
is_reached (Some after) = after == 0

-- as many of so many bytes as stand before such a place
abbrev pub count_before : Option ℕ → ℕ → ℕ
count_before None len = len
count_before (Some after) len = min after len

-- such a place is nearer by what was written
abbrev pub place_after : ℕ → Option ℕ → Option ℕ
place_after n place = option_map (λ after. after - n) place

-- What a read into this much room gives of the bytes that are left: the planned failure; else as much as is left, and
-- with nothing left the end behind a finished input.
abbrev pub planned_read : LinkPlan → List ℕ → ℕ → WireGot
planned_read plan left room =
    if plan.read_fails then got.Failed else if length left == 0 then (if plan.finished then got.End else got.Blocked) else got.Bytes (min room (length left))

-- the plan behind a read: a failure is met once
abbrev pub plan_after_read : LinkPlan → LinkPlan
plan_after_read plan = record plan { read_fails = false }

-- writes fail: the place of a failure is reached, or there is no room left
abbrev pub is_failing : LinkPlan → Bool
is_failing plan = is_reached plan.fails_after || (plan.room == 0)

-- how many of so many bytes are written: those before both places, as far as there is room
abbrev pub planned_count : LinkPlan → ℕ → ℕ
planned_count plan len = min (count_before plan.fails_after (count_before plan.blocks_after len)) plan.room

-- what a write of this many bytes takes: where writes fail it fails, at a block it is blocked
abbrev pub planned_write : LinkPlan → ℕ → WireWrote
planned_write plan len =
    if is_failing plan then wrote.Failed else if is_reached plan.blocks_after then wrote.Blocked else wrote.Bytes (planned_count plan len)

-- the plan behind so many written bytes
abbrev pub plan_after_bytes : ℕ → LinkPlan → LinkPlan
plan_after_bytes n plan = record plan { room = plan.room - n; fails_after = place_after n plan.fails_after; blocks_after = place_after n plan.blocks_after }

-- the plan behind a write that failed: a failure is met at its place, and want of room stays
abbrev pub plan_after_failure : LinkPlan → LinkPlan
plan_after_failure plan = record plan { fails_after = if is_reached plan.fails_after then None else plan.fails_after }

-- the plan behind a write with that answer: a block stays
abbrev pub plan_after_write : WireWrote → LinkPlan → LinkPlan
plan_after_write (wrote.Bytes n) plan = plan_after_bytes n plan
plan_after_write wrote.Blocked plan = plan
plan_after_write wrote.Failed plan = plan_after_failure plan

-- what an accept gives behind so many accepted connections: the planned failure, else the next connection that was made
abbrev pub planned_accept : DoorPlan → ℕ → Accepted
planned_accept plan accepted = if plan.accept_fails then accept.Failed else if accepted == plan.coming then accept.Nothing else accept.New accepted

-- the plan behind an accept: a failure is met once
abbrev pub plan_after_accept : DoorPlan → DoorPlan
plan_after_accept plan = record plan { accept_fails = false }

-- what a dial gives behind so many dialled connections: the next one that was made for dials, a failure where there is none
abbrev pub planned_dial : DoorPlan → ℕ → Dialled
planned_dial plan dialled = if dialled == plan.answering then dial.Failed else dial.New (FIRST_DIALLED + dialled)
