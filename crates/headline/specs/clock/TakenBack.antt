-- What the clock tells in a run in which the engine took a lease back since its library fell silent.
use Rattle.std.specs.Prelude.{ℕ, ◌+◌, ◌≤◌}
use Rattle.std.specs.List.{Contains}
use Rattle.lease_core.specs.declared.entry.Entry.TheVariants.{Timeout}
use Rattle.session_book.specs.declared.reads.SessionRecord.{SessionRecord}

-- The session's journal tells of a lease that was taken back only where the clock goes on for this timeout, from the first moment on, up to the last one.
abbrev pub TimedOutInTime : ℕ → ℕ → ℕ → SessionRecord → Type 0
TimedOutInTime first last timeout r = (lease library count : ℕ) → Contains r.registry.entries (Timeout lease library count) → first + timeout ≤ last
