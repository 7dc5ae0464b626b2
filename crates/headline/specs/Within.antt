-- What a library reads of a lease lies within what it held by that lease.
use Rattle.std.specs.Prelude.{◌≡◌, ℕ, List, slice_get, Some}
use Rattle.engine_end.specs.Records.{SessionLeft}
use Rattle.lease_core.specs.declared.messages.Notice.{Notice}
use Rattle.lease_core.specs.declared.messages.Notice.TheVariants as notices
use Rattle.engine_laws.specs.libraries.Spans.{IsBelowEnd}

-- A message of a lease has a position below the end of what the library held by that lease, as the session's journal tells it.
abbrev pub IsWithinHolding : List SessionLeft → ℕ → Notice → Type 0
IsWithinHolding sessions library (notices.Message s lease pos bytes) = (session : SessionLeft) → slice_get sessions s ≡ Some session → IsBelowEnd session.entries library lease pos
IsWithinHolding sessions library (notices.Granted nr s lease from start) = Unit {0}
IsWithinHolding sessions library (notices.Refused nr s why) = Unit {0}
