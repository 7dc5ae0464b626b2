-- What is pushed to a library of a lease lies within what the library holds by that lease.
use Rattle.std.specs.Prelude.{◌≡◌, ℕ, ◌-◌, ◌<◌, ◌≤◌, List, slice_get, Some}
use Rattle.std.specs.List.{All, Contains}
use Rattle.lease_core.specs.Holdings.{holdings_of}
use Rattle.lease_core.specs.Runs.{IsRun}
use Rattle.lease_core.specs.declared.entry.Entry.{Entry}
use Rattle.lease_core.specs.declared.entry.Holding.{Holding}
use Rattle.lease_core.specs.declared.messages.Notice.{Notice}
use Rattle.lease_core.specs.declared.messages.Notice.TheVariants.{Granted, Message, Refused}
use Rattle.library_desk.specs.declared.desk.LibraryDesk.{LibraryDesk}
use Rattle.library_desk.specs.declared.ends.EngineEnds.{EngineEnds}
use Rattle.switchboard.specs.Board.{Board, book_at}

-- By a journal the library held the session by this lease, and the position lies below the end of what it held.
pub record IsBelowEnd (entries : List Entry) (library lease pos : ℕ) : Type 0 where
  pub holding : Holding
  pub held : Contains (holdings_of entries) holding
  pub library_is : holding.library ≡ library
  pub lease_is : holding.lease ≡ lease
  pub below : pos < holding.end

-- a message of a lease lies within what its library holds by that, where the session's journal is lawful
abbrev pub LiesWithin : Board → ℕ → Notice → Type 0
LiesWithin board library (Message s lease pos bytes) = (limit : ℕ) → IsRun limit (book_at board s).entries → IsBelowEnd (book_at board s).entries library lease pos
LiesWithin board library (Granted nr s lease from start) = Unit {0}
LiesWithin board library (Refused nr s why) = Unit {0}

-- and so do all that were pushed to each library
abbrev pub AllLieWithin : LibraryDesk → Type 0
AllLieWithin d = (library : ℕ) (e : EngineEnds) → 1 ≤ library → slice_get d.ends.items (library - 1) ≡ Some e → All (LiesWithin d.desk.board library) e.tail.pushed
