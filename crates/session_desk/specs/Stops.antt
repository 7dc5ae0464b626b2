-- Where a session's turn stops for want of memory.
use Rattle.std.specs.Prelude.{ℕ, ◌⊎◌, List, Option}
use Rattle.lease_core.specs.State.{state_of}
use Rattle.lease_desk.specs.Desk.{Gathers}
use Rattle.lease_desk.specs.declared.desk.LeaseDesk.{LeaseDesk}
use Rattle.session_core.specs.declared.causes.Cause.{Cause}
use Rattle.session_desk.specs.Steps.{binding, lapsing}
use Rattle.switchboard.specs.Board.{Board, book_at}
use Rattle.switchboard.specs.Happenings.{Happening, Happens, Reaches, binds, dials, receives, ticks}
use Rattle.switchboard.specs.Stops.{NothingIsTold, StopsIn}

-- what the library of a session did is gathered, and then this
abbrev pub BehindGathering : ℕ → ℕ → ℕ → (LeaseDesk → Type 0) → LeaseDesk → Type 0
BehindGathering s at until P old = (gathered : LeaseDesk) × (Gathers s at until old gathered × P gathered)

-- something happens, and behind it nothing is told
abbrev pub HappensLast : Happening → Board → Board → Type 0
HappensLast happening old new = (between : Board) × (Happens happening old between × NothingIsTold between new)

-- A session that hears a message on its connection.
abbrev pub StopsHearing : ℕ → ℕ → List ℕ → ℕ → ℕ → LeaseDesk → LeaseDesk → Type 0
StopsHearing s k body at until old new =
    NothingIsTold old.board new.board ⊎ BehindGathering s at until (λ gathered. StopsIn (receives s k body at) gathered.board new.board) old

-- A session that hears the clock: before its reservation lapses, or behind that.
abbrev pub StopsTicking : ℕ → ℕ → ℕ → LeaseDesk → LeaseDesk → Type 0
StopsTicking s at until old new =
    NothingIsTold old.board new.board
    ⊎ BehindGathering s at until
    (λ gathered. NothingIsTold gathered.board new.board
    ⊎ ((lapsed : Board) × (Reaches (lapsing s (state_of (book_at gathered.board s).entries).reserved at) gathered.board lapsed × StopsIn (ticks s at) lapsed new.board)))
    old

-- A session that dials.
abbrev pub StopsDialling : ℕ → ℕ → ℕ → ℕ → LeaseDesk → LeaseDesk → Type 0
StopsDialling s number at until old new =
    NothingIsTold old.board new.board ⊎ BehindGathering s at until (λ gathered. StopsIn (dials s number at) gathered.board new.board) old

-- A session that is bound to a connection by its Logon: in the bind, or behind it.
abbrev pub StopsBinding : ℕ → ℕ → List ℕ → ℕ → ℕ → LeaseDesk → LeaseDesk → Type 0
StopsBinding s k body at until old new =
    NothingIsTold old.board new.board
    ⊎ BehindGathering s at until
    (λ gathered. StopsIn (binds s k body at) gathered.board new.board ⊎ ((end : Option Cause) × HappensLast (binding s k body at end) gathered.board new.board))
    old

-- A connection whose first message binds a session.
abbrev pub StopsGreeting : ℕ → List ℕ → ℕ → ℕ → LeaseDesk → LeaseDesk → Type 0
StopsGreeting k body at until old new = NothingIsTold old.board new.board ⊎ ((s : ℕ) × StopsBinding s k body at until old new)
