-- What is due at a moment, as long as nothing comes.
use Rattle.std.specs.Prelude.{◌≡◌, ℕ, ◌+◌, ◌<◌, ◌≤◌, length, slice_index_or, true, IfSome}
use Rattle.connection_core.specs.Connection.{IsLate}
use Rattle.engine_loop.specs.declared.due.TheConstants.{LONGEST_PAUSE}
use Rattle.engine_loop.specs.declared.engine.Engine.{Engine}
use Rattle.gate_io.specs.declared.clocks.TheConstants.{LAST_MOMENT}
use Rattle.lease_core.specs.State.{state_of}
use Rattle.lease_desk.specs.Desk.{owner_at}
use Rattle.library_clock.specs.Watched.{kept_of}
use Rattle.session_core.specs.Tick.{does_nothing_at}
use Rattle.switchboard.specs.Board.{book_at, connection_at}
use Rattle.wire_desk.specs.Dials.{IsDialDue}
use Rattle.wire_desk.specs.Places.{open_places}

-- The session isn't reserved, or is so beyond the moment.
abbrev pub HasNoLapse : Engine → ℕ → ℕ → Type 0
HasNoLapse e s moment = IfSome (state_of (book_at e.sessions.desk.board s).entries).reserved (λ reserved. moment < reserved.1)

-- It is one of the engine's libraries, and has fallen silent if its beat stands until the moment.
pub record IsSilentAt (e : Engine) (library moment : ℕ) : Type 0 where
  pub one : 1 ≤ library
  pub known : library ≤ length e.sessions.ends.items
  pub waited : (kept_of e.sessions.watch library).since + e.sessions.watch.timeout ≤ moment

-- Nothing of a session is due: a tick does nothing, no reservation lapses, no dial is due, and the library that has it hasn't fallen silent.
pub record IsSessionQuiet (e : Engine) (s moment : ℕ) : Type 0 where
  pub ticks : does_nothing_at (book_at e.sessions.desk.board s).machine moment ≡ true
  pub reserved : HasNoLapse e s moment
  pub dials : IsDialDue e.sessions.desk.board e.dialler s moment → ⊥
  pub library : IsSilentAt e (owner_at e.sessions.desk.board s) moment → ⊥

-- Nothing is due: nothing of any session, and no connection that isn't closed waits too long for its Logon.
pub record IsQuietAt (e : Engine) (moment : ℕ) : Type 0 where
  pub sessions : (s : ℕ) → s < length e.sessions.desk.board.sessions → IsSessionQuiet e s moment
  pub connections : (i : ℕ) → i < length (open_places e.lines) → IsLate (connection_at e.sessions.desk.board (slice_index_or (open_places e.lines) i 0)) moment → ⊥

-- For so many milliseconds from the moment of the last turn on nothing is due, and then something is, or the longest pause is over. What would be due behind the last moment never is.
pub record IsQuietFor (e : Engine) (ms : ℕ) : Type 0 where
  pub most : ms ≤ LONGEST_PAUSE
  pub quiet : (moment : ℕ) → e.moment ≤ moment → moment < e.moment + ms → moment ≤ LAST_MOMENT → IsQuietAt e moment
  pub due : ms < LONGEST_PAUSE → e.moment + ms ≤ LAST_MOMENT → IsQuietAt e (e.moment + ms) → ⊥
