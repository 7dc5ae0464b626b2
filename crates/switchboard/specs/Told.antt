-- What was handled of the sessions' connections and sent for their libraries, as the happenings have it, and that the journals tell the same.
use Rattle.std.specs.Prelude.{ℕ, ◌<◌, ◌≤◌, ◌==◌, if◌then◌else◌, length, List, [], ◌∷◌, ◌++◌}
use Rattle.lease_core.specs.declared.entry.Entry.{Entry}
use Rattle.session_book.specs.OutEntry.{OutEntry}
use Rattle.session_core.specs.State.{State}
use Rattle.session_book.specs.Moments.{IsTimedRun}
use Rattle.session_book.specs.Runs.{Handled, handled_of, with_body}
use Rattle.session_book.specs.Sends.{AreSendsOf, new_sends}
use Rattle.switchboard.specs.Board.{Board, book_at, connection_at}
use Rattle.switchboard.specs.Happenings.{Happening, Reaches, accepts, binds, binds_and_ends, dials, receives, shows, ticks, times_out}

-- For each session the connections to which it was bound, with what was handled of each; and for each of its libraries what is logged of the bodies that
-- were taken for its sends.
pub record History : Type 0 where
  pub handled : ℕ → List Handled
  pub sends : ℕ → ℕ → List OutEntry

abbrev pub no_history : History
no_history = record { handled = λ s. []; sends = λ s library. [] }

-- what belongs to one of them changes
abbrev pub changed_at : {T : Type 0} → ℕ → (T → T) → (ℕ → T) → ℕ → T
changed_at s change all j = if j == s then change (all j) else all j

-- one connection more of a session
abbrev pub with_handled : ℕ → Handled → History → History
with_handled s next history = record history { handled = changed_at s (λ handled. handled ++ next ∷ []) history.handled }

-- one message more of its last connection
abbrev pub with_message : ℕ → List ℕ → History → History
with_message s body history = record history { handled = changed_at s (λ handled. with_body body handled) history.handled }

-- and further sends of its libraries
abbrev pub with_further : ℕ → (ℕ → List OutEntry) → History → History
with_further s more history = record history { sends = changed_at s (λ sends library. sends library ++ more library) history.sends }

-- once this happened to the old board
abbrev pub history_after : Happening → Board → History → History
history_after (dials s number at) old history = with_handled s (handled_of number []) history
history_after (binds s k body at) old history = with_handled s (handled_of (connection_at old k).number (body ∷ [])) history
history_after (binds_and_ends s k body at cause) old history = with_handled s (handled_of (connection_at old k).number (body ∷ [])) history
history_after (receives s k body at) old history = with_message s body history
history_after (shows s w bodies at until) old history = with_further s (λ library. new_sends library (book_at old s) at bodies) history
history_after (times_out s w bodies at until) old history = with_further s (λ library. new_sends library (book_at old s) at bodies) history
history_after _ old history = history

abbrev pub history_over : (happenings : List Happening) (old new : Board) → Reaches happenings old new → History → History
history_over [] old new reached history = history
history_over (happening ∷ happenings) old new reached history = history_over happenings reached.0 new reached.1.1 (history_after happening old history)

-- the moment of a happening, or that before it where it has none
abbrev pub moment_after : Happening → ℕ → ℕ
moment_after (accepts number at) moment = at
moment_after (dials s number at) moment = at
moment_after (binds s k body at) moment = at
moment_after (binds_and_ends s k body at cause) moment = at
moment_after (receives s k body at) moment = at
moment_after (ticks s at) moment = at
moment_after (shows s w bodies at until) moment = at
moment_after (times_out s w bodies at until) moment = at
moment_after _ moment = moment

abbrev pub moment_over : List Happening → ℕ → ℕ
moment_over [] moment = moment
moment_over (happening ∷ happenings) moment = moment_over happenings (moment_after happening moment)

-- no moment lies before an earlier one
abbrev pub ComeInOrder : ℕ → List Happening → Type 0
ComeInOrder moment [] = Unit {0}
ComeInOrder moment (happening ∷ happenings) = (moment ≤ moment_after happening moment) × ComeInOrder (moment_after happening moment) happenings

-- the session machines of a board
abbrev pub machines_of : Board → ℕ → State
machines_of board s = (book_at board s).machine

-- For each session its journal behind the entries before tells the acts of what was handled of its connections, and of no others, by a machine that
-- stood so at the start; no Heartbeat came before its time up to this moment; and the log has the sends of each library.
pub record IsTold (before : ℕ → List Entry) (start : ℕ → State) (history : History) (moment : ℕ) (board : Board) : Type 0 where
  pub runs : (s : ℕ) → s < length board.sessions → IsTimedRun (before s) (start s) (history.handled s) moment (book_at board s)
  pub sends : (s library : ℕ) → s < length board.sessions → AreSendsOf library (before s) (history.sends s library) (book_at board s)
