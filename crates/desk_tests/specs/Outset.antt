-- How the two sides begin.
use Rattle.std.specs.Prelude.{◌≡◌, ℕ, ◌<◌, ◌≤◌, [], length, map, slice_get, Option, None, Some}
use Rattle.lease_core.specs.declared.limits.TheConstants.{MOST_LEASES, MOST_LIBRARIES}
use Rattle.lease_desk.specs.Desk.{IsInStep}
use Rattle.lease_desk.specs.declared.desk.LeaseDesk.{LeaseDesk}
use Rattle.lease_words.specs.declared.view.Shape.{Shape}
use Rattle.library_api.specs.Ends.{EndsView}
use Rattle.library_desk.specs.declared.shared.Shared.{Shared}
use Rattle.switchboard.specs.Board.{Board, book_at}
use Rattle.switchboard.specs.Ready.{IsFirst, entries_of}

-- Two sessions of which nothing was heard. The second dials where it has this HeartBtInt.
pub record IsFresh (dials : Option ℕ) (board : Board) : Type 0 where
  pub first : IsFirst (entries_of board) board
  pub count : length board.sessions ≡ 2
  pub entries : (s : ℕ) → (book_at board s).entries ≡ []
  pub leases : (s : ℕ) → (book_at board s).leases ≤ MOST_LEASES
  pub accepts : (book_at board 0).machine.dials ≡ None
  pub dials_so : (book_at board 1).machine.dials ≡ dials

-- for two sessions and two libraries, before which nothing was
abbrev pub outset_shape : ℕ → ℕ → Shape
outset_shape depth sends = record { sessions = 2; libraries = 2; depth = depth; sends = sends; before = [] }

-- the second session, where it dials
abbrev pub dialler_of : Option ℕ → Option ℕ
dialler_of None = None
dialler_of (Some heart) = Some 1

-- a library's seat belongs to the table, and its ends to the rings at this place
pub record AreEnds (shared : Shared) (place : ℕ) (ends : EndsView) : Type 0 where
  pub table : ends.seat.table ≡ shared.leases
  pub commands : slice_get shared.commands.items place ≡ Some ends.tail.ring
  pub notices : slice_get shared.notices.items place ≡ Some ends.head.ring

-- a table, and sessions with a seat that belongs to it, which are in step
pub record IsOpen (shared : Shared) (desk : LeaseDesk) : Type 0 where
  pub table : desk.seat.table ≡ shared.leases
  pub sessions : length desk.board.sessions ≡ shared.leases.shape.sessions
  pub known : shared.leases.shape.libraries ≤ MOST_LIBRARIES
  pub in_step : IsInStep desk.board desk.seat
