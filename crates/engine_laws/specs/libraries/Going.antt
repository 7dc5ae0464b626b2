-- What the crates below say of boards that go on, as two laws of libraries need it.
use Rattle.std.specs.Prelude.{◌≡◌, ◌≢◌, ℕ, false, List, Option}
use Rattle.lease_core.specs.Laws.{LinesAreHeld, LinesAreRaised, LinesGoOn, LinesGoOnOver, LinesTellOwner, RaisedLinesKeepLeases}
use Rattle.lease_desk.specs.Desk.{GoesOn, is_of_leases}
use Rattle.switchboard.specs.Board.{Board, DeskChanges, book_at, session_at, with_session}
use Rattle.switchboard.specs.Going.{GoesOnTo}
use Rattle.switchboard.specs.Happenings.{Happening, Happens, Reaches}

-- what they say of the lines of journals and of boards
pub record GoingLaws : Type 0 where
  pub tell : LinesTellOwner
  pub over : LinesGoOnOver
  pub one : LinesGoOn
  pub raises : LinesAreRaised
  pub holds : LinesAreHeld
  pub kept : RaisedLinesKeepLeases
  pub goes_on : (happening : Happening) (old new : Board) → is_of_leases happening ≡ false → Happens happening old new → (s : ℕ) → GoesOn old new s
  pub happens : (happening : Happening) (old new : Board) → Happens happening old new → GoesOnTo old new
  pub runs : (happenings : List Happening) (old new : Board) → Reaches happenings old new → GoesOnTo old new
  pub desk : (s other : ℕ) (place : Option ℕ) (old new : Board) → other ≢ s → DeskChanges s place old new → book_at new other ≡ book_at old other
  pub session : (s other : ℕ) (old new : Board) → other ≢ s → new ≡ with_session s (session_at new s) old → book_at new other ≡ book_at old other
