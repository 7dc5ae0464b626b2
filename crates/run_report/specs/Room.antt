-- What libraries left, and for how many of them there is room.
use Rattle.std.specs.Prelude.{◌≡◌, ℕ, ◌≤◌, List, []}
use Rattle.lease_words.specs.Views.{LibraryView}
use Rattle.run_report.specs.declared.records.LibReport.{LibReport}

-- a room as contracts see it: the seats and reports that were put into it, and how many it holds of each
pub record LeftSoFar : Type 0 where
  pub seats : List LibraryView
  pub reports : List LibReport
  pub holds : ℕ

-- it holds what so many libraries leave, and none left anything yet
pub record IsRoomFor (libraries : ℕ) (room : LeftSoFar) : Type 0 where
  pub seats : room.seats ≡ []
  pub reports : room.reports ≡ []
  pub holds : libraries ≤ room.holds
