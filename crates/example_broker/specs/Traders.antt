-- A library of a run: its seat belongs to the table, and its ends to the rings of its number.
use Rattle.std.specs.Prelude.{◌≡◌, ℕ, ◌+◌, ◌-◌, ◌≤◌, false, slice_get, replicate, Some}
use Rattle.engine_start.specs.Starts.{AreLibraryEnds}
use Rattle.engine_start.specs.declared.ends.LibraryEnds.{LibraryEnds}
use Rattle.library_api.specs.Ends.{EndsView}
use Rattle.library_api.specs.Known.{new_library}
use Rattle.library_desk.specs.declared.shared.Shared.{Shared}
use Rattle.example_broker.specs.Trades.{TradesAndLeaves}
use Rattle.example_broker.specs.declared.starting.Traders.{Traders}
use Rattle.example_broker.specs.declared.trading.Trader.{Trader}

pub record IsTrader (shared : Shared) (trader : Trader) : Type 0 where
  pub first : 1 ≤ trader.number
  pub table : trader.library.ends.seat.table ≡ shared.leases
  pub commands : slice_get shared.commands.items (trader.number - 1) ≡ Some trader.library.ends.tail.ring
  pub notices : slice_get shared.notices.items (trader.number - 1) ≡ Some trader.library.ends.head.ring

-- both libraries of a run
pub record AreTraders (shared : Shared) (traders : Traders) : Type 0 where
  pub first : IsTrader shared traders.first
  pub second : IsTrader shared traders.second

abbrev pub ends_view : LibraryEnds → EndsView
ends_view ends = record { seat = ends.seat; tail = ends.tail; head = ends.head }

-- The library at a place, which has done nothing: it may make so many requests, and has no lease of as many sessions.
pub record IsNewTrader (shared : Shared) (place asks sessions : ℕ) (trader : Trader) : Type 0 where
  pub number : trader.number ≡ place + 1
  pub desk_number : trader.desk.number ≡ place + 1
  pub ends : LibraryEnds
  pub ends_are : AreLibraryEnds shared place ends
  pub library : trader.library ≡ new_library (ends_view ends) asks
  pub leases : trader.desk.leases.items ≡ replicate sessions 0
  pub reads : trader.desk.reads ≡ 0

pub record AreNewTraders (shared : Shared) (asks sessions : ℕ) (traders : Traders) : Type 0 where
  pub first : IsNewTrader shared 0 asks sessions traders.first
  pub second : IsNewTrader shared 1 asks sessions traders.second

-- what a library's thread makes of it: it trades
pub record HasTraded (old new : Trader) : Type 0 where
  pub number : new.number ≡ old.number
  pub trades : TradesAndLeaves old.desk.number new.short old.library new.library

pub record HaveTraded (old new : Traders) : Type 0 where
  pub first : HasTraded old.first new.first
  pub second : HasTraded old.second new.second
