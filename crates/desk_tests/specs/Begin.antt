-- The parts of a row's beginning, before they are put together.
use Rattle.std.specs.Prelude.{◌≡◌, ℕ, ◌≤◌, [], ◌∷◌, length, vec_capacity, Option}
use Rattle.desk_tests.specs.Outset.{IsFresh, outset_shape}
use Rattle.desk_tests.specs.declared.making.Lists.{Lists}
use Rattle.desk_tests.specs.declared.making.Sessions.{Sessions}
use Rattle.desk_tests.specs.declared.making.Table.{Table}
use Rattle.desk_tests.specs.declared.making.TheConstants.{DEPTH, SENDS}
use Rattle.lease_words.specs.Tokens.{new_engine_seat}
use Rattle.session_desk.specs.Steps.{AreNoted, AreRoutes}

-- lists that are empty, each with room for two
pub record AreForTwo (lists : Lists) : Type 0 where
  pub commands : lists.commands.items ≡ []
  pub notices : lists.notices.items ≡ []
  pub ends : lists.ends.items ≡ []
  pub room : (2 ≤ vec_capacity lists.commands) × (2 ≤ vec_capacity lists.notices) × (2 ≤ vec_capacity lists.ends)

-- a table before which nothing was, and seats that belong to it
pub record IsOutsetTable (table : Table) : Type 0 where
  pub shape : table.leases.shape ≡ outset_shape DEPTH SENDS
  pub seat : table.seat ≡ new_engine_seat table.leases
  pub first : table.first.table ≡ table.leases
  pub second : table.second.table ≡ table.leases

-- Sessions of which nothing was heard or noted. Each that accepts has its route, and nothing is to be pumped.
pub record IsOutset (dials : Option ℕ) (s : Sessions) : Type 0 where
  pub fresh : IsFresh dials s.board
  pub routes : AreRoutes s.board s.routes
  pub few : length s.routes.names.items ≤ 2
  pub noted : AreNoted s.unkept.items s.board
  pub watch : length s.watch.kept ≡ 2
  pub cursors : s.cursors.items ≡ record { s = 0; lease = 0; at = 0 } ∷ record { s = 1; lease = 0; at = 0 } ∷ []
