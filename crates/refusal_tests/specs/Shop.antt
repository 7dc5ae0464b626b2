-- What the tests' desk knows of its session and of its connection.
use Rattle.std.specs.Prelude.{◌≡◌, ◌≢◌, Bool, false, true, None, IsSome}
use Rattle.connection_core.specs.Connection.{ConnectionState}
use Rattle.lease_core.specs.State.{state_of}
use Rattle.session_core.specs.declared.phases.Phase.TheVariants.{Off}
use Rattle.session_book.specs.Book.{Book}
use Rattle.session_book.specs.Waiting.{CanBeWritten}

-- where a connection stands, the session is bound to it and isn't off
pub record Stands (book : Book) : Type 0 where
  pub bound : IsSome (state_of book.entries).bound
  pub on : book.machine.phase ≢ Off

-- a session that accepts connections or dials them, with its connection
pub record Shop : Type 0 where
  pub book : Book
  pub dials : Bool
  pub connection : ConnectionState
  pub stands : Bool

pub record IsShop (s : Shop) : Type 0 where
  pub accepts : s.dials ≡ false → s.book.machine.dials ≡ None
  pub asks : s.dials ≡ true → IsSome s.book.machine.dials
  pub standing : s.stands ≡ true → Stands s.book
  pub here : CanBeWritten s.book s.connection.out.outgoing
