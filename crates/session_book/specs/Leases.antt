-- What is known of the leases of a session.
use Rattle.std.specs.Prelude.{◌≡◌}
use Rattle.lease_core.specs.Lines.{lines_of}
use Rattle.lease_core.specs.State.{state_of}
use Rattle.session_book.specs.Book.{Book}

-- the leases are as they were: how often the session can be granted, their lines, and for whom it is reserved
pub record HasSameLeases (old new : Book) : Type 0 where
  pub leases : new.leases ≡ old.leases
  pub lines : lines_of new.entries ≡ lines_of old.entries
  pub reserved : (state_of new.entries).reserved ≡ (state_of old.entries).reserved
