-- How what a run left open of a session is closed, one after the other.
use Rattle.std.specs.Prelude.{ℕ, nat_lt, if◌then◌else◌, Option, None, Some}
use Rattle.lease_core.specs.State.{owner_of, state_of}
use Rattle.lease_core.specs.declared.event.Event.TheVariants.{TimesOut}
use Rattle.session_book.specs.Acts.{after_end}
use Rattle.session_book.specs.Book.{Book, with_event}
use Rattle.switchboard.specs.Sound.{bound_of}

-- an active lease is taken back
abbrev pub after_taking_back : Book → Book
after_taking_back book = if nat_lt 0 (owner_of (state_of book.entries)) then with_event TimesOut book else book

-- the connection to which the session is bound is left
abbrev pub without_bind : Option ℕ → Book → Book
without_bind None book = book
without_bind (Some c) book = after_end c book

abbrev pub after_leaving : Book → Book
after_leaving book = without_bind (bound_of book) book
