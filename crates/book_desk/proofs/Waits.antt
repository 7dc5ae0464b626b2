-- What a call leaves of what waits.
use Rattle.std.proofs.Common.{◌≡◌, subst, sym}
use Rattle.session_book.specs.Book.{Desk}
use Rattle.session_book.specs.Waiting.{StaysWritable}

-- the call leaves the desk of an event
pub on_desk : (old desk new : Desk) → new ≡ desk → StaysWritable old desk → StaysWritable old new
on_desk old desk new is stays = subst (λ (d : Desk). StaysWritable old d) (sym is) stays
