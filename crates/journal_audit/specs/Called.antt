-- What stands in a report of its libraries' calls, right or not.
use Rattle.std.specs.Prelude.{ℕ, ◌==◌, ◌&&◌, if◌then◌else◌, List, [], ◌∷◌, flat_map, Option, Some}
use Rattle.lease_core.specs.declared.lease.Deed.{Deed}
use Rattle.lease_core.specs.declared.lease.Deed.TheVariants as deed
use Rattle.journal_audit.specs.Lines.{line_of}
use Rattle.journal_audit.specs.declared.line.Call.{Call}
use Rattle.journal_audit.specs.declared.line.Call.TheVariants as call
use Rattle.journal_audit.specs.declared.line.Line.{Line}
use Rattle.journal_audit.specs.declared.line.Line.TheVariants as line

-- a call with its answer, and the library that made it
pub record Called : Type 0 where
  pub library : ℕ
  pub call : Call

-- the library whose calls stand behind a line
abbrev pub library_after : ℕ → Option Line → ℕ
library_after library (Some (line.Library number reads)) = number
library_after library _ = library

-- the calls with what one line more in front says
abbrev pub called_with : ℕ → Option Line → List Called → List Called
called_with library (Some (line.Call c)) calls = record { library = library; call = c } ∷ calls
called_with library _ calls = calls

-- the calls in lines, of which the first are this library's
unfoldable pub called_in : ℕ → List (List ℕ) → List Called
called_in library [] = []
called_in library (l ∷ lines) = called_with library (line_of l) (called_in (library_after library (line_of l)) lines)

-- a message that a poll gave to a library
pub record Reading : Type 0 where
  pub library : ℕ
  pub pos : ℕ
  pub body : List ℕ

abbrev pub reading_by : ℕ → ℕ → ℕ → Call → List Reading
reading_by s lease library (call.Read t k pos body) = if (t == s) && (k == lease) then record { library = library; pos = pos; body = body } ∷ [] else []
reading_by s lease library (call.Asked nr) = []
reading_by s lease library (call.Replied nr reply) = []
reading_by s lease library (call.Sent t k ordinal body) = []
reading_by s lease library (call.GaveBack t k count heir) = []
reading_by s lease library call.Other = []

abbrev pub reading_of : ℕ → ℕ → Called → List Reading
reading_of s lease c = reading_by s lease c.library c.call

-- the messages that polls gave by a lease of a session, whichever library made them
abbrev pub readings : ℕ → ℕ → List Called → List Reading
readings s lease calls = flat_map (reading_of s lease) calls

abbrev pub deed_by : ℕ → ℕ → ℕ → Call → List Deed
deed_by library s whose (call.Sent t lease ordinal body) = if (whose == library) && (t == s) then deed.Sent lease whose ordinal ∷ [] else []
deed_by library s whose (call.GaveBack t lease count heir) = if (whose == library) && (t == s) then deed.GaveBack lease whose count heir ∷ [] else []
deed_by library s whose (call.Asked nr) = []
deed_by library s whose (call.Replied nr reply) = []
deed_by library s whose (call.Read t k pos body) = []
deed_by library s whose call.Other = []

abbrev pub deed_called : ℕ → ℕ → Called → List Deed
deed_called library s c = deed_by library s c.library c.call

-- what a library's calls say that it sent of a session, and gave back of it, in order
abbrev pub deeds_called : ℕ → ℕ → List Called → List Deed
deeds_called library s calls = flat_map (deed_called library s) calls

abbrev pub body_by : ℕ → ℕ → ℕ → Call → List (List ℕ)
body_by library s whose (call.Sent t lease ordinal body) = if (whose == library) && (t == s) then body ∷ [] else []
body_by library s whose (call.GaveBack t lease count heir) = []
body_by library s whose (call.Asked nr) = []
body_by library s whose (call.Replied nr reply) = []
body_by library s whose (call.Read t k pos body) = []
body_by library s whose call.Other = []

abbrev pub body_called : ℕ → ℕ → Called → List (List ℕ)
body_called library s c = body_by library s c.library c.call

-- the bodies that a library's calls say that it sent of a session, in order
abbrev pub bodies_called : ℕ → ℕ → List Called → List (List ℕ)
bodies_called library s calls = flat_map (body_called library s) calls
