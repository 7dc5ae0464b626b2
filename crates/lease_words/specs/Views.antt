-- What seats know, and what contracts see of a table and of its seats.
use Rattle.std.specs.Prelude.{ℕ, zero, suc, ◌-◌, false, true, List, [], ◌∷◌, length, replicate, slice_index_or, slice_set}
use Rattle.lease_core.specs.declared.lease.Line.{Line}
use Rattle.atomic_table.specs.Seated.{TableId}
use Rattle.lease_words.specs.declared.item.Item.{Item}
use Rattle.lease_words.specs.declared.view.Shape.{Shape}
use Rattle.lease_words.specs.declared.view.EngineSession.{EngineSession}
use Rattle.lease_words.specs.declared.view.Heard.{Heard}
use Rattle.lease_words.specs.declared.view.EngineKnows.{EngineKnows}
use Rattle.lease_words.specs.declared.view.LibrarySession.{LibrarySession}
use Rattle.lease_words.specs.declared.view.LibraryKnows.{LibraryKnows}
use Rattle.lease_words.specs.declared.view.View.{View}
use Rattle.lease_words.specs.Leases.{total}
use Rattle.lease_core.specs.Lines.{last_line}

-- which table it is
pub record TableRef : Type 0 where
  pub shape : Shape
  pub table : TableId

-- an engine's seat: its table, what it knows, and what the libraries knew that were settled, the latest first
pub record EngineView : Type 0 where
  pub table : TableRef
  pub knows : EngineKnows
  pub settled : List LibraryKnows

-- a library's seat
pub record LibraryView : Type 0 where
  pub table : TableRef
  pub knows : LibraryKnows

abbrev pub lines_before : Shape → ℕ → List Line
lines_before shape s = slice_index_or shape.before s []

-- the number of leases before the table was made
abbrev pub base_of : Shape → ℕ → ℕ
base_of shape s = length (lines_before shape s)

abbrev pub no_engine_session : EngineSession
no_engine_session = record { base = 0; lines = []; words = []; looks = 0; taken = []; published = 0 }

abbrev pub engine_session : EngineKnows → ℕ → EngineSession
engine_session e s = slice_index_or e.sessions s no_engine_session

abbrev pub with_engine_session : EngineKnows → ℕ → EngineSession → EngineKnows
with_engine_session e s x = record e { sessions = slice_set e.sessions s x }

abbrev pub unheard : Heard
unheard = record { count = 0; loads = 0 }

abbrev pub heard_of : EngineKnows → ℕ → Heard
heard_of e library = slice_index_or e.beats (library - 1) unheard

abbrev pub with_heard : EngineKnows → ℕ → Heard → EngineKnows
with_heard e library x = record e { beats = slice_set e.beats (library - 1) x }

-- the items that were taken of a library
abbrev pub taken_of : EngineSession → ℕ → List Item
taken_of es library = slice_index_or es.taken (library - 1) []

abbrev pub with_taken : EngineSession → ℕ → List Item → EngineSession
with_taken es library items = record es { taken = slice_set es.taken (library - 1) items }

abbrev pub no_library_session : LibrarySession
no_library_session = record { leases = []; items = []; words = []; looks = 0; taken = 0; takes = 0; published = 0; arrivals = 0 }

abbrev pub library_session : LibraryKnows → ℕ → LibrarySession
library_session k s = slice_index_or k.sessions s no_library_session

abbrev pub with_library_session : LibraryKnows → ℕ → LibrarySession → LibraryKnows
with_library_session k s x = record k { sessions = slice_set k.sessions s x }

-- what a seat knows of a session, and a seat that knows this of it and else the same
abbrev pub engine_at : EngineView → ℕ → EngineSession
engine_at v s = engine_session v.knows s

abbrev pub with_engine_at : EngineView → ℕ → EngineSession → EngineView
with_engine_at v s x = record v { knows = with_engine_session v.knows s x }

abbrev pub library_at : LibraryView → ℕ → LibrarySession
library_at v s = library_session v.knows s

abbrev pub with_library_at : LibraryView → ℕ → LibrarySession → LibraryView
with_library_at v s x = record v { knows = with_library_session v.knows s x }

-- the library whose lease is the last
abbrev pub last_library : EngineSession → ℕ
last_library es = (last_line es.lines).library

-- the lines of the leases that this table granted
abbrev pub granted_lines : ℕ → List Line → List Line
granted_lines zero lines = lines
granted_lines (suc base) [] = []
granted_lines (suc base) (l ∷ ls) = granted_lines base ls

-- how many sends of a library the engine's lines show
abbrev pub shown_sends : EngineSession → ℕ → ℕ
shown_sends es library = total library (granted_lines es.base es.lines)

-- how many sends of the last lease's library the lines show that weren't taken
abbrev pub pending : EngineSession → ℕ
pending es = shown_sends es (last_library es) - length (taken_of es (last_library es))

-- a seat that has done nothing
abbrev pub new_engine_session : Shape → ℕ → EngineSession
new_engine_session shape s = record { base = base_of shape s; lines = lines_before shape s; words = []; looks = 0; taken = replicate shape.libraries []; published = 0 }

-- the first n sessions from number s on
abbrev pub new_engine_sessions : Shape → ℕ → ℕ → List EngineSession
new_engine_sessions shape s zero = []
new_engine_sessions shape s (suc n) = new_engine_session shape s ∷ new_engine_sessions shape (suc s) n

abbrev pub new_engine : Shape → EngineKnows
new_engine shape = record { sessions = new_engine_sessions shape 0 shape.sessions; beats = replicate shape.libraries unheard; taking = 0 }

abbrev pub new_library : Shape → ℕ → LibraryKnows
new_library shape number = record { number = number; sessions = replicate shape.sessions no_library_session; beats = 0; sending = 0 }

-- n libraries from this number on
abbrev pub new_libraries : Shape → ℕ → ℕ → List LibraryKnows
new_libraries shape number zero = []
new_libraries shape number (suc n) = new_library shape number ∷ new_libraries shape (suc number) n

-- views: the engine with the libraries that are settled or meet it, and a library alone
abbrev pub nothing_known : EngineKnows
nothing_known = record { sessions = []; beats = []; taking = 0 }

abbrev pub engine_view : Shape → EngineKnows → List LibraryKnows → View
engine_view shape e ks = record { shape = shape; engine = true; knows = e; libraries = ks }

abbrev pub library_view : Shape → LibraryKnows → View
library_view shape k = record { shape = shape; engine = false; knows = nothing_known; libraries = k ∷ [] }

-- of a seat that a joining left
abbrev pub nobody : View
nobody = record { shape = record { sessions = 0; libraries = 0; depth = 0; sends = 0; before = [] }; engine = false; knows = nothing_known; libraries = [] }

abbrev pub no_library : LibraryKnows
no_library = record { number = 0; sessions = []; beats = 0; sending = 0 }

abbrev pub first_library : List LibraryKnows → LibraryKnows
first_library [] = no_library
first_library (k ∷ ks) = k

abbrev pub other_libraries : List LibraryKnows → List LibraryKnows
other_libraries [] = []
other_libraries (k ∷ ks) = ks

-- a view without its first library, and that library alone
abbrev pub without_first : View → View
without_first v = record v { libraries = other_libraries v.libraries }

abbrev pub first_alone : View → View
first_alone v = library_view v.shape (first_library v.libraries)

-- a library comes into the engine's view
abbrev pub with_first : View → View → View
with_first v w = record v { libraries = first_library w.libraries ∷ v.libraries }
