-- What an engine's and a library's seat are between two calls: no slot is out with them, and the numbers that they keep are those of what they know.
use Rattle.std.specs.Prelude.{◌≡◌, ◌≢◌, ℕ, zero, suc, ◌^◌, ◌<◌, ◌≤◌, List, [], ◌∷◌, length, map, slice_index_or, Option}
use Rattle.atomic_table.specs.declared.shared.Seat.{Seat}
use Rattle.lease_words.specs.declared.item.Item.{Item}
use Rattle.lease_words.specs.declared.view.Shape.{Shape}
use Rattle.lease_words.specs.declared.view.EngineSession.{EngineSession}
use Rattle.lease_words.specs.declared.view.LibrarySession.{LibrarySession}
use Rattle.lease_words.specs.declared.view.View.{View}
use Rattle.lease_words.specs.declared.rows.EngineRow.{EngineRow}
use Rattle.lease_words.specs.declared.rows.LibraryRow.{LibraryRow}
use Rattle.lease_core.specs.declared.lease.Line.{Line}
use Rattle.lease_core.specs.declared.limits.TheConstants.{MOST_LIBRARIES}
use Rattle.lease_core.specs.Lines.{word_of}
use Rattle.lease_core.specs.Word.{word_in}
use Rattle.lease_words.specs.declared.outset.Outset.{Outset}
use Rattle.atomic_table.specs.Seated.{TableId}
use Rattle.lease_words.specs.Layout.{lease_word, word_count, slot_count}
use Rattle.lease_words.specs.Registries.{AreEnded}
use Rattle.lease_core.specs.Lines.{last_line}
use Rattle.lease_words.specs.Leases.{Each, held_count}
use Rattle.lease_words.specs.Rule.{IsShape}
use Rattle.lease_words.specs.Views.{TableRef, EngineView, LibraryView, engine_view, library_view, first_library, engine_session, last_library, new_engine, new_library}
use Rattle.lease_words.specs.Tells.{engine_numbers, library_numbers}

abbrev pub engine_row : EngineSession → EngineRow
engine_row es = let n = engine_numbers es in record { lease = n.lease; library = n.library; count = n.count; pending = n.pending }

abbrev pub library_row : ℕ → LibrarySession → LibraryRow
library_row library ls = let n = library_numbers library ls in record { word = n.word; committed = n.committed }

-- what a table keeps beside its words and slots
pub record IsTable (k : Shape) (table : TableId) (sessions libraries depth sends : ℕ) : Type 0 where
  pub shape : IsShape k
  pub words : table.words ≡ word_count k.sessions k.libraries
  pub slots : table.slots ≡ slot_count k.sessions k.libraries
  pub sessions_are : sessions ≡ k.sessions
  pub libraries_are : libraries ≡ k.libraries
  pub depth_is : depth ≡ k.depth
  pub sends_are : sends ≡ k.sends

pub record IsEngine (s : Seat (Option Item) View) (rows : List EngineRow) : Type 0 where
  pub rests : s.me ≡ (engine_view s.me.0.shape s.me.0.knows s.me.0.libraries, [])
  pub idle : s.me.0.knows.taking ≡ 0
  pub rows_are : rows ≡ map engine_row s.me.0.knows.sessions
  pub count : length s.me.0.knows.sessions ≡ s.me.0.shape.sessions
  pub known : (i : ℕ) → i < s.me.0.shape.sessions → last_library (engine_session s.me.0.knows i) ≤ MOST_LIBRARIES

-- the row of a session whose leases are from before the table
abbrev pub first_row : List Line → EngineRow
first_row lines = record { lease = length lines; library = (last_line lines).library; count = (last_line lines).sends; pending = 0 }

abbrev pub no_row : EngineRow
no_row = first_row []

-- The rows and words follow from the lines: the lease words are those of the lines, and all others are 0.
pub record IsOutset (o : Outset) : Type 0 where
  pub few : length o.before ≤ o.sessions
  pub ended : Each AreEnded o.before
  pub row_count : length o.rows.items ≡ o.sessions
  pub rows : (s : ℕ) → s < o.sessions → slice_index_or o.rows.items s no_row ≡ first_row (slice_index_or o.before s [])
  pub word_count : length o.words.items ≡ word_count o.sessions o.libraries
  pub leases : (s : ℕ) → s < o.sessions → word_in (slice_index_or o.words.items (lease_word s) 0) ≡ word_of (slice_index_or o.before s [])
  pub others : (i : ℕ) → ((s : ℕ) → s < o.sessions → i ≢ lease_word s) → slice_index_or o.words.items i 0 ≡ 0

-- the count of the lease that is held fits into its word
abbrev pub CountsFit : LibrarySession → Type 0
CountsFit ls = held_count ls.leases < 2 ^ 32

pub record IsLibrary (s : Seat (Option Item) View) (number beats : ℕ) (rows : List LibraryRow) : Type 0 where
  pub rests : s.me ≡ (library_view s.me.0.shape (first_library s.me.0.libraries), [])
  pub idle : (first_library s.me.0.libraries).sending ≡ 0
  pub number_is : number ≡ (first_library s.me.0.libraries).number
  pub beats_are : beats ≡ (first_library s.me.0.libraries).beats
  pub rows_are : rows ≡ map (library_row number) (first_library s.me.0.libraries).sessions
  pub count : length (first_library s.me.0.libraries).sessions ≡ s.me.0.shape.sessions
  pub few : Each CountsFit (first_library s.me.0.libraries).sessions
  pub from_one : 1 ≤ number
  pub to_last : number ≤ MOST_LIBRARIES
  pub within : number ≤ s.me.0.shape.libraries

-- seats that have done nothing
abbrev pub new_engine_seat : TableRef → EngineView
new_engine_seat t = record { table = t; knows = new_engine t.shape; settled = [] }

abbrev pub new_library_seat : TableRef → ℕ → LibraryView
new_library_seat t number = record { table = t; knows = new_library t.shape number }

-- those of n libraries from this number on
abbrev pub new_library_seats : TableRef → ℕ → ℕ → List LibraryView
new_library_seats t number zero = []
new_library_seats t number (suc n) = new_library_seat t number ∷ new_library_seats t (suc number) n
