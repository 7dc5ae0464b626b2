-- The rule of a table: its words and slots are those of what is so, and no seat knows more than is so. It holds between any two steps of any seats.
use Rattle.std.specs.Prelude.{◌≡◌, ◌≢◌, ℕ, ◌+◌, ◌^◌, ◌<◌, ◌≤◌, true, List, [], ◌∷◌, length, slice_index_or, Option, Some, None}
use mathlib.Core.Option.{some}
use mathlib.Core.Option as place
use lib.ListN.{get_elem?}
use Rattle.atomic_table.specs.Table.{State}
use Rattle.lease_core.specs.declared.limits.TheConstants.{MOST_LIBRARIES}
use Rattle.lease_core.specs.Lines.{word_of}
use Rattle.lease_core.specs.Word.{word_in}
use Rattle.lease_words.specs.declared.item.Item.{Item}
use Rattle.lease_words.specs.declared.layout.TheConstants.{LANE_SLOTS}
use Rattle.lease_words.specs.declared.view.Shape.{Shape}
use Rattle.lease_words.specs.declared.view.EngineKnows.{EngineKnows}
use Rattle.lease_words.specs.declared.view.LibraryKnows.{LibraryKnows}
use Rattle.lease_words.specs.declared.view.View.{View}
use Rattle.lease_words.specs.Layout.{lease_word, published_word, taken_word, beat_word, word_count, slot_of, slot_count}
use Rattle.lease_words.specs.Leases.{Each}
use Rattle.lease_words.specs.Views.{base_of, engine_session, heard_of, library_session}
use Rattle.lease_words.specs.Facts.{Lane, Session, IsSession, EngineFits, LibraryFits}

-- the sessions, the beats of each library, and which seat is the engine's and which each library's
pub record Truth : Type 0 where
  pub sessions : ℕ → Session
  pub beats : ℕ → ℕ
  pub engine : ℕ
  pub libraries : ℕ → ℕ

-- the limits of a table
pub record IsShape (k : Shape) : Type 0 where
  pub sessions : k.sessions ≤ 64
  pub libraries : k.libraries ≤ MOST_LIBRARIES
  pub some_depth : 1 ≤ k.depth
  pub depth : k.depth ≤ LANE_SLOTS
  pub some_sends : 1 ≤ k.sends
  pub sends : k.sends < 2 ^ 32

-- the words are those of what is so
pub record WordsFit (k : Shape) (words : List ℕ) (t : Truth) : Type 0 where
  pub count : length words ≡ word_count k.sessions k.libraries
  pub unused : slice_index_or words 0 0 ≡ 0
  pub leases : (s : ℕ) → s < k.sessions → word_in (slice_index_or words (lease_word s) 0) ≡ word_of (t.sessions s).lines
  pub published : (s : ℕ) → s < k.sessions → slice_index_or words (published_word s) 0 ≡ (t.sessions s).published
  pub taken : (s library : ℕ) → s < k.sessions → 1 ≤ library → library ≤ k.libraries → slice_index_or words (taken_word s library) 0 ≡ ((t.sessions s).lanes library).taken
  pub beats : (library : ℕ) → 1 ≤ library → library ≤ k.libraries → slice_index_or words (beat_word k.sessions library) 0 ≡ t.beats library

-- The slots from taken to committed are at home and hold the items in order, but the first while it is being taken, and all others are at
-- home and empty, but the next one while it is being filled.
pub record SlotsFit (k : Shape) (homes : List (place.Option (Option Item))) (s library : ℕ) (lane : Lane) : Type 0 where
  pub filled : (p : ℕ) (x : Item) → lane.taken + lane.emptying ≤ p → get_elem? lane.items p ≡ some x → get_elem? homes (slot_of k.libraries s library p) ≡ some (some (Some x))
  pub vacant : (p : ℕ) → length lane.items + lane.filling ≤ p → p < lane.taken + LANE_SLOTS → get_elem? homes (slot_of k.libraries s library p) ≡ some (some None)

-- what the engine knows is so, and its seat is this one
pub record EngineKnowsSo (k : Shape) (t : Truth) (seat : ℕ) (e : EngineKnows) : Type 0 where
  pub here : t.engine ≡ seat
  pub count : length e.sessions ≡ k.sessions
  pub sessions : (s : ℕ) → s < k.sessions → EngineFits k.libraries (base_of k s) e.taking s (t.sessions s) (engine_session e s)
  pub beats : length e.beats ≡ k.libraries
  pub heard : (library : ℕ) → 1 ≤ library → library ≤ k.libraries → (heard_of e library).count ≤ t.beats library

-- and what a library knows
pub record LibraryKnowsSo (k : Shape) (t : Truth) (seat : ℕ) (l : LibraryKnows) : Type 0 where
  pub from_one : 1 ≤ l.number
  pub to_last : l.number ≤ k.libraries
  pub here : t.libraries l.number ≡ seat
  pub beats : l.beats ≡ t.beats l.number
  pub count : length l.sessions ≡ k.sessions
  pub sessions : (s : ℕ) → s < k.sessions → LibraryFits k.sends l.number l.sending s (t.sessions s) (library_session l s)

-- no two of them are one library
abbrev pub AreApart : List LibraryKnows → Type 0
AreApart [] = Unit {0}
AreApart (l ∷ ls) = Each (λ (m : LibraryKnows). m.number ≢ l.number) ls × AreApart ls

-- all that a seat knows is so
pub record KnowsSo (k : Shape) (t : Truth) (seat : ℕ) (v : View) : Type 0 where
  pub engine : v.engine ≡ true → EngineKnowsSo k t seat v.knows
  pub libraries : Each (LibraryKnowsSo k t seat) v.libraries
  pub apart : AreApart v.libraries

-- the rule of a table of this shape
pub record Ruled (k : Shape) (s : State (Option Item) View) : Type 0 where
  pub truth : Truth
  pub shape : IsShape k
  pub sessions : (i : ℕ) → i < k.sessions → IsSession (base_of k i) k.libraries k.depth (truth.sessions i)
  pub words : WordsFit k s.words truth
  pub slots : length s.homes ≡ slot_count k.sessions k.libraries
  pub lanes : (i library : ℕ) → i < k.sessions → 1 ≤ library → library ≤ k.libraries → SlotsFit k s.homes i library ((truth.sessions i).lanes library)
  pub views : (seat : ℕ) (v : View) → get_elem? s.views seat ≡ some v → KnowsSo k truth seat v
