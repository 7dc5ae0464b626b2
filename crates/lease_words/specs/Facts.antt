-- What is so of each session, and what seats know of it.
-- No value of these records is kept anywhere: the rule of a table says that there are some.
use Rattle.std.specs.Prelude.{◌≡◌, ◌≢◌, ℕ, suc, ◌+◌, ◌≤◌, ◌⊎◌, ◌==◌, Bool, if◌then◌else◌, List, [], ◌∷◌, ◌++◌, length}
use mathlib.Core.List.{IsPrefix}
use Rattle.lease_core.specs.declared.lease.Ending.TheVariants.{Running, GivenBack}
use Rattle.lease_core.specs.declared.lease.Line.{Line}
use Rattle.lease_core.specs.Lines.{IsShown}
use Rattle.lease_words.specs.declared.item.Item.{Item}
use Rattle.lease_words.specs.declared.view.LibraryLease.{LibraryLease}
use Rattle.lease_words.specs.declared.view.EngineSession.{EngineSession}
use Rattle.lease_words.specs.declared.view.LibrarySession.{LibrarySession}
use Rattle.lease_words.specs.Layout.{lane_of}
use Rattle.lease_words.specs.Leases.{Each, Stands, OthersRest, FirstRuns, AreLines, held_count, total}
use Rattle.lease_words.specs.Views.{taken_of, granted_lines, shown_sends, last_library}

-- A lane: the library's leases and the items that it sent, how many of these were taken, and how many slots are out with either seat
pub record Lane : Type 0 where
  pub leases : List LibraryLease
  pub items : List Item
  pub taken : ℕ
  pub filling : ℕ
  pub emptying : ℕ

-- A session: the lines of its leases, the lines that the engine has seen, the count that it published, and a lane for each library
pub record Session : Type 0 where
  pub lines : List Line
  pub shown : List Line
  pub published : ℕ
  pub lanes : ℕ → Lane

-- the last line went on running since the engine looked
pub record HasGoneOn (shown lines : List Line) : Type 0 where
  pub front : List Line
  pub was : Line
  pub now : Line
  pub before : shown ≡ front ++ was ∷ []
  pub after : lines ≡ front ++ now ∷ []
  pub whose : now.library ≡ was.library
  pub ran : was.ending ≡ Running
  pub more : was.sends ≤ now.sends
  pub kept_or_given : (now.ending ≡ Running) ⊎ ((heir : ℕ) × (now.ending ≡ GivenBack heir))

-- The engine's lines are the session's, or the last one has gone on since.
abbrev pub Follows : List Line → List Line → Type 0
Follows shown lines = (shown ≡ lines) ⊎ HasGoneOn shown lines

-- what is so of a lane
pub record IsLane (base depth : ℕ) (lines : List Line) (library : ℕ) (lane : Lane) : Type 0 where
  pub stands : Each (Stands base lines library) lane.leases
  pub latest : FirstRuns lane.leases
  pub others : OthersRest base lines library lane.leases
  pub all : length lane.items ≡ total library (granted_lines base lines)
  pub behind : lane.taken + lane.emptying ≤ length lane.items
  pub within : length lane.items + lane.filling ≤ lane.taken + depth

-- and of a session
pub record IsSession (base libraries depth : ℕ) (t : Session) : Type 0 where
  pub are_lines : AreLines base libraries t.lines
  pub are_shown : AreLines base libraries t.shown
  pub follows : Follows t.shown t.lines
  pub lanes : (library : ℕ) → 1 ≤ library → library ≤ libraries → IsLane base depth t.lines library (t.lanes library)

-- 1 where the numbers are equal, and else 0
abbrev pub one_if : Bool → ℕ
one_if b = if b then 1 else 0

-- what the engine knows of a lane
pub record KnowsLane (libraries taking s library : ℕ) (lane : Lane) (taken : List Item) : Type 0 where
  pub begins : IsPrefix taken lane.items
  pub count : length taken ≡ lane.taken + lane.emptying
  pub out : lane.emptying ≡ one_if (taking == suc (lane_of libraries s library))

-- Of each library all that the lines show was taken, but of the last lease's some may not be yet.
abbrev pub OthersTaken : ℕ → EngineSession → Type 0
OthersTaken libraries es = (library : ℕ) → 1 ≤ library → library ≤ libraries → (length (taken_of es library) ≤ shown_sends es library) × (library ≢ last_library es → length (taken_of es library) ≡ shown_sends es library)

-- and of a whole session
pub record EngineFits (libraries base taking s : ℕ) (t : Session) (es : EngineSession) : Type 0 where
  pub based : es.base ≡ base
  pub lines : es.lines ≡ t.shown
  pub words : Each (IsShown t.lines) es.words
  pub published : es.published ≡ t.published
  pub count : length es.taken ≡ libraries
  pub lanes : (library : ℕ) → 1 ≤ library → library ≤ libraries → KnowsLane libraries taking s library (t.lanes library) (taken_of es library)
  pub untaken : OthersTaken libraries es

-- what a library knows of a session
pub record LibraryFits (sends library sending s : ℕ) (t : Session) (ls : LibrarySession) : Type 0 where
  pub leases : ls.leases ≡ (t.lanes library).leases
  pub items : ls.items ≡ (t.lanes library).items
  pub out : (t.lanes library).filling ≡ one_if (sending == suc s)
  pub words : Each (IsShown t.lines) ls.words
  pub taken : ls.taken ≤ (t.lanes library).taken
  pub published : ls.published ≤ t.published
  -- no lease made more sends than one can
  pub few : held_count ls.leases ≤ sends
