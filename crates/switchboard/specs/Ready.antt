-- What holds of sessions and connections behind whatever happened, and all that the calls ask follows from.
use Rattle.std.specs.Prelude.{◌≡◌, ◌≢◌, ℕ, ◌<◌, length, List, [], ◌++◌, None, Some}
use Rattle.connection_core.specs.Outgoing.{no_outgoing}
use Rattle.lease_core.specs.declared.entry.Entry.{Entry}
use Rattle.session_core.specs.declared.phases.Phase.TheVariants.{Off}
use Rattle.session_book.specs.Texts.{IsTextOf}
use Rattle.switchboard.specs.Board.{Board, book_at, connection_at, names_at, place_at}
use Rattle.switchboard.specs.Sound.{IsLawful, IsSound, bound_of}

-- the entries go on from those before
pub record GoOnFrom (before entries : List Entry) : Type 0 where
  pub added : List Entry
  pub are : entries ≡ before ++ added

-- what is written on the connection at place k begins the outbound text that the journal of session s tells of it
abbrev pub HasTextOf : (ℕ → List Entry) → Board → ℕ → ℕ → Type 0
HasTextOf before board s k = IsTextOf (names_at board s) (before s) (connection_at board k).number (book_at board s) (connection_at board k).out.outgoing

-- A board behind a run that began where each session had the entries before.
pub record IsReady (before : ℕ → List Entry) (board : Board) : Type 0 where
  pub sound : IsSound board
  pub books : (s : ℕ) → s < length board.sessions → IsLawful (book_at board s)
  pub entries : (s : ℕ) → s < length board.sessions → GoOnFrom (before s) (book_at board s).entries
  -- a session that is bound has asked for a Logon, or answered one
  pub on : (s k : ℕ) → s < length board.sessions → place_at board s ≡ Some k → (book_at board s).machine.phase ≢ Off
  -- each session that a connection names is there
  pub named : (s k : ℕ) → k < length board.connections → (connection_at board k).session ≡ Some s → s < length board.sessions
  pub numbers : (j k : ℕ) → j < length board.connections → k < length board.connections → (connection_at board j).number ≡ (connection_at board k).number → j ≡ k
  pub texts : (s k : ℕ) → k < length board.connections → (connection_at board k).session ≡ Some s → HasTextOf before board s k
  pub silent : (k : ℕ) → k < length board.connections → (connection_at board k).session ≡ None → (connection_at board k).out.outgoing ≡ no_outgoing

-- the entries that each session has
abbrev pub entries_of : Board → ℕ → List Entry
entries_of board s = (book_at board s).entries

-- A board as a run begins: there is no connection yet, and each session has the entries before, which bind it to none.
pub record IsFirst (before : ℕ → List Entry) (board : Board) : Type 0 where
  pub connections : board.connections ≡ []
  pub places : length board.places ≡ length board.sessions
  pub unplaced : (s : ℕ) → s < length board.sessions → place_at board s ≡ None
  pub unbound : (s : ℕ) → s < length board.sessions → bound_of (book_at board s) ≡ None
  pub books : (s : ℕ) → s < length board.sessions → IsLawful (book_at board s)
  pub entries : (s : ℕ) → s < length board.sessions → (book_at board s).entries ≡ before s
