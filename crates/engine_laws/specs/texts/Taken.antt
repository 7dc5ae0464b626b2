-- What connections took of their outbound texts, and what may keep one from taking its text whole.
use Rattle.std.specs.Prelude.{◌≡◌, ◌≢◌, ℕ, ◌+◌, ◌^◌, ◌<◌, ◌≤◌, ◌⊎◌, false, true, List, [], ◌++◌, length, take, Option, None, Some}
use Rattle.std.specs.List.{Contains}
use Rattle.connection_core.specs.Connection.{ConnectionState}
use Rattle.connection_core.specs.Items.{text_of}
use Rattle.connection_core.specs.Outgoing.{Outgoing, waiting_text, written_text}
use Rattle.connection_core.specs.declared.limits.TheConstants.{MOST_WRITTEN}
use Rattle.engine_loop.specs.Turns.{AtWire}
use Rattle.fix_frame.specs.Frame.{frame_of}
use Rattle.gate_io.specs.Counts.{HasRisen}
use Rattle.gate_io.specs.Wire.{Link}
use Rattle.lease_core.specs.declared.entry.Entry.{Entry}
use Rattle.session_book.specs.Spells.{spell_items}
use Rattle.session_book.specs.Texts.{outbound_text}
use Rattle.switchboard.specs.Board.{Board, book_at, connection_at, names_at}
use Rattle.switchboard.specs.Ready.{HasTextOf}

-- All that was queued is written: of what has text nothing waits, and no item is without text.
pub record IsAllWritten (out : Outgoing) : Type 0 where
  pub none_waits : waiting_text out ≡ []
  pub none_unmade : out.unmade ≡ []

-- the bytes are those of one frame, of a body whose bytes can be counted
pub record IsOneFrame (bytes : List ℕ) : Type 0 where
  pub body : List ℕ
  pub short : length body < 2 ^ 64
  pub are : bytes ≡ frame_of body

-- One item alone has text, the first, and that is written.
pub record IsFirstWritten (out : Outgoing) : Type 0 where
  pub none_waits : waiting_text out ≡ []
  pub first : IsOneFrame out.text

-- A connection took its text whole. Of a dialled one whose Logon wasn't answered that is the text of its first item: no other is handed out before.
abbrev pub TookItsText : ConnectionState → Type 0
TookItsText c = IsAllWritten c.out.outgoing ⊎ ((c.answered ≡ false) × IsFirstWritten c.out.outgoing)

-- bytes wait, or items that have no text
abbrev pub IsLeft : Outgoing → Type 0
IsLeft out = 0 < length (waiting_text out) + length out.unmade

-- In a turn the wire counted that a write of the connection failed or was blocked, or more waited on it than a turn writes at most: so much was written, and some is left.
abbrev pub IsCutShortIn : Link → Link → ConnectionState → ConnectionState → Type 0
IsCutShortIn link_old link_new old new =
    HasRisen link_old.write_faults link_new.write_faults
    ⊎ (HasRisen link_old.write_blocks link_new.write_blocks ⊎ ((old.out.outgoing.written + MOST_WRITTEN ≤ new.out.outgoing.written) × IsLeft new.out.outgoing))

-- From here to there a connection was written to, and took its text, or its writing was cut short.
abbrev pub IsWrittenIn : AtWire → AtWire → ℕ → Type 0
IsWrittenIn old new k =
    let before = connection_at old.engine.sessions.desk.board k in
    let after = connection_at new.engine.sessions.desk.board k in
    TookItsText after ⊎ IsCutShortIn (old.links before.number) (new.links before.number) before after

-- It had ended, and nothing changes of it.
pub record RestsIn (old new : AtWire) (k : ℕ) : Type 0 where
  pub within : k < length old.engine.sessions.desk.board.connections
  pub ended : (connection_at old.engine.sessions.desk.board k).cause ≢ None
  pub stays : connection_at new.engine.sessions.desk.board k ≡ connection_at old.engine.sessions.desk.board k
  pub link : new.links (connection_at old.engine.sessions.desk.board k).number ≡ old.links (connection_at old.engine.sessions.desk.board k).number

-- At some time the wire counted such a write, or at least so much is written on it, and some is left.
abbrev pub IsCutShort : Link → ConnectionState → Type 0
IsCutShort link c = (0 < link.write_faults) ⊎ ((0 < link.write_blocks) ⊎ ((MOST_WRITTEN ≤ c.out.outgoing.written) × IsLeft c.out.outgoing))

-- no item has text, or the first alone
abbrev pub HasOneTextAtMost : Outgoing → Type 0
HasOneTextAtMost out = (out.text ≡ []) ⊎ IsOneFrame out.text

-- until its Logon is answered no more is handed out of a dialled connection
abbrev pub FirstsComeAlone : Board → Type 0
FirstsComeAlone board = (k : ℕ) → k < length board.connections → (connection_at board k).answered ≡ false → HasOneTextAtMost (connection_at board k).out.outgoing

-- it took its text, or its writing was cut short
abbrev pub TookOrCutShort : (ℕ → Link) → ConnectionState → Type 0
TookOrCutShort links c = TookItsText c ⊎ IsCutShort (links c.number) c

-- Each connection that has ended took its text, or its writing was cut short.
pub record TookTheirTexts (board : Board) (links : ℕ → Link) : Type 0 where
  pub firsts : FirstsComeAlone board
  pub ended : (k : ℕ) → k < length board.connections → (connection_at board k).cause ≢ None → TookOrCutShort links (connection_at board k)

-- The same in the middle of a turn, but for the connections at these places, which are still to be written to.
pub record TookTheirTextsSoFar (board : Board) (places : List ℕ) (links : ℕ → Link) : Type 0 where
  pub firsts : FirstsComeAlone board
  pub ended : (k : ℕ) → k < length board.connections → (connection_at board k).cause ≢ None → Contains places k ⊎ TookOrCutShort links (connection_at board k)

-- What is written on the connection at place k is the whole outbound text that the journal of session s tells of it.
pub record IsWholeText (before : ℕ → List Entry) (board : Board) (s k : ℕ) : Type 0 where
  pub told : HasTextOf before board s k
  pub whole : written_text (connection_at board k).out.outgoing ≡ outbound_text (names_at board s) (book_at board s).outbound told.spell

-- It is the text of its first item.
pub record IsFirstOfText (before : ℕ → List Entry) (board : Board) (s k : ℕ) : Type 0 where
  pub told : HasTextOf before board s k
  pub first : written_text (connection_at board k).out.outgoing ≡ text_of (names_at board s) (book_at board s).outbound (take 1 (spell_items (book_at board s).outbound told.spell))

-- What is written begins the text of its first item.
pub record BeginsFirstOfText (before : ℕ → List Entry) (board : Board) (s k : ℕ) : Type 0 where
  pub told : HasTextOf before board s k
  pub rest : List ℕ
  pub begins : text_of (names_at board s) (book_at board s).outbound (take 1 (spell_items (book_at board s).outbound told.spell)) ≡ written_text (connection_at board k).out.outgoing ++ rest

-- By this text that the journal of session s tells: where the Logon of the connection at place k wasn't answered, what is written begins the text of its first
-- item, and where it has ended it is that, or its writing was cut short; and where the Logon was answered and it has ended, it is the whole text, or was cut short.
pub record TookAsAnswered (before : ℕ → List Entry) (board : Board) (links : ℕ → Link) (s k : ℕ) (told : HasTextOf before board s k) : Type 0 where
  pub begins : (connection_at board k).answered ≡ false
      → (rest : List ℕ) × (text_of (names_at board s) (book_at board s).outbound (take 1 (spell_items (book_at board s).outbound told.spell)) ≡ written_text (connection_at board k).out.outgoing ++ rest)
  pub first : (connection_at board k).answered ≡ false → (connection_at board k).cause ≢ None
      → (written_text (connection_at board k).out.outgoing ≡ text_of (names_at board s) (book_at board s).outbound (take 1 (spell_items (book_at board s).outbound told.spell))) ⊎ IsCutShort (links (connection_at board k).number) (connection_at board k)
  pub whole : (connection_at board k).answered ≡ true → (connection_at board k).cause ≢ None
      → (written_text (connection_at board k).out.outgoing ≡ outbound_text (names_at board s) (book_at board s).outbound told.spell) ⊎ IsCutShort (links (connection_at board k).number) (connection_at board k)

-- The connection took its text, in the words of the journal. Where it names no session there is none.
abbrev pub TookTextOf : (ℕ → List Entry) → Board → ℕ → Option ℕ → Type 0
TookTextOf before board k None = written_text (connection_at board k).out.outgoing ≡ []
TookTextOf before board k (Some s) = IsWholeText before board s k ⊎ (((connection_at board k).answered ≡ false) × IsFirstOfText before board s k)
