-- What a library asked and was told, and what the journals have of it.
use Rattle.std.specs.Prelude.{◌≡◌, ℕ, ◌-◌, ◌<◌, ◌≤◌, ◌==◌, nat_le, Bool, true, false, if◌then◌else◌, List, [], ◌∷◌, ◌++◌, length, slice_get, Some}
use Rattle.std.specs.List.{flat_map}
use Rattle.lease_core.specs.declared.entry.Entry.{Entry}
use Rattle.lease_core.specs.declared.entry.Entry.TheVariants as entry
use Rattle.lease_core.specs.declared.entry.Why.TheVariants.{UnknownSession}
use Rattle.lease_core.specs.declared.messages.Command.{Command}
use Rattle.lease_core.specs.declared.messages.Command.TheVariants.{Done, Request}
use Rattle.lease_core.specs.declared.messages.Notice.{Notice}
use Rattle.lease_core.specs.declared.messages.Notice.TheVariants.{Granted, Message, Refused}
use Rattle.library_desk.specs.declared.desk.LibraryDesk.{LibraryDesk}
use Rattle.library_desk.specs.declared.desk.Stray.{Stray}
use Rattle.library_desk.specs.declared.ends.EngineEnds.{EngineEnds}
use Rattle.switchboard.specs.Board.{Board, book_at}
use Rattle.switchboard.specs.Happenings.{Happening, requests}

-- a request: its number, and the session that was asked for
pub record Ask : Type 0 where
  pub nr : ℕ
  pub s : ℕ

-- what a command asks for
abbrev pub asked_by : Command → List Ask
asked_by (Request nr s from) = record { nr = nr; s = s } ∷ []
asked_by (Done finished) = []

-- which request a notice answers
abbrev pub answered_by : Notice → List Ask
answered_by (Granted nr s lease from start) = record { nr = nr; s = s } ∷ []
answered_by (Refused nr s why) = record { nr = nr; s = s } ∷ []
answered_by (Message s lease pos bytes) = []

-- the notice, where it is a reply of this session
abbrev pub reply_of : ℕ → Notice → List Notice
reply_of s (Granted nr t lease from start) = if t == s then Granted nr t lease from start ∷ [] else []
reply_of s (Refused nr t why) = if t == s then Refused nr t why ∷ [] else []
reply_of s (Message t lease pos bytes) = []

-- and where it is one of none of so many sessions
abbrev pub stray_reply : ℕ → Notice → List Notice
stray_reply count (Granted nr t lease from start) = if nat_le count t then Granted nr t lease from start ∷ [] else []
stray_reply count (Refused nr t why) = if nat_le count t then Refused nr t why ∷ [] else []
stray_reply count (Message t lease pos bytes) = []

-- the reply to this library that an entry of session s tells
abbrev pub reply_told : ℕ → ℕ → Entry → List Notice
reply_told library s (entry.Granted owner nr lease from start) = if owner == library then Granted nr s lease from start ∷ [] else []
reply_told library s (entry.Refused owner nr why) = if owner == library then Refused nr s why ∷ [] else []
reply_told library s _ = []

-- and that a stray tells
abbrev pub stray_told : ℕ → Stray → List Notice
stray_told library stray = if stray.library == library then Refused stray.nr stray.s (UnknownSession stray.s) ∷ [] else []

-- the replies to this library that a journal of session s tells, in order
abbrev pub replies_told : ℕ → ℕ → List Entry → List Notice
replies_told library s entries = flat_map (reply_told library s) entries

-- Each request that was popped of this library is answered, once and in order. The replies of each session are those that its journal tells behind the
-- entries before, in order, and those of no session are the strays.
pub record IsAnswered (before : ℕ → List Entry) (board : Board) (strays : List Stray) (library : ℕ) (e : EngineEnds) : Type 0 where
  pub each : flat_map answered_by e.tail.pushed ≡ flat_map asked_by e.head.popped
  pub told : (s : ℕ) → s < length board.sessions → replies_told library s (book_at board s).entries ≡ replies_told library s (before s) ++ flat_map (reply_of s) e.tail.pushed
  pub strays_are : flat_map (stray_told library) strays ≡ flat_map (stray_reply (length board.sessions)) e.tail.pushed

-- and so it is of each library
abbrev pub AllAreAnswered : (ℕ → List Entry) → Board → List Stray → List EngineEnds → Type 0
AllAreAnswered before board strays ends = (library : ℕ) (e : EngineEnds) → 1 ≤ library → slice_get ends (library - 1) ≡ Some e → IsAnswered before board strays library e

abbrev pub AreAnswered : (ℕ → List Entry) → LibraryDesk → Type 0
AreAnswered before d = AllAreAnswered before d.desk.board d.strays.items d.ends.items

-- no library asks for a session by it
abbrev pub is_unasked : Happening → Bool
is_unasked (requests s library nr from) = false
is_unasked _ = true

-- as many sessions, whose journals tell the same replies
pub record KeepsReplies (old new : Board) : Type 0 where
  pub sessions : length new.sessions ≡ length old.sessions
  pub told : (library s : ℕ) → replies_told library s (book_at new s).entries ≡ replies_told library s (book_at old s).entries
