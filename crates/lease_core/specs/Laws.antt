-- What holds of every list of entries.
use Rattle.std.specs.Prelude.{◌≡◌, ℕ, ◌+◌, ◌^◌, ◌<◌, ◌≤◌, ◌↔◌, ◌⊎◌, List, [], ◌∷◌, ◌++◌, length, fold}
use Rattle.lease_core.specs.declared.entry.Entry.{Entry}
use Rattle.lease_core.specs.declared.lease.Ending.TheVariants.{Running}
use Rattle.lease_core.specs.declared.lease.Lease.{Lease}
use Rattle.lease_core.specs.declared.lease.Line.{Line}
use Rattle.lease_core.specs.declared.limits.TheConstants.{MOST_LIBRARIES}
use Rattle.lease_core.specs.declared.messages.Reply.TheVariants.{Granted as ToGranted}
use Rattle.lease_core.specs.declared.word.Standing.{Standing}
use Rattle.lease_core.specs.declared.word.Word.{Word}
use Rattle.lease_core.specs.State.{state_of, state_after, owner_of, lease_of, with_last, last_or}
use Rattle.lease_core.specs.Runs.{IsNext, IsRun, IsRunFrom}
use Rattle.lease_core.specs.Lines.{lines_of, lines_after, entries_after_word, raised, entries_after_hold, entries_after_timeout, last_line, taken_back, word_of, IsShown}
use Rattle.lease_core.specs.Showable.{IsShowable, IsOwned, CanTimeOut, owner_by}
use Rattle.lease_core.specs.Deeds.{deeds_of, deeds_told, deeds_told_of, deeds_of_library}
use Rattle.lease_core.specs.Steps.{IsActive, IsLibrary, reply_to}
use Rattle.lease_core.specs.Word.{number_of, word_in, HasBothFlags}
use Rattle.lease_core.specs.Holdings.{holdings_of, AreAdjoining}

-- the holdings of a lawful journal cut its inbound log into adjoining spans
abbrev pub HoldingsAdjoin : Type 0
HoldingsAdjoin = (limit : ℕ) (entries : List Entry) → IsRun limit entries → AreAdjoining (holdings_of entries) (state_of entries).inbound

-- each lease but the last has ended
abbrev pub OnlyLastRuns : List Lease → Type 0
OnlyLastRuns [] = Unit {0}
OnlyLastRuns (l ∷ ls) = ((ls ≡ []) ⊎ (l.ending ≡ Running → ⊥)) × OnlyLastRuns ls

-- a session has one owner at a time, and no more leases than it can have
abbrev pub OneOwner : Type 0
OneOwner = (limit : ℕ) (entries : List Entry) → IsRun limit entries → OnlyLastRuns (state_of entries).leases × (length (state_of entries).leases ≤ limit)

-- a word adds to the lines what it adds to the journal
abbrev pub LinesAreRaised : Type 0
LinesAreRaised = (entries : List Entry) (w : Word) → lines_of (entries_after_word entries w) ≡ raised (lines_of entries) w

-- a hold adds nothing to them
abbrev pub LinesAreHeld : Type 0
LinesAreHeld = (entries : List Entry) (until : ℕ) → lines_of (entries_after_hold until entries) ≡ lines_of entries

-- whoever has the session had it before, by the same lease
abbrev pub KeepsLease : List Line → List Line → Type 0
KeepsLease old new = 0 < owner_by new → (owner_by new ≡ owner_by old) × (length new ≡ length old)

-- so it is with what a word adds to the lines
abbrev pub RaisedLinesKeepLeases : Type 0
RaisedLinesKeepLeases = (lines : List Line) (w : Word) → KeepsLease lines (raised lines w)

-- and the engine's taking back ends the last one
abbrev pub LinesAreTakenBack : Type 0
LinesAreTakenBack = (entries : List Entry) (standing : Standing) → IsActive (state_of entries) → lines_of (entries_after_timeout standing entries) ≡ taken_back standing (lines_of entries)

-- the word that lines stand for is shown by them
abbrev pub WordsAreShown : Type 0
WordsAreShown = (lines : List Line) → IsShown lines (word_of lines)

-- The word that raised lines stand for can be shown to the registry whose lines they are raised from,
abbrev pub WordsAreShowable : Type 0
WordsAreShowable = (lines : List Line) (w : Word) → word_of (raised lines w) ≡ w → w.owner ≤ MOST_LIBRARIES → IsShowable lines w

-- also as the engine takes the session back
abbrev pub WordsCanTimeOut : Type 0
WordsCanTimeOut = (lines : List Line) (w : Word) → word_of (raised lines w) ≡ w → w.owner ≤ MOST_LIBRARIES → IsOwned lines → CanTimeOut lines w

-- a word that was written is read again
abbrev pub WordsAreRead : Type 0
WordsAreRead = (w : Word) → w.owner < 64 → w.count < 2 ^ 32 → word_in (number_of w) ≡ w

-- and a number that was read is written again, unless both flags are set in it
abbrev pub WordsAreWritten : Type 0
WordsAreWritten = (n : ℕ) → (HasBothFlags n → ⊥) → number_of (word_in n) ≡ n

-- a line that is put behind others is the last one
abbrev pub PushedIsLast : Type 0
PushedIsLast = (none : Line) (lines : List Line) (l : Line) → last_or none (lines ++ l ∷ []) ≡ l

-- and the one that changes as the last one changes
abbrev pub PushedIsChanged : Type 0
PushedIsChanged = (change : Line → Line) (lines : List Line) (l : Line) → with_last change (lines ++ l ∷ []) ≡ lines ++ change l ∷ []

-- the lines tell who has the session, and by which lease
abbrev pub LinesTellOwner : Type 0
LinesTellOwner = (entries : List Entry) → owner_by (lines_of entries) ≡ owner_of (state_of entries)

abbrev pub LinesTellLease : Type 0
LinesTellLease = (entries : List Entry) → length (lines_of entries) ≡ lease_of (state_of entries)

-- the lines with one entry more
abbrev pub LinesGoOn : Type 0
LinesGoOn = (entries : List Entry) (e : Entry) → lines_of (entries ++ e ∷ []) ≡ lines_after (lines_of entries) e

-- the last lease of a lawful journal is a library's
abbrev pub LeasesHaveLibraries : Type 0
LeasesHaveLibraries = (limit : ℕ) (entries : List Entry) → IsRun limit entries → 0 < length (lines_of entries) → IsLibrary (last_line (lines_of entries)).library

-- A request is granted only where no library has the session, a lease is left and the replay doesn't begin past the inbound log. The
-- lease is the next one.
pub record GrantsIn (limit : ℕ) (entries : List Entry) (from lease start : ℕ) : Type 0 where
  pub nobody : owner_by (lines_of entries) ≡ 0
  pub left : length (lines_of entries) < limit
  pub next : lease ≡ length (lines_of entries) + 1
  pub end : start ≡ (state_of entries).inbound
  pub within : from ≤ (state_of entries).inbound

abbrev pub GrantsFindNobody : Type 0
GrantsFindNobody = (limit : ℕ) (entries : List Entry) (library from lease start : ℕ) → IsRun limit entries
    → reply_to limit (state_of entries) library from ≡ ToGranted lease start → GrantsIn limit entries from lease start

-- and with a list of entries more
abbrev pub LinesGoOnOver : Type 0
LinesGoOnOver = (entries more : List Entry) → lines_of (entries ++ more) ≡ fold lines_after (lines_of entries) more

-- What was done by the leases of a lawful journal is what its lines tell, in order: each lease's sends, and then how it ended.
abbrev pub DeedsAreTold : Type 0
DeedsAreTold = (limit : ℕ) (entries : List Entry) → IsRun limit entries → deeds_of entries ≡ deeds_told 1 (lines_of entries)

-- and so it is for each library
abbrev pub LibraryDeedsAreTold : Type 0
LibraryDeedsAreTold = (limit : ℕ) (entries : List Entry) (library : ℕ) → IsRun limit entries → deeds_of_library library (deeds_of entries) ≡ deeds_told_of library 1 (lines_of entries)

-- what a journal comes to follows from the entries before its last one and from that one
abbrev pub EntriesDecide : Type 0
EntriesDecide = (entries : List Entry) (e : Entry) → state_of (entries ++ e ∷ []) ≡ state_after (state_of entries) e

-- and so does whether it is lawful
abbrev pub RunsGoOn : Type 0
RunsGoOn = (limit : ℕ) (entries : List Entry) (e : Entry) → IsRun limit (entries ++ e ∷ []) ↔ (IsRun limit entries × IsNext limit (state_of entries) e)

-- the same of a list of entries more
abbrev pub EntriesDecideOver : Type 0
EntriesDecideOver = (entries more : List Entry) → state_of (entries ++ more) ≡ fold state_after (state_of entries) more

abbrev pub RunsGoOnOver : Type 0
RunsGoOnOver = (limit : ℕ) (entries more : List Entry) → IsRun limit (entries ++ more) ↔ (IsRun limit entries × IsRunFrom limit (state_of entries) more)
