-- The lines of leases that a journal comes to, the word that they stand for, and what a word adds to a journal.
use Rattle.std.specs.Prelude.{◌≡◌, ℕ, zero, suc, ◌+◌, ◌-◌, ◌<◌, ◌≤◌, ◌==◌, ◌&&◌, ◌⊎◌, nat_lt, nat_le, Bool, true, false, if◌then◌else◌, List, [], ◌∷◌, ◌++◌, length, map, slice_get, Some}
use Rattle.lease_core.specs.declared.entry.Entry.{Entry}
use Rattle.lease_core.specs.declared.entry.Entry.TheVariants.{Granted, Send, Release, Timeout}
use Rattle.lease_core.specs.declared.lease.Ending.{Ending}
use Rattle.lease_core.specs.declared.lease.Ending.TheVariants.{Running, GivenBack, TakenBack}
use Rattle.lease_core.specs.declared.lease.Lease.{Lease}
use Rattle.lease_core.specs.declared.lease.Line.{Line}
use Rattle.lease_core.specs.declared.messages.Reply.{Reply}
use Rattle.lease_core.specs.declared.messages.Reply.TheVariants.{Granted as ToGranted, Refused as ToRefused}
use Rattle.lease_core.specs.declared.word.Standing.{Standing}
use Rattle.lease_core.specs.declared.word.Standing.TheVariants.{Active, Released, Revoked}
use Rattle.lease_core.specs.declared.word.Word.{Word}
use Rattle.lease_core.specs.State.{state_of, with_last, last_or, last_lease, owner_of, owner_in, lease_of, heir_in}
use Rattle.lease_core.specs.Steps.{send_entry, release_entry, timeout_entry, hold_entry}
use Rattle.lease_core.specs.Runs.{owes_hold}

abbrev pub line_of : Lease → Line
line_of l = record { library = l.library; sends = l.sends; ending = l.ending }

-- lease k stands at place k, from 1
abbrev pub lines_of : List Entry → List Line
lines_of entries = map line_of (state_of entries).leases

abbrev pub no_line : Line
no_line = record { library = 0; sends = 0; ending = Running }

-- the line of the last lease
abbrev pub last_line : List Line → Line
last_line lines = last_or no_line lines

abbrev pub standing_of : Ending → Standing
standing_of Running = Active
standing_of (GivenBack heir) = Released
standing_of TakenBack = Revoked

-- the heir where there is one, else the lease's library
abbrev pub shown_owner : Ending → ℕ → ℕ
shown_owner ending library = if heir_in ending == 0 then library else heir_in ending

-- the word that a line stands for as the last one
abbrev pub word_by : ℕ → Line → Word
word_by lease l = record { lease = lease; owner = shown_owner l.ending l.library; standing = standing_of l.ending; count = l.sends }

-- The word of the last line. Without lines it names lease 0, owner 0, active, with count 0.
abbrev pub word_of : List Line → Word
word_of lines = word_by (length lines) (last_line lines)

-- what a line shows of a word that names it
abbrev pub FitsLine : Standing → ℕ → ℕ → Line → Type 0
FitsLine Active owner count l = (owner ≡ l.library) × (count ≤ l.sends)
FitsLine Released owner count l = (standing_of l.ending ≡ Released) × (count ≡ l.sends) × (owner ≡ shown_owner l.ending l.library)
FitsLine Revoked owner count l = (l.ending ≡ TakenBack) × (count ≡ l.sends) × (owner ≡ l.library)

pub record IsShownBy (lines : List Line) (w : Word) (l : Line) : Type 0 where
  pub lease : 0 < w.lease
  pub line : slice_get lines (w.lease - 1) ≡ Some l
  pub fits : FitsLine w.standing w.owner w.count l

abbrev pub opening_word : Word
opening_word = record { lease = 0; owner = 0; standing = Active; count = 0 }

-- the word stood there at some time, as far as the lines tell
abbrev pub IsShown : List Line → Word → Type 0
IsShown lines w = (w ≡ opening_word) ⊎ ((l : Line) × IsShownBy lines w l)

-- the heir that a released word names to the library that gave the session back, or 0
abbrev pub heir_named : ℕ → ℕ → ℕ
heir_named owner library = if owner == library then 0 else owner

-- one send more
abbrev pub entries_after_send : List Entry → List Entry
entries_after_send entries = entries ++ send_entry (state_of entries) ∷ []

-- so many sends more
abbrev pub entries_after_sends : ℕ → List Entry → List Entry
entries_after_sends zero entries = entries
entries_after_sends (suc n) entries = entries_after_send (entries_after_sends n entries)

-- the library gave the session back, to whom the word's owner says
abbrev pub entries_after_release : ℕ → List Entry → List Entry
entries_after_release owner entries = let s = state_of entries in entries ++ release_entry s (heir_named owner (last_lease s.leases).library) ∷ []

abbrev pub entries_after_standing : Standing → ℕ → List Entry → List Entry
entries_after_standing Released owner entries = entries_after_release owner entries
entries_after_standing _ owner entries = entries

abbrev pub is_released : Standing → Bool
is_released Released = true
is_released _ = false

-- the word names the last lease, that one is active, and the word's count isn't below its sends
abbrev pub is_news : List Entry → Word → Bool
is_news entries w = let s = state_of entries in (w.lease == lease_of s) && nat_lt 0 (owner_of s) && nat_le (last_lease s.leases).sends w.count

-- how many sends the word shows that are missing
abbrev pub news_count : List Entry → Word → ℕ
news_count entries w = w.count - (last_lease (state_of entries).leases).sends

-- the journal with the sends and the release that the word shows
unfoldable pub entries_after_word : List Entry → Word → List Entry
entries_after_word entries w = if is_news entries w then entries_after_standing w.standing w.owner (entries_after_sends (news_count entries w) entries) else entries

-- a hold follows directly behind a release with an heir
abbrev pub entries_after_hold : ℕ → List Entry → List Entry
entries_after_hold until entries = let s = state_of entries in if owes_hold s.latest then entries ++ hold_entry s until ∷ [] else entries

-- the engine takes the session back where the word was still active
abbrev pub entries_after_timeout : Standing → List Entry → List Entry
entries_after_timeout Active entries = entries ++ timeout_entry (state_of entries) ∷ []
entries_after_timeout _ entries = entries

abbrev pub ending_by : Standing → ℕ → ℕ → Ending → Ending
ending_by Released owner library ending = GivenBack (heir_named owner library)
ending_by _ owner library ending = ending

abbrev pub raised_line : Word → Line → Line
raised_line w l = record l { sends = w.count; ending = ending_by w.standing w.owner l.library l.ending }

-- the word names the last line, that one is active, and the word's count isn't below its sends
abbrev pub raises : List Line → Word → Bool
raises lines w = let l = last_line lines in (w.lease == length lines) && nat_lt 0 (owner_in l.ending l.library) && nat_le l.sends w.count

-- how many sends the word shows that the last line lacks
abbrev pub missing_sends : List Line → Word → ℕ
missing_sends lines w = w.count - (last_line lines).sends

-- the lines with what the word shows
unfoldable pub raised : List Line → Word → List Line
raised lines w = if raises lines w then with_last (raised_line w) lines else lines

abbrev pub taken_back_line : Line → Line
taken_back_line l = record l { ending = TakenBack }

-- the engine took the session back where the word was still active
abbrev pub taken_back : Standing → List Line → List Line
taken_back Active lines = with_last taken_back_line lines
taken_back _ lines = lines

-- a library got the session
abbrev pub granted_line : ℕ → Line
granted_line library = record { library = library; sends = 0; ending = Running }

abbrev pub line_with_send : Line → Line
line_with_send l = record l { sends = l.sends + 1 }

abbrev pub line_with_ending : Ending → Line → Line
line_with_ending ending l = record l { ending = ending }

-- with one entry more
abbrev pub lines_after : List Line → Entry → List Line
lines_after lines (Granted library nr lease from start) = lines ++ granted_line library ∷ []
lines_after lines (Send lease library ordinal number) = with_last line_with_send lines
lines_after lines (Release lease library count heir) = with_last (line_with_ending (GivenBack heir)) lines
lines_after lines (Timeout lease library count) = with_last (line_with_ending TakenBack) lines
lines_after lines _ = lines

-- with one more where a request was granted
abbrev pub lines_after_reply : List Line → ℕ → Reply → List Line
lines_after_reply lines library (ToGranted lease start) = lines ++ granted_line library ∷ []
lines_after_reply lines library (ToRefused why) = lines
