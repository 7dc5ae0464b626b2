-- The lines of a journal's entries: one row a kind.
use Rattle.std.specs.Prelude.{ℕ, ◌==◌, if◌then◌else◌, List, [], ◌∷◌, Option, Some, None, codes}
use Rattle.std.specs.Str.{bytes_eq}
use Rattle.fix_fields.specs.Options.{◌>>=◌}
use Rattle.lease_core.specs.declared.entry.Entry.{Entry}
use Rattle.lease_core.specs.declared.entry.Entry.TheVariants as entries
use Rattle.lease_core.specs.declared.entry.Why.{Why}
use Rattle.lease_core.specs.declared.entry.Why.TheVariants as causes
use Rattle.script_text.specs.Args.{keyword_at, later}
use Rattle.journal_audit.specs.declared.entry_lines.EntryWord.{EntryWord}
use Rattle.journal_audit.specs.declared.entry_lines.EntryWord.TheVariants as entry_word
use Rattle.journal_audit.specs.declared.entry_lines.WhyWord.{WhyWord}
use Rattle.journal_audit.specs.declared.entry_lines.WhyWord.TheVariants as why_word
use Rattle.journal_audit.specs.declared.entry_lines.Tally.{Tally}
use Rattle.journal_audit.specs.Words.{BYTE, HALF, WORD, LONG, number_at, number_to, named_to, stamp_at, ending}

-- behind so many words
abbrev pub behind2 : Option (List ℕ) → Option (List ℕ)
behind2 args = later (later args)

abbrev pub behind3 : Option (List ℕ) → Option (List ℕ)
behind3 args = later (behind2 args)

abbrev pub behind4 : Option (List ℕ) → Option (List ℕ)
behind4 args = behind2 (behind2 args)

abbrev pub behind6 : Option (List ℕ) → Option (List ℕ)
behind6 args = behind2 (behind4 args)

abbrev pub behind8 : Option (List ℕ) → Option (List ℕ)
behind8 args = behind2 (behind6 args)

unfoldable pub why_word_of : List ℕ → Option WhyWord
why_word_of word =
    if bytes_eq word (codes "unknown-session") then Some why_word.UnknownSession
    else (if bytes_eq word (codes "other-owner") then Some why_word.OtherOwner
    else (if bytes_eq word (codes "reserved") then Some why_word.Reserved
    else (if bytes_eq word (codes "leases-spent") then Some why_word.LeasesSpent
    else (if bytes_eq word (codes "missing-messages") then Some why_word.MissingMessages else None))))

-- what follows the cause's word
unfoldable pub why_line : WhyWord → Option (List ℕ) → Option Why
why_line why_word.UnknownSession args = number_to HALF args >>= λ s. ending (later args) (causes.UnknownSession s)
why_line why_word.OtherOwner args = number_to BYTE args >>= λ owner. number_to WORD (later args) >>= λ lease. ending (behind2 args) (causes.OtherOwner owner lease)
why_line why_word.Reserved args = number_to BYTE args >>= λ library. stamp_at (later args) >>= λ until. ending (behind2 args) (causes.Reserved library until)
why_line why_word.LeasesSpent args = number_to WORD args >>= λ lease. ending (later args) (causes.LeasesSpent lease)
why_line why_word.MissingMessages args = number_at args >>= λ asked. number_at (later args) >>= λ logged. ending (behind2 args) (causes.MissingMessages asked logged)

-- WHY, with which the line ends
unfoldable pub why_at : Option (List ℕ) → Option Why
why_at args = keyword_at args >>= λ word. why_word_of word >>= λ kind. why_line kind (later args)

-- LEASE LIBRARY COUNT
unfoldable pub tally_at : Option (List ℕ) → Option Tally
tally_at args =
    number_to WORD args >>= λ lease.
    number_to BYTE (later args) >>= λ library.
    number_to WORD (behind2 args) >>= λ count.
    Some (record { lease = lease; library = library; count = count })

-- BEGIN LAST STAMP
unfoldable pub plan_line : Option (List ℕ) → Option Entry
plan_line args =
    number_at args >>= λ begin.
    number_at (later args) >>= λ last.
    stamp_at (behind2 args) >>= λ at.
    ending (behind3 args) (entries.Plan begin last at)

-- LIBRARY NR lease LEASE from FROM start START
unfoldable pub granted_line : Option (List ℕ) → Option Entry
granted_line args =
    number_to BYTE args >>= λ library.
    number_to WORD (later args) >>= λ nr.
    named_to (codes "lease") WORD (behind2 args) >>= λ lease.
    named_to (codes "from") LONG (behind4 args) >>= λ from.
    named_to (codes "start") LONG (behind6 args) >>= λ start.
    ending (behind8 args) (entries.Granted library nr lease from start)

-- LIBRARY NR WHY
unfoldable pub refused_line : Option (List ℕ) → Option Entry
refused_line args =
    number_to BYTE args >>= λ library.
    number_to WORD (later args) >>= λ nr.
    why_at (behind2 args) >>= λ why.
    Some (entries.Refused library nr why)

-- LEASE LIBRARY ORDINAL NUMBER
unfoldable pub send_line : Option (List ℕ) → Option Entry
send_line args =
    tally_at args >>= λ tally.
    number_at (behind3 args) >>= λ number.
    ending (later (behind3 args)) (entries.Send tally.lease tally.library tally.count number)

-- LEASE LIBRARY COUNT
unfoldable pub release_line : Option (List ℕ) → Option Entry
release_line args = tally_at args >>= λ tally. ending (behind3 args) (entries.Release tally.lease tally.library tally.count 0)

-- LEASE LIBRARY COUNT HEIR: a release that names an heir
unfoldable pub hand_line : Option (List ℕ) → Option Entry
hand_line args =
    tally_at args >>= λ tally.
    number_to BYTE (behind3 args) >>= λ heir.
    if heir == 0 then None else ending (later (behind3 args)) (entries.Release tally.lease tally.library tally.count heir)

-- LEASE LIBRARY COUNT
unfoldable pub timeout_line : Option (List ℕ) → Option Entry
timeout_line args = tally_at args >>= λ tally. ending (behind3 args) (entries.Timeout tally.lease tally.library tally.count)

-- LEASE STAMP
unfoldable pub hold_line : Option (List ℕ) → Option Entry
hold_line args = number_to WORD args >>= λ lease. stamp_at (later args) >>= λ until. ending (behind2 args) (entries.Hold lease until)

-- the first word of an entry's line
unfoldable pub entry_word_of : List ℕ → Option EntryWord
entry_word_of word =
    if bytes_eq word (codes "arrive") then Some entry_word.Arrive
    else (if bytes_eq word (codes "admin") then Some entry_word.Admin
    else (if bytes_eq word (codes "send") then Some entry_word.Send
    else (if bytes_eq word (codes "granted") then Some entry_word.Granted
    else (if bytes_eq word (codes "refused") then Some entry_word.Refused
    else (if bytes_eq word (codes "release") then Some entry_word.Release
    else (if bytes_eq word (codes "bind") then Some entry_word.Bind
    else (if bytes_eq word (codes "leave") then Some entry_word.Leave
    else (if bytes_eq word (codes "plan") then Some entry_word.Plan
    else (if bytes_eq word (codes "reset") then Some entry_word.Reset
    else (if bytes_eq word (codes "timeout") then Some entry_word.Timeout
    else (if bytes_eq word (codes "hand") then Some entry_word.Hand
    else (if bytes_eq word (codes "hold") then Some entry_word.Hold
    else (if bytes_eq word (codes "lapse") then Some entry_word.Lapse else None)))))))))))))

-- what follows it
unfoldable pub entry_line : EntryWord → Option (List ℕ) → Option Entry
entry_line entry_word.Arrive args = number_at args >>= λ pos. ending (later args) (entries.Arrive pos)
entry_line entry_word.Admin args = number_at args >>= λ number. ending (later args) (entries.Admin number)
entry_line entry_word.Bind args = number_to WORD args >>= λ c. ending (later args) (entries.Bind c)
entry_line entry_word.Plan args = plan_line args
entry_line entry_word.Leave args = number_to WORD args >>= λ c. ending (later args) (entries.Leave c)
entry_line entry_word.Reset args = number_to WORD args >>= λ series. ending (later args) (entries.Reset series)
entry_line entry_word.Granted args = granted_line args
entry_line entry_word.Refused args = refused_line args
entry_line entry_word.Send args = send_line args
entry_line entry_word.Release args = release_line args
entry_line entry_word.Hand args = hand_line args
entry_line entry_word.Timeout args = timeout_line args
entry_line entry_word.Hold args = hold_line args
entry_line entry_word.Lapse args = number_to WORD args >>= λ lease. ending (later args) (entries.Lapse lease)

abbrev worded_entry : List ℕ → Option Entry
worded_entry text = keyword_at (Some text) >>= λ word. entry_word_of word >>= λ kind. entry_line kind (later (Some text))

-- the entry that a whole line is, if it has the form of one; 32 is the code of the space
unfoldable pub entry_in : List ℕ → Option Entry
entry_in [] = None
entry_in (b ∷ text) = if b == 32 then worded_entry text else None
