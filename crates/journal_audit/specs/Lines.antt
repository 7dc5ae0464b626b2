-- The lines of a report: one row a kind. Entries have their rows in EntryLines, the calls of libraries theirs in CallLines.
use Rattle.std.specs.Prelude.{ℕ, Bool, false, ◌&&◌, ◌||◌, ◌==◌, if◌then◌else◌, List, [], ◌∷◌, Option, Some, None, codes, is_some}
use Rattle.std.specs.Option.{option_map}
use Rattle.std.specs.Str.{bytes_eq}
use Rattle.fix_fields.specs.Options.{◌>>=◌}
use Rattle.lease_core.specs.declared.entry.Entry.{Entry}
use Rattle.script_text.specs.Args.{keyword_at, later}
use Rattle.script_text.specs.Words.{is_name}
use Rattle.journal_audit.specs.declared.line.Header.{Header}
use Rattle.journal_audit.specs.declared.line.Line.{Line}
use Rattle.journal_audit.specs.declared.line.Line.TheVariants as line
use Rattle.journal_audit.specs.declared.line_reading.HeadWord.{HeadWord}
use Rattle.journal_audit.specs.declared.line_reading.HeadWord.TheVariants as head_word
use Rattle.journal_audit.specs.declared.line_reading.PartWord.{PartWord}
use Rattle.journal_audit.specs.declared.line_reading.PartWord.TheVariants as part_word
use Rattle.journal_audit.specs.declared.line_reading.CauseWord.{CauseWord}
use Rattle.journal_audit.specs.declared.line_reading.CauseWord.TheVariants as cause_word
use Rattle.journal_audit.specs.CallLines.{call_word_of, call_line}
use Rattle.journal_audit.specs.EntryLines.{behind2, behind3, behind4, behind6, behind8, entry_in}
use Rattle.journal_audit.specs.Words.{BYTE, HALF, WORD, LONG, number_at, number_to, named_to, half_in, label_at, stamp_at, printed_at, ending}

-- Lines that begin with a space.

-- LIBRARY LEASE from FROM start START end END sends SENDS
unfoldable pub holding_line : Option (List ℕ) → Option Line
holding_line args =
    number_to BYTE args >>= λ library.
    number_to WORD (later args) >>= λ lease.
    named_to (codes "from") LONG (behind2 args) >>= λ from.
    named_to (codes "start") LONG (behind4 args) >>= λ start.
    named_to (codes "end") LONG (behind6 args) >>= λ end.
    named_to (codes "sends") WORD (behind8 args) >>= λ sends.
    ending (behind2 (behind8 args)) (line.Holding (record { library = library; lease = lease; from = from; start = start; end = end; sends = sends }))

-- POS BODY
unfoldable pub in_line : Option (List ℕ) → Option Line
in_line args = number_at args >>= λ pos. option_map (λ body. line.In pos body) (printed_at (later args))

-- NUMBER STAMP
abbrev pub numbered_at : Option (List ℕ) → Option ℕ
numbered_at args = number_at args >>= λ number. stamp_at (later args) >>= λ at. Some number

-- NUMBER STAMP BODY
unfoldable pub out_line : Option (List ℕ) → Option Line
out_line args = numbered_at args >>= λ number. option_map (λ body. line.Out number body) (printed_at (behind2 args))

-- R
unfoldable pub series_line : Option (List ℕ) → Option Line
series_line args = number_to WORD args >>= λ series. ending (later args) (line.Series series)

-- BYTES
unfoldable pub wrote_line : Option (List ℕ) → Option Line
wrote_line args = option_map (λ bytes. line.Wrote bytes) (printed_at args)

unfoldable pub part_word_of : List ℕ → Option PartWord
part_word_of word =
    if bytes_eq word (codes "in") then Some part_word.In
    else (if bytes_eq word (codes "out") then Some part_word.Out
    else (if bytes_eq word (codes "wrote") then Some part_word.Wrote
    else (if bytes_eq word (codes "holding") then Some part_word.Holding
    else (if bytes_eq word (codes "series") then Some part_word.Series else None))))

unfoldable pub part_line : PartWord → Option (List ℕ) → Option Line
part_line part_word.Holding args = holding_line args
part_line part_word.In args = in_line args
part_line part_word.Out args = out_line args
part_line part_word.Series args = series_line args
part_line part_word.Wrote args = wrote_line args

-- the line of a call with this first word
unfoldable pub named_call : List ℕ → Option (List ℕ) → Option Line
named_call word args = call_word_of word >>= λ kind. option_map (λ call. line.Call call) (call_line kind args)

abbrev entry_or_call : List ℕ → Option (List ℕ) → Option Entry → Option Line
entry_or_call word args (Some entry) = Some (line.Entry entry)
entry_or_call word args None = named_call word args

abbrev part_or_other : List ℕ → List ℕ → Option (List ℕ) → Option PartWord → Option Line
part_or_other text word args (Some kind) = part_line kind args
part_or_other text word args None = entry_or_call word args (entry_in text)

-- a whole line, which is a space and a text
unfoldable pub indented_line : List ℕ → List ℕ → Option Line
indented_line whole text = keyword_at (Some text) >>= λ word. part_or_other whole word (later (Some text)) (part_word_of word)

-- Lines that begin with a word.

-- report 1
unfoldable pub first_line : Option (List ℕ) → Option Line
first_line args = named_to (codes "report") BYTE args >>= λ version. if version == 1 then ending (behind2 args) line.Head else None

abbrev name_among : Option (List ℕ) → Bool
name_among None = false
name_among (Some word) = is_name word

-- the next word is a name
abbrev pub name_at : Option (List ℕ) → Bool
name_at args = name_among (keyword_at args)

-- owner OWNER lease LEASE in LENGTH out LENGTH
unfoldable pub header_at : Option (List ℕ) → Option Header
header_at args =
    named_to (codes "owner") BYTE args >>= λ owner.
    named_to (codes "lease") WORD (behind2 args) >>= λ lease.
    named_to (codes "in") LONG (behind4 args) >>= λ inbound.
    named_to (codes "out") LONG (behind6 args) >>= λ outbound.
    ending (behind8 args) (record { owner = owner; lease = lease; inbound = inbound; outbound = outbound })

-- S US THEM, and then the header
unfoldable pub session_line : Option (List ℕ) → Option Line
session_line args =
    number_to HALF args >>= λ s.
    header_at (behind3 args) >>= λ header.
    if name_at (later args) && name_at (behind2 args) then Some (line.Session s header) else None

-- LIBRARY NR S
unfoldable pub stray_line : Option (List ℕ) → Option Line
stray_line args =
    number_to BYTE args >>= λ library.
    number_to WORD (later args) >>= λ nr.
    number_to HALF (behind2 args) >>= λ s.
    ending (behind3 args) (line.Stray library nr s)

-- L reads N
unfoldable pub library_line : Option (List ℕ) → Option Line
library_line args =
    number_to BYTE args >>= λ library.
    named_to (codes "reads") LONG (later args) >>= λ reads.
    ending (behind3 args) (line.Library library reads)

abbrev pub is_bare_cause : List ℕ → Bool
is_bare_cause word =
    bytes_eq word (codes "end") || bytes_eq word (codes "none") || bytes_eq word (codes "read-fault") || bytes_eq word (codes "write-fault")
    || bytes_eq word (codes "not-logon") || bytes_eq word (codes "no-such-session") || bytes_eq word (codes "no-number") || bytes_eq word (codes "logged-out")

abbrev pub is_numbered_cause : List ℕ → Bool
is_numbered_cause word = bytes_eq word (codes "duplicate") || bytes_eq word (codes "bad-logon") || bytes_eq word (codes "comp-id")

-- what follows the first word of a cause
unfoldable pub cause_word_of : List ℕ → Option CauseWord
cause_word_of word =
    if is_bare_cause word then Some cause_word.Bare
    else (if is_numbered_cause word then Some cause_word.Numbered
    else (if bytes_eq word (codes "low-number") then Some cause_word.Doubled
    else (if bytes_eq word (codes "silent") then Some cause_word.Stamped
    else (if bytes_eq word (codes "slow-consumer") then Some cause_word.Counted else None))))

unfoldable pub cause_line : CauseWord → Option (List ℕ) → Option CauseWord
cause_line cause_word.Bare args = ending args cause_word.Bare
cause_line cause_word.Numbered args = number_to WORD args >>= λ n. ending (later args) cause_word.Numbered
cause_line cause_word.Doubled args = number_to WORD args >>= λ n. number_to WORD (later args) >>= λ m. ending (behind2 args) cause_word.Doubled
cause_line cause_word.Stamped args = stamp_at args >>= λ at. ending (later args) cause_word.Stamped
cause_line cause_word.Counted args = number_at args >>= λ n. ending (later args) cause_word.Counted

-- CAUSE, with which the line ends
unfoldable pub cause_at : Option (List ℕ) → Option CauseWord
cause_at args = keyword_at args >>= λ word. cause_word_of word >>= λ kind. cause_line kind (later args)

abbrev pub is_cause : Option (List ℕ) → Bool
is_cause args = is_some (cause_at args)

abbrev bound_by : List ℕ → Option (Option ℕ)
bound_by word = if bytes_eq word (codes "-") then Some None else option_map (λ s. Some s) (half_in word)

-- session S, or session - where the connection was never bound
unfoldable pub bound_at : Option (List ℕ) → Option (Option ℕ)
bound_at args = if label_at (codes "session") args then keyword_at (later args) >>= bound_by else None

-- C session S taken BYTES garbled BYTES written BYTES cause CAUSE
unfoldable pub connection_line : Option (List ℕ) → Option Line
connection_line args =
    number_to WORD args >>= λ c.
    bound_at (later args) >>= λ s.
    named_to (codes "taken") LONG (behind3 args) >>= λ taken.
    named_to (codes "garbled") LONG (later (behind4 args)) >>= λ garbled.
    named_to (codes "written") LONG (later (behind6 args)) >>= λ written.
    if label_at (codes "cause") (later (behind8 args)) && is_cause (behind2 (behind8 args)) then Some (line.Connection c s written) else None

unfoldable pub head_word_of : List ℕ → Option HeadWord
head_word_of word =
    if bytes_eq word (codes "connection") then Some head_word.Connection
    else (if bytes_eq word (codes "session") then Some head_word.Session
    else (if bytes_eq word (codes "stray") then Some head_word.Stray
    else (if bytes_eq word (codes "library") then Some head_word.Library
    else (if bytes_eq word (codes "fixgate") then Some head_word.Head
    else (if bytes_eq word (codes "end") then Some head_word.End else None)))))

unfoldable pub head_line : HeadWord → Option (List ℕ) → Option Line
head_line head_word.Head args = first_line args
head_line head_word.Session args = session_line args
head_line head_word.Stray args = stray_line args
head_line head_word.Connection args = connection_line args
head_line head_word.Library args = library_line args
head_line head_word.End args = ending args line.End

unfoldable pub flush_line : List ℕ → Option Line
flush_line whole = keyword_at (Some whole) >>= λ word. head_word_of word >>= λ kind. head_line kind (later (Some whole))

-- What a line says, if it has the form of one. 32 is the code of the space.
unfoldable pub line_of : List ℕ → Option Line
line_of [] = None
line_of (b ∷ text) = if b == 32 then indented_line (b ∷ text) text else flush_line (b ∷ text)
