-- What stands in a report of its sessions, right or not, and what a report with the verdict Yes shows.
use Rattle.std.specs.Prelude.{◌≡◌, ℕ, List, [], ◌∷◌, length, Option, Some, None}
use Rattle.lease_core.specs.Holdings.{holdings_of, AreAdjoining}
use Rattle.lease_core.specs.Runs.{IsRun}
use Rattle.lease_core.specs.declared.entry.Entry.{Entry}
use Rattle.lease_core.specs.declared.entry.Holding.{Holding}
use Rattle.journal_audit.specs.Cut.{cut_of}
use Rattle.journal_audit.specs.Lines.{line_of}
use Rattle.journal_audit.specs.Verdicts.{IsVerdict}
use Rattle.journal_audit.specs.declared.auditing.Verdict.TheVariants.{Yes}
use Rattle.journal_audit.specs.declared.line.Line.{Line}
use Rattle.journal_audit.specs.declared.line.Line.TheVariants as line

-- A session: its entries, its holdings, and the bodies of its inbound and of its outbound messages, each in order. Where a further series of the
-- outbound log begins, an empty body stands.
pub record Journal : Type 0 where
  pub entries : List Entry
  pub holdings : List Holding
  pub inbound : List (List ℕ)
  pub outbound : List (List ℕ)

abbrev pub no_journal : Journal
no_journal = record { entries = []; holdings = []; inbound = []; outbound = [] }

-- a session with what one line more in front says of it
abbrev pub journal_with : Option Line → Journal → Journal
journal_with None journal = journal
journal_with (Some line.Head) journal = journal
journal_with (Some (line.Session s header)) journal = no_journal
journal_with (Some (line.Entry e)) journal = record journal { entries = e ∷ journal.entries }
journal_with (Some (line.Holding h)) journal = record journal { holdings = h ∷ journal.holdings }
journal_with (Some (line.In pos body)) journal = record journal { inbound = body ∷ journal.inbound }
journal_with (Some (line.Out number body)) journal = record journal { outbound = body ∷ journal.outbound }
journal_with (Some (line.Series series)) journal = record journal { outbound = [] ∷ journal.outbound }
journal_with (Some (line.Stray library nr s)) journal = journal
journal_with (Some (line.Connection c s written)) journal = journal
journal_with (Some (line.Wrote bytes)) journal = journal
journal_with (Some (line.Library library reads)) journal = journal
journal_with (Some (line.Call call)) journal = journal
journal_with (Some line.End) journal = journal

-- what lines say of one session: up to the next head of one
unfoldable pub journal_in : List (List ℕ) → Journal
journal_in [] = no_journal
journal_in (l ∷ lines) = journal_with (line_of l) (journal_in lines)

-- a head has the session that stands behind it
abbrev pub headed : Option Line → Journal → List Journal → List Journal
headed None journal journals = journals
headed (Some line.Head) journal journals = journals
headed (Some (line.Session s header)) journal journals = journal ∷ journals
headed (Some (line.Entry e)) journal journals = journals
headed (Some (line.Holding h)) journal journals = journals
headed (Some (line.In pos body)) journal journals = journals
headed (Some (line.Out number body)) journal journals = journals
headed (Some (line.Series series)) journal journals = journals
headed (Some (line.Stray library nr s)) journal journals = journals
headed (Some (line.Connection c s written)) journal journals = journals
headed (Some (line.Wrote bytes)) journal journals = journals
headed (Some (line.Library library reads)) journal journals = journals
headed (Some (line.Call call)) journal journals = journals
headed (Some line.End) journal journals = journals

-- the sessions of a report, each behind its head
unfoldable pub journals_in : List (List ℕ) → List Journal
journals_in [] = []
journals_in (l ∷ lines) = headed (line_of l) (journal_in lines) (journals_in lines)

-- The entries are a run of the registry, for some number of leases; the holdings are theirs, and cut the inbound messages into adjoining
-- spans.
pub record IsLawful (journal : Journal) : Type 0 where
  pub limit : ℕ
  pub run : IsRun limit journal.entries
  pub holdings : journal.holdings ≡ holdings_of journal.entries
  pub adjoining : AreAdjoining journal.holdings (length journal.inbound)

abbrev pub AreLawful : List Journal → Type 0
AreLawful [] = Unit {0}
AreLawful (journal ∷ journals) = IsLawful journal × AreLawful journals

-- each session of a report with the verdict Yes
abbrev pub JournalsAreLawful : Type 0
JournalsAreLawful = (text : List ℕ) → IsVerdict text Yes → AreLawful (journals_in (cut_of text).lines)
