-- The verdict on a report: all of its lines are right, or the first that isn't is named.
use Rattle.std.specs.Prelude.{◌≡◌, ℕ, ◌+◌, ◌==◌, ◌&&◌, ◌⊎◌, Bool, true, false, List, [], ◌∷◌, length, Option, Some, None}
use Rattle.journal_audit.specs.Cut.{cut_of}
use Rattle.journal_audit.specs.Lines.{line_of}
use Rattle.journal_audit.specs.Rules.{IsRightLine, after_line, limit_in}
use Rattle.journal_audit.specs.Seen.{Seen, nothing_seen}
use Rattle.journal_audit.specs.declared.auditing.Verdict.{Verdict}
use Rattle.journal_audit.specs.declared.auditing.Verdict.TheVariants.{Yes, No}
use Rattle.journal_audit.specs.declared.line.Line.{Line}
use Rattle.journal_audit.specs.declared.place.Part.{Part}
use Rattle.journal_audit.specs.declared.place.Part.TheVariants as part

-- nothing follows
abbrev pub is_last : List (List ℕ) → List ℕ → Bool
is_last lines rest = (length lines == 0) && (length rest == 0)

abbrev pub IsRightRead : Seen → Bool → Option Line → Type 0
IsRightRead seen last None = ⊥
IsRightRead seen last (Some line) = IsRightLine seen last line

-- the line is right behind those that told this, and with these behind it
abbrev pub IsRight : Seen → List ℕ → List (List ℕ) → List ℕ → Type 0
IsRight seen line lines rest = IsRightRead seen (is_last lines rest) (line_of line)

abbrev pub after_read : ℕ → Option Line → Seen → Seen
after_read limit None seen = seen
after_read limit (Some line) seen = after_line limit line seen

abbrev pub after : List ℕ → List (List ℕ) → Seen → Seen
after line lines seen = after_read (limit_in lines) (line_of line) seen

-- the report's end was met
abbrev pub is_done : Part → Bool
is_done part.Done = true
is_done _ = false

abbrev pub at_end : Bool → ℕ → Verdict
at_end true n = Yes
at_end false n = No n

-- The verdict on the lines from line n on, behind those that told this: the first line that isn't right is named, and where the end is
-- missing the number behind the last line.
unfoldable pub Gets : Seen → ℕ → List (List ℕ) → List ℕ → Verdict → Type 0
Gets seen n [] rest verdict = verdict ≡ at_end (is_done seen.place.part) n
Gets seen n (line ∷ lines) rest verdict =
    (IsRight seen line lines rest × Gets (after line lines seen) (n + 1) lines rest verdict)
    ⊎ ((IsRight seen line lines rest → ⊥) × (verdict ≡ No n))

-- the verdict on a report
abbrev pub IsVerdict : List ℕ → Verdict → Type 0
IsVerdict text verdict = let cut = cut_of text in Gets nothing_seen 1 cut.lines cut.rest verdict
