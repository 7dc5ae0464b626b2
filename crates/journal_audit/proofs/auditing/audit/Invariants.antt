use Rattle.std.proofs.Common.{◌+◌, ◌≤◌, length}
use Rattle.journal_audit.specs.Cut.{cut_of}
use Rattle.journal_audit.specs.Verdicts.{Gets, IsVerdict}
use Rattle.journal_audit.specs.declared.auditing.Verdict.{Verdict}
use Rattle.journal_audit.proofs.auditing.audit.Given as goal

-- the verdict on the rest, behind the lines so far, is that on the text
abbrev pub invariant-loop-line : goal.invariant-loop-line
invariant-loop-line l =
    record {
      verdict : (v : Verdict) → Gets l.auditor l.number (cut_of l.rest).lines (cut_of l.rest).rest v → IsVerdict l.text v;
      count : l.number + length l.rest ≤ 268_435_457;
    }

abbrev pub decreases-loop-line : goal.decreases-loop-line
decreases-loop-line l = length l.rest
