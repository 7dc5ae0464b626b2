use Rattle.std.proofs.Common.{◌≡◌, length}
use Rattle.journal_audit.specs.Cut.{cut_of}
use Rattle.journal_audit.specs.Rules.{limit_in}
use Rattle.journal_audit.proofs.auditor.limit_in.Given as goal

-- the rest says what all say
abbrev pub invariant-loop-line : goal.invariant-loop-line
invariant-loop-line l = limit_in (cut_of l.rest).lines ≡ limit_in (cut_of l.behind).lines

abbrev pub decreases-loop-line : goal.decreases-loop-line
decreases-loop-line l = length l.rest
