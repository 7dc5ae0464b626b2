use Rattle.std.proofs.Common.{Bool, sym, ap, ◌∙◌, arith}
use Rattle.std.proofs.lemmas.Bool.{false≢true}
use Rattle.journal_audit.specs.Cut.{cut_of}
use Rattle.journal_audit.specs.Verdicts.{at_end}
use Rattle.journal_audit.specs.declared.auditing.Verdict.TheVariants.{Yes, No}
use Rattle.journal_audit.proofs.VerdictSteps.{wrong_line, right_line, no_line_left}
use Rattle.journal_audit.proofs.auditing.audit.Goals as goal

pub returns-then-not-branch : goal.returns-then-not-branch
returns-then-not-branch c =
    c.loop-line.invariant.verdict (No c.loop-line.number)
    (wrong_line c.loop-line.auditor c.loop-line.number (cut_of c.loop-line.rest.now) c.in-Some.behind.now c.in-Some.line.now c.in-Some.ensures.line
    (λ h. absurd (false≢true (sym c.if-not-branch.true ∙ c.in_ok-read_line.ensures.right.1 h))))

pub loop-line-preserved : goal.loop-line-preserved
loop-line-preserved c =
    record {
      verdict = λ v gets. c.loop-line.invariant.verdict v
          (right_line c.loop-line.auditor _ c.loop-line.number (cut_of c.loop-line.rest.now) c.in-Some.behind.now c.in-Some.line.now v c.in-Some.ensures.line
          (c.in_ok-read_line.ensures.right.0 c.if-not-branch.false)
          (c.in_ok-read_line.ensures.after c.if-not-branch.false)
          gets);
      count = omega (arith, c.in-Some.ensures.shorter, c.loop-line.invariant.count);
    }

pub returns-then-is_done : goal.returns-then-is_done
returns-then-is_done c =
    c.loop-line.invariant.verdict Yes
    (no_line_left c.loop-line.auditor c.loop-line.number (cut_of c.loop-line.rest.now) Yes c.in_default.ensures.none
    (sym (ap (λ (b : Bool). at_end b c.loop-line.number) (sym c.is_done.ensures ∙ c.if-is_done.true))))

pub returns : goal.returns
returns c =
    c.loop-line.invariant.verdict (No c.loop-line.number)
    (no_line_left c.loop-line.auditor c.loop-line.number (cut_of c.loop-line.rest.now) (No c.loop-line.number) c.in_default.ensures.none
    (sym (ap (λ (b : Bool). at_end b c.loop-line.number) (sym c.is_done.ensures ∙ c.if-is_done.false))))
