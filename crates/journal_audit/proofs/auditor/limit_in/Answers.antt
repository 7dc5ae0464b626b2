use Rattle.std.proofs.Common.{sym, ap, ◌∙◌}
use Rattle.journal_audit.specs.Cut.{Cut, cut_of}
use Rattle.journal_audit.specs.Rules.{limit_in}
use Rattle.journal_audit.proofs.Limits.{limit_none, limit_other, limit_said, limit_later}
use Rattle.journal_audit.proofs.auditor.limit_in.Goals as goal

pub returns-in_default-read_entry : goal.returns-in_default-read_entry
returns-in_default-read_entry c =
    sym (limit_other c.in-Some.line.now (cut_of c.in-Some.later.now).lines (sym c.in_default-read_entry.ensures))
    ∙ ap (λ (cut : Cut). limit_in cut.lines) (sym c.in-Some.ensures.line)
    ∙ c.loop-line.invariant

pub returns-in-Some-limit_by : goal.returns-in-Some-limit_by
returns-in-Some-limit_by c =
    sym (limit_said c.in-Some.line.now (cut_of c.in-Some.later.now).lines c.in-Some-read_entry.entry c.in-Some-limit_by.limit (sym c.in-Some-read_entry.ensures) (sym c.in-Some-limit_by.ensures))
    ∙ ap (λ (cut : Cut). limit_in cut.lines) (sym c.in-Some.ensures.line)
    ∙ c.loop-line.invariant

pub loop-line-preserved : goal.loop-line-preserved
loop-line-preserved c =
    sym (limit_later c.in-Some.line.now (cut_of c.in-Some.later.now).lines c.in-Some-read_entry.entry (sym c.in-Some-read_entry.ensures) (sym c.in_default-limit_by.ensures))
    ∙ ap (λ (cut : Cut). limit_in cut.lines) (sym c.in-Some.ensures.line)
    ∙ c.loop-line.invariant

pub returns : goal.returns
returns c = sym (limit_none (cut_of c.loop-line.rest.now) c.in_default.ensures.none) ∙ c.loop-line.invariant
