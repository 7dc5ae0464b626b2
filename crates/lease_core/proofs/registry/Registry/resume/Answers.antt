use Rattle.std.proofs.Common.{ap, ◌∙◌}
use Rattle.lease_core.specs.Kept.{Kept}
use Rattle.lease_core.specs.Lines.{lines_of}
use Rattle.lease_core.proofs.WordsShown.{lines-held}
use Rattle.lease_core.proofs.registry.Registry.resume.Goals as goal

pub returns-clause-lines : goal.returns-clause-lines
returns-clause-lines c = ap lines_of c.hold.ensures.entries ∙ lines-held c.recovery.inside.journal.entries c.args.until ∙ ap (λ (k : Kept). lines_of k.entries) c.recovery.view_is
