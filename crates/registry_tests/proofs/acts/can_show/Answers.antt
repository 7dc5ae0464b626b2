use Rattle.std.proofs.Common.{sym, ◌∙◌}
use Rattle.lease_core.specs.Lines.{lines_of}
use Rattle.registry_tests.proofs.NextWords.{next_word_shows}
use Rattle.registry_tests.proofs.acts.can_show.Goals as goal

pub returns : goal.returns
returns c = λ yes. next_word_shows (lines_of c.args.registry.now.entries) c.word.result c.args.w c.word.ensures (sym c.is_next_word.ensures ∙ yes)
