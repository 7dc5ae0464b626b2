use Rattle.std.proofs.Common.{refl}
use Rattle.script_text.specs.Grammar.{names_at}
use Rattle.script_text.proofs.LentNames.{lent_names-both}
use Rattle.script_text.proofs.config_lines.read_names.Goals as goal

pub returns-clause-value : goal.returns-clause-value
unfolding names_at
returns-clause-value c = rw (c.both.ensures, lent_names-both, c.name-us.ensures.value, c.name-them.ensures.value, c.name-us.ensures.rest) refl
