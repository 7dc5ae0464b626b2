use Rattle.std.proofs.Common.{length}
use Rattle.headline.proofs.Ending.{carried, carried_out, first_whole}
use Rattle.headline.proofs.Whole.{gathered_whole}
use Rattle.headline.proofs.laws.connections_end_whole.Goals as goal

pub returns-clause-first : goal.returns-clause-first
returns-clause-first c = first_whole

pub returns-clause-carries : goal.returns-clause-carries
returns-clause-carries c = λ before start. carried before start c.accounts_are_kept.ensures

pub returns-clause-carries_out : goal.returns-clause-carries_out
returns-clause-carries_out c = λ before start. carried_out before start c.accounts_are_kept.ensures (c.runs_are_accounted_for.ensures.carries before start)

pub returns-clause-gathers : goal.returns-clause-gathers
returns-clause-gathers c = λ at until old new gathers. gathered_whole (length old.board.sessions) at until old new gathers
