use Rattle.headline.proofs.run_lemmas.Lived.{carried, carried_out, first_lived}
use Rattle.headline.proofs.runs.libraries_live.Goals as goal

pub returns-clause-first : goal.returns-clause-first
returns-clause-first c = first_lived

pub returns-clause-carries : goal.returns-clause-carries
returns-clause-carries c = λ before start. carried c.requests_are_numbered.ensures.numbers before start (c.engines_and_texts_go_on.ensures before start)

pub returns-clause-carries_out : goal.returns-clause-carries_out
returns-clause-carries_out c = λ before start. carried_out c.requests_are_numbered.ensures.numbers before start (c.engines_and_texts_go_on.ensures before start)
