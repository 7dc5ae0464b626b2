use Rattle.lease_core.proofs.WordsShown.{words_shown, words_showable, words_can_time_out}
use Rattle.lease_core.proofs.laws.words_fit_their_lines.Goals as goal

pub returns-clause-shown : goal.returns-clause-shown
returns-clause-shown c = words_shown

pub returns-clause-showable : goal.returns-clause-showable
returns-clause-showable c = words_showable

pub returns-clause-can_time_out : goal.returns-clause-can_time_out
returns-clause-can_time_out c = words_can_time_out
