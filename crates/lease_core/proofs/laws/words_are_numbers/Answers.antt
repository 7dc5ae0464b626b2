use Rattle.lease_core.proofs.Words.{word_in-number, number-word_in}
use Rattle.lease_core.proofs.laws.words_are_numbers.Goals as goal

pub returns-clause-read : goal.returns-clause-read
returns-clause-read c = word_in-number

pub returns-clause-written : goal.returns-clause-written
returns-clause-written c = number-word_in
