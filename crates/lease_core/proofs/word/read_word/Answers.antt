use Rattle.lease_core.specs.Word.{word_in}
use Rattle.lease_core.proofs.Words.{number-word_in}
use Rattle.lease_core.proofs.word.read_word.Goals as goal
use Rattle.std.proofs.Common.{refl}

pub returns-clause-word : goal.returns-clause-word
unfolding word_in
returns-clause-word c = rw c.standing_in.ensures refl

pub returns-clause-written : goal.returns-clause-written
unfolding word_in
returns-clause-written c = rw c.standing_in.ensures (number-word_in c.args.n)
