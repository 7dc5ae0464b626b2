use Rattle.lease_core.specs.Word.{number_of}
use Rattle.lease_core.proofs.Words.{word_in-number}
use Rattle.lease_core.proofs.word.write_word.Goals as goal
use Rattle.std.proofs.Common.{refl, arith}

pub returns-clause-number : goal.returns-clause-number
unfolding number_of
returns-clause-number c = rw (c.from.ensures, c.from-2.ensures, c.from-3.ensures, c.flag_of-flag.ensures) refl

pub returns-clause-read : goal.returns-clause-read
unfolding number_of
returns-clause-read c = rw (c.from.ensures, c.from-2.ensures, c.from-3.ensures, c.flag_of-flag.ensures) (word_in-number c.args.w c.requires.owner (omega arith))
