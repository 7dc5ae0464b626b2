use Rattle.std.proofs.Common.{arith}
use Rattle.std.proofs.lemmas.Grind.{common_steps}
use Rattle.switchboard.proofs.Names.{names_are}
use Rattle.switchboard.proofs.board.Switchboard.prepare.Goals as goal

pub returns-clause-answered : goal.returns-clause-answered
returns-clause-answered c = let e = names_are _ c.written_names.result.now c.written_names.ensures.names in grind (arith, common_steps)

pub returns-clause-unanswered : goal.returns-clause-unanswered
returns-clause-unanswered c = let e = names_are _ c.written_names.result.now c.written_names.ensures.names in grind (arith, common_steps)

pub returns-clause-more : goal.returns-clause-more
returns-clause-more c = let e = names_are _ c.written_names.result.now c.written_names.ensures.names in grind (arith, common_steps)

pub returns-clause-again : goal.returns-clause-again
returns-clause-again c = let e = names_are _ c.written_names.result.now c.written_names.ensures.names in grind (arith, common_steps)

pub returns-clause-happens : goal.returns-clause-happens
returns-clause-happens c = λ names. record {
  names = names;
  changes = record { within = c.requires.connection; others = grind (arith, common_steps) };
  more = (let e = names_are _ c.written_names.result.now c.written_names.ensures.names in grind (arith, common_steps));
}
