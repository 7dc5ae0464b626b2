use Rattle.switchboard.specs.Board.{book_at, connection_at, names_at}
use Rattle.switchboard.proofs.Readies.{ready_bound, ready_free, ready_place, ready_plugged}
use Rattle.switchboard.proofs.laws.ready_boards_allow.Goals as goal

pub returns-clause-place : goal.returns-clause-place
returns-clause-place c = ready_place

pub returns-clause-plugged : goal.returns-clause-plugged
returns-clause-plugged c = ready_plugged

pub returns-clause-bound : goal.returns-clause-bound
returns-clause-bound c = ready_bound

pub returns-clause-on : goal.returns-clause-on
returns-clause-on c = λ before board s k ready within at. ready.on s k within at

pub returns-clause-free : goal.returns-clause-free
returns-clause-free c = ready_free

pub returns-clause-there : goal.returns-clause-there
returns-clause-there c = λ before board s k ready within names. ready.named s k within names

pub returns-clause-named : goal.returns-clause-named
returns-clause-named c = λ before board s k ready within names.
    c.texts_are_told.ensures.unmade (names_at board s) (before s) (connection_at board k).number (book_at board s) (connection_at board k).out.outgoing (ready.texts s k within names)

pub returns-clause-alone : goal.returns-clause-alone
returns-clause-alone c = λ before board k s ready within names stands. ready.sound.alone k s within names stands
