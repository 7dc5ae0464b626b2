use Rattle.std.proofs.Common.{sym}
use Rattle.connection_core.proofs.Written.{given_begin}
use Rattle.connection_core.proofs.Pieces.{given_same}
use Rattle.connection_core.proofs.laws.pieces_are_those_of_the_cut.Goals as goal

pub returns-clause-all : goal.returns-clause-all
returns-clause-all c = λ state pieces h none. sym (c.feedings_give_the_same_pieces.ensures 65536 state.taken pieces state.held h.so_far none)

pub returns-clause-begin : goal.returns-clause-begin
returns-clause-begin c = λ state pieces more h. given_begin 65536 state.taken more pieces state.held (c.cuts_of_prefixes_go_on.ensures 65536 state.taken more) h.so_far

pub returns-clause-same : goal.returns-clause-same
returns-clause-same c = λ old new pieces h taken held garbled. given_same old new pieces h taken held garbled
