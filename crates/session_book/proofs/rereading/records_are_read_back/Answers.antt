use Rattle.session_book.proofs.RoundTrip.{read_back, read_stays}
use Rattle.session_book.proofs.rereading.records_are_read_back.Goals as goal

pub returns-clause-read : goal.returns-clause-read
returns-clause-read c = read_back c.entries_decide_one_by_one.ensures.states c.entries_decide_one_by_one.ensures.runs

pub returns-clause-stays : goal.returns-clause-stays
returns-clause-stays c = read_stays
