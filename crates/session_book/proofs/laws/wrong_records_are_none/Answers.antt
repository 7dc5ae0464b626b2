use Rattle.session_book.proofs.Wrong.{no_answer, no_inbound, no_other, no_outbound, no_unasked}
use Rattle.session_book.proofs.laws.wrong_records_are_none.Goals as goal

pub returns-clause-inbound : goal.returns-clause-inbound
returns-clause-inbound c = no_inbound

pub returns-clause-outbound : goal.returns-clause-outbound
returns-clause-outbound c = no_outbound

pub returns-clause-before_bind : goal.returns-clause-before_bind
returns-clause-before_bind c = no_answer

pub returns-clause-unasked : goal.returns-clause-unasked
returns-clause-unasked c = no_unasked

pub returns-clause-another : goal.returns-clause-another
returns-clause-another c = no_other
