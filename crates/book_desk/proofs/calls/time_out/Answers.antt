use Rattle.book_desk.proofs.Waits.{on_desk}
use Rattle.book_desk.proofs.calls.time_out.Goals as goal

pub returns-clause-written : goal.returns-clause-written
returns-clause-written c =
    let law = c.what_waits_can_be_written.ensures in
    law.here _ _ (on_desk _ _ _ c.time_out.ensures.news (law.timeout _ _ _ _ _ c.expected-expected.ensures.book)) c.requires.written

pub returns-clause-stays : goal.returns-clause-stays
returns-clause-stays c =
    let law = c.what_waits_can_be_written.ensures in
    λ out. law.there _ _ out (on_desk _ _ _ c.time_out.ensures.news (law.timeout _ _ _ _ _ c.expected-expected.ensures.book))
