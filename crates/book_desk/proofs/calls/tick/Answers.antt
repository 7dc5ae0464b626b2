use Rattle.book_desk.proofs.Waits.{on_desk}
use Rattle.book_desk.proofs.calls.tick.Goals as goal

pub returns-in_err-end-clause-written : goal.returns-in_err-end-clause-written
returns-in_err-end-clause-written c =
    let law = c.what_waits_can_be_written.ensures in
    law.here _ _ (law.begun_tick _ _ _ c.expected-expected.ensures.book c.in_err-end.ensures.err) c.requires.written

pub returns-in_err-end-clause-stays : goal.returns-in_err-end-clause-stays
returns-in_err-end-clause-stays c =
    let law = c.what_waits_can_be_written.ensures in
    λ out. law.there _ _ out (law.begun_tick _ _ _ c.expected-expected.ensures.book c.in_err-end.ensures.err)

pub returns-clause-written : goal.returns-clause-written
returns-clause-written c =
    let law = c.what_waits_can_be_written.ensures in
    law.here _ _ (on_desk _ _ _ c.in_ok-end.ensures.ok (law.tick _ _ c.expected-expected.ensures.book)) c.requires.written

pub returns-clause-stays : goal.returns-clause-stays
returns-clause-stays c =
    let law = c.what_waits_can_be_written.ensures in
    λ out. law.there _ _ out (on_desk _ _ _ c.in_ok-end.ensures.ok (law.tick _ _ c.expected-expected.ensures.book))
