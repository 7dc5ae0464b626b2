use Rattle.book_desk.proofs.Waits.{on_desk}
use Rattle.book_desk.proofs.calls.dial.Goals as goal

pub returns-in_err-dial-clause-written : goal.returns-in_err-dial-clause-written
returns-in_err-dial-clause-written c =
    let law = c.what_waits_can_be_written.ensures in
    law.here _ _ (law.begun_dial _ _ _ _ c.expected-expected.ensures.book c.in_err-dial.ensures.err) c.requires.written

pub returns-in_err-dial-clause-stays : goal.returns-in_err-dial-clause-stays
returns-in_err-dial-clause-stays c =
    let law = c.what_waits_can_be_written.ensures in
    λ out. law.there _ _ out (law.begun_dial _ _ _ _ c.expected-expected.ensures.book c.in_err-dial.ensures.err)

pub returns-clause-written : goal.returns-clause-written
returns-clause-written c =
    let law = c.what_waits_can_be_written.ensures in
    law.here _ _ (on_desk _ _ _ c.in_ok-dial.ensures.ok (law.dial _ _ _ c.expected-expected.ensures.book)) c.requires.written

pub returns-clause-stays : goal.returns-clause-stays
returns-clause-stays c =
    let law = c.what_waits_can_be_written.ensures in
    λ out. law.there _ _ out (on_desk _ _ _ c.in_ok-dial.ensures.ok (law.dial _ _ _ c.expected-expected.ensures.book))
