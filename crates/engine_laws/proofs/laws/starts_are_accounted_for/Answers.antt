use Rattle.std.proofs.Common.{◌<◌, ap, arith, subst}
use Rattle.session_book.specs.Book.{Book}
use Rattle.switchboard.specs.Ready.{entries_of}
use Rattle.engine_laws.proofs.laws.starts_are_accounted_for.Goals as goal

pub returns-clause-ready : goal.returns-clause-ready
returns-clause-ready c = λ config board starts. c.boards_stay_ready.ensures.first (entries_of board) board starts.first

-- nothing was sent yet
pub returns-clause-account : goal.returns-clause-account
returns-clause-account c = λ config at board starts. c.happenings_are_accounted_for.ensures.first (entries_of board) at board starts.first
    (λ s within.
    let none = ap (λ (b : Book). b.machine.sent) (starts.books s (subst (λ n. s < n) starts.count within)) in
    omega (arith, none))
