use Rattle.std.proofs.Common.{ap, ◌∙◌}
use Rattle.lease_words.specs.Leases.{is_running}
use Rattle.switchboard.specs.Board.{book_at}
use Rattle.lease_desk.proofs.GoingOn.{gone_from, on_ok}
use Rattle.lease_desk.proofs.desk.LeaseDesk.take_back_from.Goals as goal

pub returns-clause-gone : goal.returns-clause-gone
returns-clause-gone c =
    let new = c.take_back.new.self in
    on_ok c.take_back.result
    (λ ended. gone_from c.lines_tell_the_owner.ensures.owner (book_at new.board c.args.s).entries c.args.library c.requires.library (ap is_running c.take_back.ensures.agrees.lines ∙ ended))
    c.take_back.ensures.ended
