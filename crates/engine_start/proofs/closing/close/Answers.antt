use Rattle.std.proofs.Common.{◌≤◌, sym, ap, subst, ◌∙◌, length, arith}
use Rattle.engine_start.specs.Closing.{after_leaving}
use Rattle.session_book.specs.Book.{Book}
use Rattle.session_book.specs.Records.{HasNoted, Pending}
use Rattle.engine_start.proofs.closing.close.Goals as goal

pub note-requires : goal.note-requires
note-requires c =
    let closed = c.in_ok-leave.ensures ∙ ap after_leaving c.in_ok-take_back.ensures in
    let within : c.args.recovered ≤ length c.leave.new.book.book.entries = subst (λ (b : Book). c.args.recovered ≤ length b.entries) (sym closed) c.requires in
    subst (λ (p : Pending). HasNoted p c.leave.new.book.book) (sym c.new-unkept.ensures) (omega arith)
