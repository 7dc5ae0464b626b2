use Rattle.std.proofs.Common.{◌≡◌, ◌+◌, ◌++◌, [], ◌∷◌, inr, ℕ, List, length, refl, sym, ap, subst, ◌∙◌, arith}
use Rattle.connection_core.specs.Outgoing.{no_outgoing}
use Rattle.session_book.specs.Book.{with_outbox}
use Rattle.switchboard.specs.Board.{book_at}
use Rattle.wire_desk.specs.Dials.{IsDialDue}
use Rattle.wire_desk.specs.Lines.{IsWired}
use Rattle.session_desk.specs.Stops.{StopsDialling}
use Rattle.wire_desk.proofs.Dialled.{dialled_wired, gathering_keeps, one_more_dialled}
use Rattle.wire_desk.proofs.Untold.{on_err}
use Rattle.wire_desk.proofs.dialling.Dialler.dial.Goals as goal

pub returns-in_ok-k-in-New-clause-set_up : goal.returns-in_ok-k-in-New-clause-set_up
returns-in_ok-k-in-New-clause-set_up g c =
    let told = c.in_ok-k-in-New.ensures in
    let goes = told.proceeds.goes_on in
    let was = c.requires.set_up in
    c.lines_progress.ensures.set_up c.args.leases.now c.args.desk.now c.dial.new.desk c.args.lines.now _ goes c.dial.ensures.table refl refl
    (c.lines_progress.ensures.noted c.args.desk.now.board c.dial.new.desk.board c.args.lines.now.unkept.items goes was.noted) told.steady was

pub returns-in_ok-k-in-New-clause-wired : goal.returns-in_ok-k-in-New-clause-wired
returns-in_ok-k-in-New-clause-wired g c =
    let told = c.in_ok-k-in-New.ensures in
    let s = c.args.s in
    let at = c.args.at in
    let number = c.in-New.number in
    let old = c.args.desk.now in
    let gathered = told.dials.gathered in
    let new = c.dial.new.desk.board in
    let first = c.args.lines.now.accepted.items in
    let last = c.args.lines.now.dialled.items in
    let run = c.requires.set_up.steady.run in
    let kept = gathering_keeps run.before c.boards_go_on.ensures.happening c.boards_go_on.ensures.count (c.boards_go_on.ensures.quiet run.before) (c.boards_stay_ready.ensures.happening run.before)
    s at c.args.until old gathered told.dials.gathers run.ready in
    let k = c.in_ok-k-in-New.k in
    let reserved = c.reserve.new.self.items in
    let pushed : c.push.new.self.items ≡ reserved ++ k ∷ [] = rw c.unwrap.ensures at c.push.ensures.items in
    let before_push : reserved ≡ last = c.reserve.ensures.items in
    let place : k ≡ length gathered.board.connections = told.place ∙ sym kept.count in
    let listed : c.push.new.self.items ≡ last ++ length gathered.board.connections ∷ [] = cc in
    let door = g.W.Wire.door in
    let links = g.W.Wire.link in
    let before = c.args.wire.now in
    let after = c.call_up-dialled.new.wire in
    let asks = c.what_is_told_is_queued.ensures.dial number at (with_outbox (book_at gathered.board s) no_outgoing) (kept.ready.books s told.dials.dials.within).is_book in
    subst (λ (xs : List ℕ). IsWired new (first ++ xs) (door after) (links after)) (sym listed)
    (dialled_wired s number at gathered.board new first last (door before) (door after) (links before) (links after) told.dials.dials asks c.in-New.ensures.dials c.call_up-dialled.ensures.others
    (kept.wired (first ++ last) (door before) (links before) c.requires.wired))

pub returns-in_ok-k-in-New-clause-dialling : goal.returns-in_ok-k-in-New-clause-dialling
returns-in_ok-k-in-New-clause-dialling g c =
    let before = g.W.Wire.door c.args.wire.now in
    let was = c.dialling_goes_on.ensures.boards c.args.desk.now.board c.dial.new.desk.board before before c.args.self.now c.in_ok-k-in-New.ensures.proceeds.goes_on refl c.requires.dialling in
    let after = c.call_up-dialled.new.wire in
    let dialled = one_more_dialled c.in-New.number before (g.W.Wire.door after) (g.W.Wire.link after) c.in-New.ensures.dials in
    let due : IsDialDue c.args.desk.now.board c.args.self.now c.args.s c.args.at = c.is_due.ensures.0 (cc (c.if-not-is_due.false)) in
    record {
      scheduled = record { plans = was.scheduled.plans; next = was.scheduled.next; each = was.scheduled.each };
      made = ap (λ n. n + 1) was.made ∙ sym dialled;
      few = (let left = due.left in omega arith);
      most = was.most;
    }

pub returns-in_ok-k-in-New-clause-dials : goal.returns-in_ok-k-in-New-clause-dials
returns-in_ok-k-in-New-clause-dials g c = (c.is_due.ensures.0 (cc (c.if-not-is_due.false)), (c.in_ok-k-in-New.ensures.dials, refl))

-- the wire gave the next number
pub returns-in_err-k-in-New-clause-stops : goal.returns-in_err-k-in-New-clause-stops
returns-in_err-k-in-New-clause-stops g c =
    on_err c.from_residual-in_err-k-in-New.result
    (inr (subst (λ number. StopsDialling c.args.s number c.args.at c.args.until c.args.desk.now c.dial.new.desk) c.in-New.ensures.dials.0 c.in_err-k-in-New.ensures.stops))
