use Rattle.std.proofs.Common.{◌≤◌, length, sym, ap, subst, ◌∙◌, arith}
use Rattle.lease_core.specs.Lines.{lines_of}
use Rattle.lease_core.specs.Runs.{IsRun}
use Rattle.lease_words.specs.Leases.{is_running}
use Rattle.switchboard.specs.Kept.{IsBook, Kept}
use Rattle.lease_desk.specs.Desk.{IsGrant, OnGranted}
use Rattle.switchboard.specs.Board.{book_at, session_at}
use Rattle.switchboard.specs.Sound.{IsSound, bound_of}
use Rattle.lease_desk.proofs.Grants.{not_running}
use Rattle.lease_desk.proofs.InStep.{granted_agrees, refused_agrees, request_bound, session_in_step}
use Rattle.lease_desk.proofs.Takes.{seat_same}
use Rattle.lease_words.specs.Sees.{after_grant}
use Rattle.lease_words.specs.Views.{engine_at}
use Rattle.switchboard.specs.Book.{Book}
use Rattle.lease_desk.proofs.desk.LeaseDesk.request.Goals as goal

pub grant-requires-clause-room : goal.grant-requires-clause-room
grant-requires-clause-room c =
    let book = book_at c.args.self.now.board c.args.s in
    let run : IsRun book.leases book.entries = subst (λ (k : Kept). IsRun k.book.leases k.book.entries) c.session-book.ensures c.entries-journal.ensures.run in
    let finds = c.grants_find_nobody.ensures.grants book.leases book.entries c.args.library c.args.from c.in-Granted.lease c.in-Granted.start run (sym c.in_ok-reply.ensures.reply ∙ c.in-Granted.is) in
    let left = finds.left in
    let many = ap (λ lines. length lines) c.requires.agrees.lines in
    let few = c.requires.few in
    omega arith

pub grant-requires-clause-ended : goal.grant-requires-clause-ended
grant-requires-clause-ended c =
    let book = book_at c.args.self.now.board c.args.s in
    let run : IsRun book.leases book.entries = subst (λ (k : Kept). IsRun k.book.leases k.book.entries) c.session-book.ensures c.entries-journal.ensures.run in
    let finds = c.grants_find_nobody.ensures.grants book.leases book.entries c.args.library c.args.from c.in-Granted.lease c.in-Granted.start run (sym c.in_ok-reply.ensures.reply ∙ c.in-Granted.is) in
    sym (ap is_running c.requires.agrees.lines) ∙ not_running (lines_of book.entries) finds.nobody (c.grants_find_nobody.ensures.libraries book.leases book.entries run)

pub returns-in-Granted-clause-in_step : goal.returns-in-Granted-clause-in_step
returns-in-Granted-clause-in_step c =
    let old = c.args.self.now in
    let new = c.request.new.self in
    let news = c.in_ok-reply.ensures in
    let known = engine_at old.seat c.args.s in
    let bound = ap bound_of news.book ∙ request_bound c.entries_decide_one_by_one.ensures.state c.args.library c.args.nr c.args.from (book_at old.board c.args.s) in
    session_in_step c.args.s old.board new old.seat c.grant.new.seat (after_grant known c.args.library) news.others c.grant.ensures.seat (ap (λ (b : Book). b.leases) news.book)
    (granted_agrees c.args.s c.args.library c.in-Granted.lease c.in-Granted.start old.board new c.grant.new.seat known c.in_ok-reply.reply c.in-Granted.is c.requires.agrees.lines c.requires.agrees.published news.lines
    (ap (λ (b : Book). length b.inbound) news.book) c.grant.ensures.session c.grant.ensures.pending)
    (λ sound. subst IsSound (sym news.others) (c.boards_stay_sound.ensures.session old.board c.args.s (session_at new c.args.s) c.requires.session bound sound))

pub returns-in_default-clause-in_step : goal.returns-in_default-clause-in_step
returns-in_default-clause-in_step c =
    let old = c.args.self.now in
    let new = c.request.new.self in
    let news = c.in_ok-reply.ensures in
    let bound = ap bound_of news.book ∙ request_bound c.entries_decide_one_by_one.ensures.state c.args.library c.args.nr c.args.from (book_at old.board c.args.s) in
    session_in_step c.args.s old.board new old.seat old.seat (engine_at old.seat c.args.s) news.others (seat_same old.seat c.args.s) (ap (λ (b : Book). b.leases) news.book)
    (refused_agrees c.args.s c.args.library old.board new old.seat c.in_ok-reply.reply c.in_default.field-0 c.in_default.is c.requires.agrees news.lines (ap (λ (b : Book). length b.inbound) news.book))
    (λ sound. subst IsSound (sym news.others) (c.boards_stay_sound.ensures.session old.board c.args.s (session_at new c.args.s) c.requires.session bound sound))

pub returns-in-Granted-clause-granted : goal.returns-in-Granted-clause-granted
returns-in-Granted-clause-granted c =
    let book = book_at c.args.self.now.board c.args.s in
    let run : IsRun book.leases book.entries = subst (λ (k : Kept). IsRun k.book.leases k.book.entries) c.session-book.ensures c.entries-journal.ensures.run in
    let is_book : IsBook book = subst (λ (k : Kept). IsBook k.book) c.session-book.ensures c.expected-expected.ensures.book in
    let finds = c.grants_find_nobody.ensures.grants book.leases book.entries c.args.library c.args.from c.in-Granted.lease c.in-Granted.start run (sym c.in_ok-reply.ensures.reply ∙ c.in-Granted.is) in
    let long = is_book.inbound in
    let end = finds.end in
    let within = finds.within in
    subst (λ reply. OnGranted reply (IsGrant c.args.self.now.board c.args.s c.args.from)) (sym c.in-Granted.is)
    (record { next = finds.next; end = end ∙ sym long; within = (let w : c.args.from ≤ length book.inbound = omega arith in w) })
