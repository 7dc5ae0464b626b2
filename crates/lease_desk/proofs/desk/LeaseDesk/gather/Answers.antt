use Rattle.std.proofs.Common.{length, ap, subst, sym, ◌∙◌}
use Rattle.lease_core.specs.Laws.{KeepsLease}
use Rattle.lease_core.specs.Lines.{lines_of, missing_sends, raised}
use Rattle.lease_words.specs.declared.view.EngineSession.{EngineSession}
use Rattle.lease_words.specs.Facts.{OthersTaken}
use Rattle.lease_words.specs.Leases.{Each}
use Rattle.lease_words.specs.Tells.{IsSettled}
use Rattle.lease_words.specs.Views.{EngineView, engine_at, pending}
use Rattle.switchboard.specs.Book.{Desk}
use Rattle.switchboard.specs.Board.{book_at, place_at}
use Rattle.lease_words.specs.Sees.{after_look}
use Rattle.lease_desk.specs.Desk.{after_takes}
use Rattle.lease_desk.proofs.Gathers.{all_taken, bodies_fit, gathers, news_agree, rests_agree, takes_lines}
use Rattle.lease_desk.proofs.GoingOn.{one_goes_on}
use Rattle.lease_desk.proofs.InStep.{desk_in_step, desk_others, within_of}
use Rattle.lease_desk.proofs.desk.LeaseDesk.gather.Goals as goal

pub show-requires-clause-bodies : goal.show-requires-clause-bodies
show-requires-clause-bodies c =
    let agrees = rests_agree c.args.s c.args.self.now c.make_room.new.self c.make_room.ensures.rests c.requires.agrees in
    let known = engine_at c.make_room.new.self.seat c.args.s in
    let word = c.look-word.result in
    bodies_fit (book_at c.make_room.new.self.board c.args.s).entries known word (length c.take_all.new.bodies.items) agrees.lines c.look-word.ensures.word
    (all_taken (length c.take_all.new.bodies.items) (pending (engine_at c.look-word.new.seat c.args.s)) (pending known) (missing_sends known.lines word) c.take_all.ensures.count c.look-word.ensures.pending agrees.taken)

pub returns-clause-gathers : goal.returns-clause-gathers
returns-clause-gathers c =
    let agrees = rests_agree c.args.s c.args.self.now c.make_room.new.self c.make_room.ensures.rests c.requires.agrees in
    let known = engine_at c.make_room.new.self.seat c.args.s in
    let word = c.look-word.result in
    gathers c.args.s c.args.at c.args.until word c.args.self.now c.make_room.new.self (record { board = c.show.new.self; seat = c.take_all.new.seat; bodies = c.show.new.bodies }) c.look-word.new.seat c.take_all.new.bodies.items
    c.requires.place c.make_room.ensures.rests c.look-word.ensures.word c.take_all.ensures.takes
    (all_taken (length c.take_all.new.bodies.items) (pending (engine_at c.look-word.new.seat c.args.s)) (pending known) (missing_sends known.lines word) c.take_all.ensures.count c.look-word.ensures.pending agrees.taken)
    c.show.ensures.others c.show.ensures.bound c.look-word.ensures.seat c.look-word.ensures.session c.show.ensures.news c.show.ensures.happens

pub returns-clause-agrees : goal.returns-clause-agrees
returns-clause-agrees c =
    let agrees = rests_agree c.args.s c.args.self.now c.make_room.new.self c.make_room.ensures.rests c.requires.agrees in
    let known = engine_at c.make_room.new.self.seat c.args.s in
    news_agree c.args.s c.show.new.self c.take_all.new.seat (raised known.lines c.look-word.result) known.published (length (book_at c.make_room.new.self.board c.args.s).inbound) c.take_all.ensures.takes.items (engine_at c.look-word.new.seat c.args.s)
    (c.show.ensures.lines ∙ ap (λ lines. raised lines c.look-word.result) agrees.lines) (ap (λ es. es.lines) c.look-word.ensures.session) (ap (λ es. es.published) c.look-word.ensures.session) agrees.published
    (ap (λ (d : Desk). length d.book.inbound) c.show.ensures.news) c.take_all.ensures.takes.known c.take_all.ensures.none_left

pub returns-clause-settled : goal.returns-clause-settled
returns-clause-settled c =
    let looked : Each (IsSettled c.args.s (engine_at c.look-word.new.seat c.args.s)) c.look-word.new.seat.settled =
    subst (λ (v : EngineView). Each (IsSettled c.args.s (engine_at c.look-word.new.seat c.args.s)) v.settled) (sym c.look-word.ensures.seat)
    (subst (λ (es : EngineSession). Each (IsSettled c.args.s es) c.make_room.new.self.seat.settled) (sym c.look-word.ensures.session) c.look-word.ensures.settled) in
    c.take_all.ensures.settled looked

pub returns-clause-others_taken : goal.returns-clause-others_taken
returns-clause-others_taken c =
    c.take_all.ensures.others_taken (subst (OthersTaken c.args.leases.now.shape.libraries) (sym c.look-word.ensures.session) c.look-word.ensures.others)

pub returns-clause-in_step : goal.returns-clause-in_step
returns-clause-in_step c =
    let old = c.args.self.now in
    let new = c.show.new.self in
    let news = returns-clause-gathers c in
    let place = place_at old.board c.args.s in
    desk_in_step c.args.s place old.board new old.seat c.take_all.new.seat (after_takes news.items (after_look (engine_at old.seat c.args.s) news.word)) news.others news.seat
    (ap (λ (d : Desk). d.book.leases) news.desk) (returns-clause-agrees c)
    (c.boards_stay_sound.ensures.desk c.args.s place old.board new c.requires.session (within_of place (length old.board.connections) c.requires.place) news.others news.bound)

pub returns-clause-goes_on : goal.returns-clause-goes_on
returns-clause-goes_on c =
    let old = c.args.self.now.board in
    let new = c.show.new.self in
    let news = returns-clause-gathers c in
    one_goes_on c.lines_tell_the_owner.ensures.owner c.args.s old new (λ j other. desk_others c.args.s j (place_at old c.args.s) old new news.others other)
    (ap (λ (d : Desk). length d.book.inbound) news.desk)
    (subst (KeepsLease (lines_of (book_at old c.args.s).entries))
    (sym ((returns-clause-agrees c).lines ∙ ap (λ (es : EngineSession). es.lines) news.known ∙ takes_lines news.items (after_look (engine_at c.args.self.now.seat c.args.s) news.word) ∙ ap (λ lines. raised lines news.word) (sym c.requires.agrees.lines)))
    (c.words_raise_lines.ensures.kept (lines_of (book_at old c.args.s).entries) news.word))
