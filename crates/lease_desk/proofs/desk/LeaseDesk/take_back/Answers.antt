use Rattle.std.proofs.Common.{length, ap, ◌∙◌}
use Rattle.lease_core.specs.Lines.{lines_of, missing_sends, raised, taken_back}
use Rattle.lease_words.specs.Leases.{is_running}
use Rattle.lease_words.specs.Views.{engine_at, pending}
use Rattle.switchboard.specs.Book.{Desk}
use Rattle.switchboard.specs.Board.{book_at, place_at}
use Rattle.lease_words.specs.Sees.{after_revoke}
use Rattle.lease_desk.specs.Desk.{after_takes}
use Rattle.lease_desk.proofs.Gathers.{all_taken, news_agree, rests_agree, still_ended, takes_back}
use Rattle.lease_desk.proofs.GoingOn.{ended_keeps, one_goes_on}
use Rattle.lease_desk.proofs.InStep.{desk_in_step, desk_others, within_of}
use Rattle.lease_desk.proofs.desk.LeaseDesk.take_back.Goals as goal

pub returns-clause-taken_back : goal.returns-clause-taken_back
returns-clause-taken_back c =
    let agrees = rests_agree c.args.s c.args.self.now c.make_room.new.self c.make_room.ensures.rests c.requires.agrees in
    let known = engine_at c.make_room.new.self.seat c.args.s in
    let word = c.revoke-word.result in
    takes_back c.args.s c.args.at c.args.until word c.args.self.now c.make_room.new.self (record { board = c.time_out.new.self; seat = c.take_all.new.seat; bodies = c.time_out.new.bodies }) c.revoke-word.new.seat c.take_all.new.bodies.items
    c.requires.place c.make_room.ensures.rests c.revoke-word.ensures.word c.take_all.ensures.takes
    (all_taken (length c.take_all.new.bodies.items) (pending (engine_at c.revoke-word.new.seat c.args.s)) (pending known) (missing_sends known.lines word) c.take_all.ensures.count c.revoke-word.ensures.pending agrees.taken)
    c.time_out.ensures.others c.time_out.ensures.bound c.revoke-word.ensures.seat c.revoke-word.ensures.session c.time_out.ensures.news c.time_out.ensures.happens

pub returns-clause-agrees : goal.returns-clause-agrees
returns-clause-agrees c =
    let agrees = rests_agree c.args.s c.args.self.now c.make_room.new.self c.make_room.ensures.rests c.requires.agrees in
    let known = engine_at c.make_room.new.self.seat c.args.s in
    news_agree c.args.s c.time_out.new.self c.take_all.new.seat (taken_back c.revoke-word.result.standing (raised known.lines c.revoke-word.result)) known.published (length (book_at c.make_room.new.self.board c.args.s).inbound) c.take_all.ensures.takes.items (engine_at c.revoke-word.new.seat c.args.s)
    (c.time_out.ensures.lines ∙ ap (λ lines. taken_back c.revoke-word.result.standing (raised lines c.revoke-word.result)) agrees.lines) (ap (λ es. es.lines) c.revoke-word.ensures.session) (ap (λ es. es.published) c.revoke-word.ensures.session) agrees.published
    (ap (λ (d : Desk). length d.book.inbound) c.time_out.ensures.news) c.take_all.ensures.takes.known c.take_all.ensures.none_left

pub returns-clause-ended : goal.returns-clause-ended
returns-clause-ended c =
    still_ended c.take_all.ensures.takes.items (engine_at c.revoke-word.new.seat c.args.s) (engine_at c.take_all.new.seat c.args.s) c.take_all.ensures.takes.known c.revoke-word.ensures.ended

pub returns-clause-in_step : goal.returns-clause-in_step
returns-clause-in_step c =
    let old = c.args.self.now in
    let new = c.time_out.new.self in
    let news = returns-clause-taken_back c in
    let place = place_at old.board c.args.s in
    desk_in_step c.args.s place old.board new old.seat c.take_all.new.seat (after_takes news.items (after_revoke (engine_at old.seat c.args.s) news.word)) news.others news.seat
    (ap (λ (d : Desk). d.book.leases) news.desk) (returns-clause-agrees c)
    (c.boards_stay_sound.ensures.desk c.args.s place old.board new c.requires.session (within_of place (length old.board.connections) c.requires.place) news.others news.bound)

pub returns-clause-goes_on : goal.returns-clause-goes_on
returns-clause-goes_on c =
    let old = c.args.self.now.board in
    let new = c.time_out.new.self in
    let news = returns-clause-taken_back c in
    one_goes_on c.lines_tell_the_owner.ensures.owner c.args.s old new (λ j other. desk_others c.args.s j (place_at old c.args.s) old new news.others other)
    (ap (λ (d : Desk). length d.book.inbound) news.desk)
    (ended_keeps (lines_of (book_at old c.args.s).entries) (lines_of (book_at new c.args.s).entries) (ap is_running (returns-clause-agrees c).lines ∙ returns-clause-ended c))
