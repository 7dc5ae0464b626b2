use Rattle.std.proofs.Common.{◌≡◌, Some, refl, arith}
use Rattle.switchboard.specs.Board.{place_at}
use Rattle.switchboard.specs.Happenings.{prepares}
use Rattle.switchboard.specs.Sound.{IsPlugged}
use Rattle.session_speed.proofs.market.prepare.Goals as goal

pub prepare-requires-clause-named : goal.prepare-requires-clause-named
prepare-requires-clause-named c =
    let was = c.requires.market in
    let board = c.args.board.now in
    let k = c.in-Some.k in
    let placed : place_at board 0 ≡ Some k = (let there = c.place.ensures in let some = c.in-Some.is in (cc)) in
    let plugged : IsPlugged board 0 k = c.ready_boards_allow.ensures.plugged was.before board 0 k was.ready (let one = was.one in omega arith) placed in
    c.ready_boards_allow.ensures.named was.before board 0 k was.ready plugged.within plugged.names

pub returns : goal.returns
returns c =
    let was = c.requires.market in
    let board = c.args.board.now in
    let k = c.in-Some.k in
    let placed : place_at board 0 ≡ Some k = (let there = c.place.ensures in let some = c.in-Some.is in (cc)) in
    let plugged : IsPlugged board 0 k = c.ready_boards_allow.ensures.plugged was.before board 0 k was.ready (let one = was.one in omega arith) placed in
    record { market = c.markets_stay_open.ensures.stays (prepares 0 k) board c.prepare.new.self refl (c.prepare.ensures.happens plugged.names) was }
