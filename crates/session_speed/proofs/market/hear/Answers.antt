use Rattle.std.proofs.Common.{◌≡◌, Some, refl}
use Rattle.switchboard.specs.Board.{place_at}
use Rattle.switchboard.specs.Happenings.{receives}
use Rattle.session_speed.specs.declared.texts.TheConstants.{MORNING}
use Rattle.session_speed.proofs.market.hear.Goals as goal

pub returns-in-None : goal.returns-in-None
returns-in-None c =
    let placed : place_at c.args.board.now 0 ≡ Some c.in-Some.k = (let there = c.place.ensures in let some = c.in-Some.is in (cc)) in
    record { market = c.markets_stay_open.ensures.stays (receives 0 c.in-Some.k c.args.body.items MORNING) c.args.board.now c.receive.new.self refl (c.in_ok-end.ensures.happens placed) c.requires.market }
