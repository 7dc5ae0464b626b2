use Rattle.std.proofs.Common.{refl}
use Rattle.switchboard.specs.Happenings.{reserves, shows}
use Rattle.session_speed.specs.declared.texts.TheConstants.{MORNING}
use Rattle.session_speed.proofs.market.Answerer.report.Goals as goal

pub returns : goal.returns
returns c =
    let reserved = c.markets_stay_open.ensures.stays (reserves 0) c.args.board.now c.reserve.new.self refl c.reserve.ensures.happens c.requires.market in
    record { market = c.markets_stay_open.ensures.stays (shows 0 _ _ MORNING MORNING) c.reserve.new.self c.show.new.self refl c.show.ensures.happens reserved }
