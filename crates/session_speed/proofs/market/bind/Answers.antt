use Rattle.std.proofs.Common.{refl}
use Rattle.switchboard.specs.Happenings.{binds}
use Rattle.session_speed.specs.declared.texts.TheConstants.{MORNING}
use Rattle.session_speed.proofs.market.bind.Goals as goal

pub returns-in-None : goal.returns-in-None
returns-in-None c =
    let happens = c.in_ok-end.ensures.happens c.args._names.now c.requires.logon c.requires.market.accepts c.requires.stands c.in-None.is in
    record { market = c.markets_stay_open.ensures.stays (binds 0 0 c.args.body.items MORNING) c.args.board.now c.bind.new.self refl happens c.requires.market }
