use Rattle.std.proofs.Common.{refl}
use Rattle.switchboard.specs.Happenings.{takes}
use Rattle.session_speed.proofs.market.take_in.Goals as goal

pub returns : goal.returns
returns c = record { market = c.markets_stay_open.ensures.stays (takes 0 c.args.bytes.now) c.args.board.now c.take_in.new.self refl c.in_ok-take_in.ensures.happens c.requires.market }
