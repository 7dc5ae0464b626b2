use Rattle.std.proofs.Common.{refl}
use Rattle.switchboard.specs.Happenings.{gives}
use Rattle.session_speed.proofs.market.next.Goals as goal

pub returns : goal.returns
returns c = record { market = c.markets_stay_open.ensures.stays (gives 0) c.args.board.now c.next.new.self refl c.in_ok-piece.ensures.happens c.requires.market }
