use Rattle.std.proofs.Common.{refl}
use Rattle.switchboard.specs.Happenings.{requests}
use Rattle.session_speed.proofs.market.take_session.Goals as goal

pub returns : goal.returns
returns c = record { market = c.markets_stay_open.ensures.stays (requests 0 1 1 0) c.args.board.now c.request.new.self refl c.in_ok-reply.ensures.happens c.requires.market }
