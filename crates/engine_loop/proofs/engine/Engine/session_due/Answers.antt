use Rattle.std.proofs.Common.{arith}
use Rattle.engine_loop.proofs.engine.Engine.session_due.Goals as goal

pub returns : goal.returns
returns c = λ moment until.
    let tick = c.tick_due-tick.ensures moment until in
    let lapse = c.lapse_due-lapse.ensures moment until in
    let dial = c.dial_due-dial.ensures moment until in
    let silence = c.silence_due-silence.ensures moment until in
    let two = c.min.ensures in
    let three = c.min-2.ensures in
    let four = c.min-3.ensures in (
      (λ quiet.
          let a = tick.0 quiet.ticks in
          let b = lapse.0 quiet.reserved in
          let c = dial.0 quiet.dials in
          let d = silence.0 quiet.library in
          omega (arith, a, b, c, d, two, three, four)),
      (λ below. record {
        ticks = tick.1 (omega (arith, below, two, three, four));
        reserved = lapse.1 (omega (arith, below, two, three, four));
        dials = dial.1 (omega (arith, below, two, three, four));
        library = silence.1 (omega (arith, below, two, three, four));
      }),
    )
