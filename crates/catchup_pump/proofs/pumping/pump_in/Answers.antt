use Rattle.std.proofs.Common.{arith, rules}
use Rattle.catchup_pump.proofs.Messages.{gone_on}
use Rattle.catchup_pump.proofs.pumping.pump_in.Goals as goal

pub loop-pos-preserved : goal.loop-pos-preserved
loop-pos-preserved g c =
    let before = c.loop-pos.invariant in
    let moved = rw c.in-None.is at c.in_ok-push_next.ensures.moved in
    let pushed = rw c.in-None.is at c.in_ok-push_next.ensures.pushed in
    let on = gone_on c.args.cursor.now c.loop-pos.cursor c.push_next.new.cursor c.args.log.now.items c.loop-pos.pos c.args.tail.now.pushed c.loop-pos.tail.pushed c.push_next.new.tail.pushed c.loop-pos.auto.pos before.cursor_is moved before.pushed pushed in
    let step = c.push_next.ensures in
    record {
      cursor_is = on.0;
      pushed = on.1;
      ring = search rules;
      told = search rules;
      later = omega arith;
      loads = omega arith;
      heard = λ h. omega arith;
    }
