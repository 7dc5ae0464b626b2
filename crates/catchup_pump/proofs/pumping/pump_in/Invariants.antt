use Rattle.std.proofs.Common.{◌≡◌, ◌-◌, ◌<◌, ◌≤◌, ◌++◌}
use Rattle.catchup_pump.specs.Pump.{messages_from}
use Rattle.catchup_pump.proofs.pumping.pump_in.Given as goal

abbrev pub invariant-loop-pos : goal.invariant-loop-pos
invariant-loop-pos g l = record {
  cursor_is : l.cursor ≡ record l.initial.cursor { at = l.pos };
  pushed : l.tail.pushed ≡ l.initial.tail.pushed ++ messages_from l.initial.cursor l.log.items (l.pos - l.initial.cursor.at);
  ring : l.tail.ring ≡ l.initial.tail.ring;
  told : l.tail.told ≡ l.initial.tail.told;
  later : l.initial.tail.taken ≤ l.tail.taken;
  loads : l.initial.tail.loads ≤ l.tail.loads;
  heard : l.initial.tail.loads < l.tail.loads → l.initial.tail.told ≤ l.tail.taken;
}
