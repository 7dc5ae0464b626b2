use Rattle.std.proofs.Common.{length-drop, arith}
use Rattle.std.proofs.lemmas.List.{take_rest}
use Rattle.gate_io.proofs.WholeFacts.{HasTaken-more}
use Rattle.gate_io.proofs.whole.write_all.Goals as goal

pub writing-preserved : goal.writing-preserved
writing-preserved g c = record {
  within = omega (arith, c.in-Bytes.ensures.within, length-drop c.writing.done c.args.bytes.now);
  taken = HasTaken-more _ _ _ _ _ _ c.writing.invariant.taken (rw take_rest at c.in-Bytes.ensures.content);
  faults = omega (arith, c.writing.invariant.faults, c.in-Bytes.ensures.faults_kept);
}
