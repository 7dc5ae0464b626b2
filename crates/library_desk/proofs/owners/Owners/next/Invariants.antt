use Rattle.library_desk.specs.Owners.{HasNone}
use Rattle.library_desk.proofs.owners.Owners.next.Given as goal

abbrev pub invariant-loop-s : goal.invariant-loop-s
invariant-loop-s l = HasNone l.library l.from l.s l.self
