use Rattle.std.proofs.Common.{◌≡◌, take}
use Rattle.lease_words.specs.Registries.{lines_of_each}
use Rattle.lease_words.specs.Tokens.{IsOutset}
use Rattle.lease_words.proofs.leases.Leases.gather.Given as goal

abbrev pub invariant-loop-s : goal.invariant-loop-s
invariant-loop-s l = record {
  outset : IsOutset l.outset;
  before : l.outset.before ≡ lines_of_each (take l.s l.journals);
  sessions : l.outset.sessions ≡ l.sessions;
  libraries : l.outset.libraries ≡ l.libraries;
}
