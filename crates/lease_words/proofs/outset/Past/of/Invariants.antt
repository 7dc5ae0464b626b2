use Rattle.std.proofs.Common.{◌≡◌, take}
use Rattle.lease_core.specs.Lines.{last_line}
use Rattle.lease_words.specs.Registries.{ended_lines, AreCounted}
use Rattle.lease_words.proofs.outset.Past.of.Given as goal

abbrev pub invariant-loop-entry : goal.invariant-loop-entry
invariant-loop-entry l = record {
  lines : l.lines ≡ ended_lines (take l.entry-index l.entries);
  last : l.last ≡ last_line l.lines;
  counted : AreCounted l.lines;
}
