use Rattle.std.proofs.Common.{ap, ◌∙◌}
use Rattle.std.specs.Prelude.{replicate}
use Rattle.lease_words.proofs.Outsets.{outset_begins}
use Rattle.lease_words.proofs.outset.Outset.new.Goals as goal

pub returns-clause-outset : goal.returns-clause-outset
returns-clause-outset c = outset_begins _ c.new.ensures (c.in_ok-rows.ensures.items_if_clones_equal (λ y e. e)) (c.in_ok-words.ensures.items_if_clones_equal (λ y e. e) ∙ ap (λ n. replicate n 0) c.word_count.ensures)
