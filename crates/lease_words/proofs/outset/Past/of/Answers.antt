use Rattle.std.proofs.Common.{rules, ◌++◌, sym, ap, subst, ◌∙◌, append-nil}
use Rattle.std.specs.Prelude.{option_to_list}
use Rattle.lease_core.specs.Lines.{no_line, last_line}
use Rattle.lease_words.specs.Registries.{AreCounted}
use Rattle.lease_words.proofs.Outsets.{one_more_ended, last_more, counted_more}
use Rattle.lease_words.proofs.outset.Past.of.Goals as goal
use Rattle.lease_words.proofs.outset.Past.of.Goals.{in-Some+in_ok-push_back, in_default}

pub loop-entry-preserved : goal.loop-entry-preserved
loop-entry-preserved c = elim c.match-ended_line.branch [
  | in-Some+in_ok-push_back w ↦ record {
    lines = one_more_ended c.args.entries.now c.loop-entry.entry-index _ _ _ _ (search rules) c.ended_line.ensures c.loop-entry.invariant.lines (w.lines-is ∙ (w.in_ok-push_back.ensures.items ∙ ap (λ o. c.loop-entry.lines ++ option_to_list o) (sym w.in-Some.is)));
    last = w.last-is ∙ (sym (last_more no_line c.loop-entry.lines w.in-Some.line) ∙ ap last_line (sym (w.lines-is ∙ w.in_ok-push_back.ensures.items)));
    counted = subst AreCounted (sym (w.lines-is ∙ w.in_ok-push_back.ensures.items)) (counted_more _ _ c.loop-entry.invariant.counted (search rules));
  }
  | in_default w ↦ record {
    lines = one_more_ended c.args.entries.now c.loop-entry.entry-index _ _ _ _ (search rules) c.ended_line.ensures c.loop-entry.invariant.lines (w.lines-is ∙ (sym (append-nil _) ∙ ap (λ o. c.loop-entry.lines ++ option_to_list o) (sym w.in_default.is)));
    last = w.last-is ∙ (c.loop-entry.invariant.last ∙ ap last_line (sym w.lines-is));
    counted = subst AreCounted (sym w.lines-is) c.loop-entry.invariant.counted;
  }
]
