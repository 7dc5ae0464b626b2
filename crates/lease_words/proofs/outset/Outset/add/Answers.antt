use Rattle.std.proofs.Common.{◌≤◌, ◌∷◌, [], ◌++◌, arith, sym, ap, subst, refl, ◌∙◌}
use Rattle.lease_core.specs.declared.lease.Line.{Line}
use Rattle.lease_core.specs.declared.word.Word.{Word}
use Rattle.lease_core.specs.Lines.{word_of}
use Rattle.lease_words.specs.Registries.{ended_lines}
use Rattle.lease_words.proofs.Pasts.{is_past_of}
use Rattle.lease_words.proofs.Outsets.{outset_added}
use Rattle.lease_words.proofs.outset.Outset.add.Goals as goal

pub write_word-requires-clause-owner : goal.write_word-requires-clause-owner
write_word-requires-clause-owner c =
    let p = is_past_of c.args.journal.now c.in_ok-past.past.lines c.entries.ensures.run c.requires.journal (c.in_ok-past.ensures.lines ∙ ap ended_lines c.entries.ensures.entries) c.in_ok-past.ensures.counted in
    let few : c.word-word.result.owner ≤ 16 = subst (λ (w : Word). w.owner ≤ 16) (sym (c.word-word.ensures ∙ ap word_of p.lines_are)) p.owner in
    omega (arith, few)

pub returns-clause-outset : goal.returns-clause-outset
returns-clause-outset c =
    let p = is_past_of c.args.journal.now c.in_ok-past.past.lines c.entries.ensures.run c.requires.journal (c.in_ok-past.ensures.lines ∙ ap ended_lines c.entries.ensures.entries) c.in_ok-past.ensures.counted in
    outset_added c.args.self.now _ c.args.s c.write_word.result c.lease_word.result c.in_ok-past.past.lines c.in_ok-past.past.last c.word-word.result
    (record { lease = c.word-word.result.lease; library = c.in_ok-past.past.last.library; count = c.word-word.result.count; pending = 0 })
    c.requires.outset c.requires.next c.requires.room p.ended (c.word-word.ensures ∙ ap word_of p.lines_are) c.in_ok-past.ensures.last refl c.lease_word.ensures c.write_word.ensures.read refl refl c.in_ok-push_back.ensures.items refl refl

pub returns-clause-before : goal.returns-clause-before
returns-clause-before c =
    let p = is_past_of c.args.journal.now c.in_ok-past.past.lines c.entries.ensures.run c.requires.journal (c.in_ok-past.ensures.lines ∙ ap ended_lines c.entries.ensures.entries) c.in_ok-past.ensures.counted in
    c.in_ok-push_back.ensures.items ∙ ap (λ (l : Rattle.std.specs.Prelude.List Line). c.args.self.now.before ++ l ∷ []) (sym p.lines_are)
