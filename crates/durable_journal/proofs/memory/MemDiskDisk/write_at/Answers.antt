use Rattle.std.proofs.Common.{◌≡◌, ◌++◌, ◌∷◌, ◌∙◌, [], List, ℕ, Some, inr, length, sym, ap, subst, rules, arith}
use Rattle.std.proofs.lemmas.Bool.Decides.{nat_tests}
use Rattle.durable_journal.specs.declared.memory.DiskStep.{DiskStep}
use Rattle.durable_journal.specs.declared.memory.DiskStep.TheVariants.{Wrote}
use Rattle.durable_journal.specs.Disk.{Write, after_step, with_piece}
use Rattle.durable_journal.specs.Memory.{MemoryState, IsMemory, steps_of, after_write}
use Rattle.durable_journal.proofs.Steps.{steps_torn, steps_wrote, memory_torn, memory_wrote, history_of, after_torn_is, after_wrote_is}
use Rattle.durable_journal.proofs.memory.MemDiskDisk.write_at.Goals as goal

pub invariant_of-self-then-fails : goal.invariant_of-self-then-fails
invariant_of-self-then-fails c =
    let i = c.self.inside in
    let size = length c.args.piece.now in
    let items : c.push.new.self.items ≡ i.steps.items ++ Wrote c.args.at size 0 ∷ [] = search rules in
    (subst (λ (r : List DiskStep). IsMemory i.first.items i.bytes.items i.written.items r) (sym items) (memory_torn i.first.items i.bytes.items i.written.items i.steps.items c.args.at size c.self.invariant.0), search rules, search rules, search rules)

pub returns-then-fails-clause-after : goal.returns-then-fails-clause-after
returns-then-fails-clause-after c =
    let i = c.self.inside in
    let size = length c.args.piece.now in
    let items : c.push.new.self.items ≡ i.steps.items ++ Wrote c.args.at size 0 ∷ [] = search rules in
    let view : MemoryState = record { history = record { first = i.first.items; steps = steps_of [] i.steps.items i.written.items }; room = i.room; spare = i.spare; fails = i.fails.items; calls = i.calls; faults = i.faults } in
    let steps : steps_of [] c.push.new.self.items i.written.items ≡ Write c.args.at size [] ∷ steps_of [] i.steps.items i.written.items = ap (λ (r : List DiskStep). steps_of [] r i.written.items) items ∙ steps_torn i.first.items i.bytes.items i.written.items i.steps.items c.args.at size c.self.invariant.0 in
    after_torn_is view c.args.at c.args.piece.now (grind (arith, nat_tests, c.if-self-eq0.false)) (search rules) (steps_of [] c.push.new.self.items i.written.items) steps c.saturating_add-self-inside.result (search rules) c.saturating_add-self-inside-then-fails.result (search rules)
    ∙ ap (λ (v : MemoryState). after_write v c.args.at c.args.piece.now) c.self.view_is

pub returns-then-fails-clause-torn : goal.returns-then-fails-clause-torn
returns-then-fails-clause-torn c =
    let i = c.self.inside in
    let size = length c.args.piece.now in
    let items : c.push.new.self.items ≡ i.steps.items ++ Wrote c.args.at size 0 ∷ [] = search rules in
    let steps : steps_of [] c.push.new.self.items i.written.items ≡ Write c.args.at size [] ∷ steps_of [] i.steps.items i.written.items = ap (λ (r : List DiskStep). steps_of [] r i.written.items) items ∙ steps_torn i.first.items i.bytes.items i.written.items i.steps.items c.args.at size c.self.invariant.0 in
    inr ([], omega arith, ap (history_of i.first.items) steps ∙ ap (λ (v : MemoryState). Some (after_step (Write c.args.at size []) v.history)) c.self.view_is)

pub invariant_of-self-2 : goal.invariant_of-self-2
invariant_of-self-2 c =
    let i = c.self.inside in
    let p = c.args.piece.now in
    let items : c.push-2.new.self.items ≡ i.steps.items ++ Wrote c.args.at (length p) (length p) ∷ [] = search rules in
    let written : c.extend_from_slice.new.self.items ≡ i.written.items ++ p = search rules in
    let bytes : c.write_over.new.bytes.items ≡ with_piece i.bytes.items c.args.at p = c.write_over.ensures.bytes in (
      subst (λ (r : List DiskStep). IsMemory i.first.items c.write_over.new.bytes.items c.extend_from_slice.new.self.items r) (sym items)
          (subst (λ (w : List ℕ). IsMemory i.first.items c.write_over.new.bytes.items w (i.steps.items ++ Wrote c.args.at (length p) (length p) ∷ [])) (sym written)
          (subst (λ (b : List ℕ). IsMemory i.first.items b (i.written.items ++ p) (i.steps.items ++ Wrote c.args.at (length p) (length p) ∷ [])) (sym bytes)
          (memory_wrote i.first.items i.bytes.items i.written.items i.steps.items c.args.at (length p) p c.self.invariant.0))),
      search rules,
      search rules,
      search rules,
    )

pub returns-clause-after : goal.returns-clause-after
returns-clause-after c =
    let i = c.self.inside in
    let p = c.args.piece.now in
    let items : c.push-2.new.self.items ≡ i.steps.items ++ Wrote c.args.at (length p) (length p) ∷ [] = search rules in
    let written : c.extend_from_slice.new.self.items ≡ i.written.items ++ p = search rules in
    let view : MemoryState = record { history = record { first = i.first.items; steps = steps_of [] i.steps.items i.written.items }; room = i.room; spare = i.spare; fails = i.fails.items; calls = i.calls; faults = i.faults } in
    let steps : steps_of [] c.push-2.new.self.items c.extend_from_slice.new.self.items ≡ Write c.args.at (length p) p ∷ steps_of [] i.steps.items i.written.items =
    (λ j. steps_of [] (items j) (written j)) ∙ steps_wrote i.first.items i.bytes.items i.written.items i.steps.items c.args.at (length p) p c.self.invariant.0 in
    after_wrote_is view c.args.at p (grind (arith, nat_tests, c.if-self-eq0.false)) (search rules) (grind (arith, nat_tests, c.if-self-size.false)) (steps_of [] c.push-2.new.self.items c.extend_from_slice.new.self.items) steps c.saturating_add-self-inside.result (search rules)
    ∙ ap (λ (v : MemoryState). after_write v c.args.at p) c.self.view_is

pub returns-clause-written : goal.returns-clause-written
returns-clause-written c =
    let i = c.self.inside in
    let p = c.args.piece.now in
    let items : c.push-2.new.self.items ≡ i.steps.items ++ Wrote c.args.at (length p) (length p) ∷ [] = search rules in
    let written : c.extend_from_slice.new.self.items ≡ i.written.items ++ p = search rules in
    let steps : steps_of [] c.push-2.new.self.items c.extend_from_slice.new.self.items ≡ Write c.args.at (length p) p ∷ steps_of [] i.steps.items i.written.items =
    (λ j. steps_of [] (items j) (written j)) ∙ steps_wrote i.first.items i.bytes.items i.written.items i.steps.items c.args.at (length p) p c.self.invariant.0 in
    ap (history_of i.first.items) steps ∙ ap (λ (v : MemoryState). Some (after_step (Write c.args.at (length p) p) v.history)) c.self.view_is
