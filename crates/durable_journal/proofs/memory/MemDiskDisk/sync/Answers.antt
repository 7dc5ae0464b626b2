use Rattle.std.proofs.Common.{◌≡◌, ◌++◌, ◌∷◌, ◌∙◌, [], List, Some, false, sym, ap, subst, rules, arith}
use Rattle.std.proofs.lemmas.Bool.Decides.{nat_tests}
use Rattle.durable_journal.specs.declared.memory.DiskStep.{DiskStep}
use Rattle.durable_journal.specs.declared.memory.DiskStep.TheVariants.{Synced}
use Rattle.durable_journal.specs.Disk.{Sync, after_step}
use Rattle.durable_journal.specs.Memory.{MemoryState, IsMemory, steps_of, fails_now}
use Rattle.durable_journal.proofs.Steps.{steps_synced, memory_synced, after_sync, after_sync_is, history_of}
use Rattle.durable_journal.proofs.memory.MemDiskDisk.sync.Goals as goal

pub invariant_of-self-2 : goal.invariant_of-self-2
invariant_of-self-2 c =
    let i = c.self.inside in
    let items : c.push.new.self.items ≡ i.steps.items ++ Synced ∷ [] = search rules in
    (subst (λ (r : List DiskStep). IsMemory i.first.items i.bytes.items i.written.items r) (sym items) (memory_synced i.first.items i.bytes.items i.written.items i.steps.items c.self.invariant.0), search rules, search rules, search rules)

pub returns-clause-after : goal.returns-clause-after
returns-clause-after c =
    let i = c.self.inside in
    let items : c.push.new.self.items ≡ i.steps.items ++ Synced ∷ [] = search rules in
    let view : MemoryState = record { history = record { first = i.first.items; steps = steps_of [] i.steps.items i.written.items }; room = i.room; spare = i.spare; fails = i.fails.items; calls = i.calls; faults = i.faults } in
    let works : fails_now view ≡ false = grind (arith, nat_tests, c.contains-fails.ensures.value, c.if-fails.false, c.if-self-eq0.false) in
    let steps : steps_of [] c.push.new.self.items i.written.items ≡ Sync ∷ steps_of [] i.steps.items i.written.items = ap (λ (r : List DiskStep). steps_of [] r i.written.items) items ∙ steps_synced i.first.items i.bytes.items i.written.items i.steps.items c.self.invariant.0 in
    after_sync_is view works (steps_of [] c.push.new.self.items i.written.items) steps c.saturating_add-self-inside.result (search rules) ∙ ap after_sync c.self.view_is

pub returns-clause-synced : goal.returns-clause-synced
returns-clause-synced c =
    let i = c.self.inside in
    let items : c.push.new.self.items ≡ i.steps.items ++ Synced ∷ [] = search rules in
    let steps = ap (λ (r : List DiskStep). steps_of [] r i.written.items) items ∙ steps_synced i.first.items i.bytes.items i.written.items i.steps.items c.self.invariant.0 in
    ap (history_of i.first.items) steps ∙ ap (λ (v : MemoryState). Some (after_step Sync v.history)) c.self.view_is
