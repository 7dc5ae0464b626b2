use Rattle.std.proofs.Common.{◌≡◌, length, refl, sym, ◌∙◌, arith}
use Rattle.std.proofs.lemmas.Option.{get_or_from_slice_get, slice_get_read}
use Rattle.std.specs.Prelude.{Some, slice_get}
use Rattle.script_run.proofs.Seated.{on_ok, one_set, stays_caller}
use Rattle.script_run.proofs.run.Run.call_at.Goals as goal

pub index-requires-2 : goal.index-requires-2
index-requires-2 c = (let place = c.requires.place in let count = c.requires.running.callers.notices in omega arith)

pub call-requires-clause-table : goal.call-requires-clause-table
call-requires-clause-table c =
    let found = slice_get_read c.args.self.now.callers.items _ c.args.place c.index_mut.result.now refl c.requires.place c.index_mut.ensures.value in
    (c.requires.running.callers.each c.args.place c.index_mut.result.now found).table

pub call-requires-clause-tail : goal.call-requires-clause-tail
call-requires-clause-tail c =
    let found = slice_get_read c.args.self.now.callers.items _ c.args.place c.index_mut.result.now refl c.requires.place c.index_mut.ensures.value in
    let at = (c.requires.running.callers.each c.args.place c.index_mut.result.now found).commands in
    sym (get_or_from_slice_get c.args.shared.now.commands.items c.args.place _ c.index.result.now at) ∙ sym c.index.ensures

pub call-requires-clause-head : goal.call-requires-clause-head
call-requires-clause-head c =
    let found = slice_get_read c.args.self.now.callers.items _ c.args.place c.index_mut.result.now refl c.requires.place c.index_mut.ensures.value in
    let at = (c.requires.running.callers.each c.args.place c.index_mut.result.now found).notices in
    sym (get_or_from_slice_get c.args.shared.now.notices.items c.args.place _ c.index-2.result.now at) ∙ sym c.index-2.ensures

pub returns-clause-calls : goal.returns-clause-calls
returns-clause-calls c =
    let found = slice_get_read c.args.self.now.callers.items _ c.args.place c.index_mut.result.now refl c.requires.place c.index_mut.ensures.value in
    on_ok c.call.result (λ calls. record {
      caller = record { before = c.index_mut.result.now; after = c.call.new.self; found = found; changes = calls; callers = refl };
      rest = refl;
    }) c.call.ensures.calls

pub returns-clause-running : goal.returns-clause-running
returns-clause-running c =
    let found = slice_get_read c.args.self.now.callers.items _ c.args.place c.index_mut.result.now refl c.requires.place c.index_mut.ensures.value in
    let was = c.requires.running.callers.each c.args.place c.index_mut.result.now found in
    record {
      engine = c.requires.running.engine;
      callers = one_set c.args.shared.now c.args.self.now.callers.items c.args.place c.call.new.self c.requires.running.callers
          (stays_caller c.args.shared.now c.args.place c.index_mut.result.now c.call.new.self c.call.ensures.number c.call.ensures.belongings was);
    }
