use Rattle.std.proofs.Common.{◌≡◌, List, [], ◌∷◌, ◌++◌, length, append_assoc, refl, sym, ap, subst, ◌∙◌}
use Rattle.std.specs.Prelude.{Some, slice_get}
use Rattle.serve_run.specs.Workers.{StartsWorker}
use Rattle.serve_run.specs.declared.workers.Worker.{Worker}
use Rattle.serve_run.proofs.Places.{one_behind, push_each, two_more}
use Rattle.serve_run.proofs.starting.workers.Goals as goal

pub worker-requires : goal.worker-requires
worker-requires c =
    let was = c.loop-one.invariant in
    let place : c.count_of-place.result ≡ length c.loop-one.yielded = c.count_of-place.ensures ∙ ap (λ (workers : List Worker). length workers) c.as_slice.ensures.value ∙ was.started.as_many in
    let found : slice_get c.into_iter-one-iterator.result.rest.items c.count_of-place.result ≡ Some c.in-Some.one =
    one_behind c.loop-one.yielded c.in-Some.one c.loop-one.one-iterator.rest.items c.next.new.self.rest.items _ c.count_of-place.result place was.ends_are c.in-Some.ensures.steps.0 in
    let gives = c.into_iter-one-iterator.ensures.into_iter_gives in
    c.requires.each c.count_of-place.result c.in-Some.one (subst (λ items. slice_get items c.count_of-place.result ≡ Some c.in-Some.one) gives.0 found)

pub loop-one-preserved : goal.loop-one-preserved
loop-one-preserved c =
    let was = c.loop-one.invariant in
    record {
      started = record {
        as_many = ap (λ items. length items) c.in_ok-push.ensures.items ∙ two_more c.loop-one.workers.items c.loop-one.yielded c.worker.result c.in-Some.one was.started.as_many;
        each = subst (λ items. (place : _) (worker : _) → slice_get items place ≡ Some worker → StartsWorker c.args.asks c.args._shared.now [] place worker) (sym c.in_ok-push.ensures.items)
            (push_each (StartsWorker c.args.asks c.args._shared.now []) c.loop-one.workers.items c.worker.result was.started.each (subst (λ n. StartsWorker c.args.asks c.args._shared.now [] n c.worker.result) (c.count_of-place.ensures ∙ ap (λ (workers : List Worker). length workers) c.as_slice.ensures.value) c.worker.ensures));
      };
      ends_are = append_assoc c.loop-one.yielded (c.in-Some.one ∷ []) c.next.new.self.rest.items ∙ ap (λ xs. c.loop-one.yielded ++ xs) (sym c.in-Some.ensures.steps.0) ∙ was.ends_are;
    }
