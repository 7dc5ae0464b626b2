use Rattle.std.proofs.Common.{◌≡◌, List, [], ◌∷◌, ◌++◌, length, append_assoc, refl, sym, ap, subst, ◌∙◌}
use Rattle.std.specs.Prelude.{Some, slice_get}
use Rattle.script_run.specs.Means.{StartsCaller}
use Rattle.script_run.specs.declared.callers.Caller.{Caller}
use Rattle.script_run.proofs.Places.{one_behind, push_each, two_more}
use Rattle.script_run.proofs.starting.callers.Goals as goal

pub caller-requires : goal.caller-requires
caller-requires c =
    let was = c.loop-one.invariant in
    let place : c.count_of-place.result ≡ length c.loop-one.yielded = c.count_of-place.ensures ∙ ap (λ (callers : List Caller). length callers) c.as_slice.ensures.value ∙ was.started.count in
    let found : slice_get c.into_iter-one-iterator.result.rest.items c.count_of-place.result ≡ Some c.in-Some.one =
    one_behind c.loop-one.yielded c.in-Some.one c.loop-one.one-iterator.rest.items c.next.new.self.rest.items _ c.count_of-place.result place was.ends_are c.in-Some.ensures.steps.0 in
    let gives = c.into_iter-one-iterator.ensures.into_iter_gives in
    c.requires.each c.count_of-place.result c.in-Some.one (subst (λ items. slice_get items c.count_of-place.result ≡ Some c.in-Some.one) gives.0 found)

pub loop-one-preserved : goal.loop-one-preserved
loop-one-preserved c =
    let was = c.loop-one.invariant in
    record {
      started = record {
        count = ap (λ items. length items) c.in_ok-push.ensures.items ∙ two_more c.loop-one.callers.items c.loop-one.yielded c.caller.result c.in-Some.one was.started.count;
        each = subst (λ items. (place : _) (caller : _) → slice_get items place ≡ Some caller → StartsCaller c.args.asks c.args._shared.now place caller) (sym c.in_ok-push.ensures.items)
            (push_each (StartsCaller c.args.asks c.args._shared.now) c.loop-one.callers.items c.caller.result was.started.each (subst (λ n. StartsCaller c.args.asks c.args._shared.now n c.caller.result) (c.count_of-place.ensures ∙ ap (λ (callers : List Caller). length callers) c.as_slice.ensures.value) c.caller.ensures));
      };
      ends_are = append_assoc c.loop-one.yielded (c.in-Some.one ∷ []) c.next.new.self.rest.items ∙ ap (λ xs. c.loop-one.yielded ++ xs) (sym c.in-Some.ensures.steps.0) ∙ was.ends_are;
    }
