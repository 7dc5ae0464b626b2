use Rattle.std.proofs.Common.{◌≡◌, ◌-◌, ◌<◌, ◌^◌, List, ap, drop, subst, take, ◌∙◌, arith}
use Rattle.lease_core.specs.State.{series_of, state_of}
use Rattle.lease_core.specs.declared.entry.Entry.{Entry}
use Rattle.session_book.specs.Kept.{Kept}
use Rattle.session_book.specs.Records.{series_over}
use Rattle.session_book.proofs.Handing.{rest_is, series_split, series_sum}
use Rattle.session_book.proofs.book.SessionBook.series_behind.Goals as goal

pub resets-requires : goal.resets-requires
resets-requires c =
    let sum = series_sum c.entries_decide_one_by_one.ensures.states c.args.count _ c.self.invariant.0 in
    let rest = ap (λ (es : List Entry). series_over 0 es) (rest_is c.args.count _ ∙ ap (λ (es : List Entry). drop c.args.count es) c.entries-entries.ensures.entries) in
    omega (arith, sum, rest, c.series.ensures.present)

pub overflow_sub-result : goal.overflow_sub-result
overflow_sub-result c =
    let sum = series_sum c.entries_decide_one_by_one.ensures.states c.args.count _ c.self.invariant.0 in
    let rest = ap (λ (es : List Entry). series_over 0 es) (rest_is c.args.count _ ∙ ap (λ (es : List Entry). drop c.args.count es) c.entries-entries.ensures.entries) in
    omega (arith, sum, rest, c.series.ensures.present, c.resets.ensures)

pub returns-clause-series : goal.returns-clause-series
returns-clause-series c =
    let sum = series_sum c.entries_decide_one_by_one.ensures.states c.args.count _ c.self.invariant.0 in
    let rest = ap (λ (es : List Entry). series_over 0 es) (rest_is c.args.count _ ∙ ap (λ (es : List Entry). drop c.args.count es) c.entries-entries.ensures.entries) in
    let before : c.series.result - c.resets.result ≡ series_of (state_of (take c.args.count c.self.inside.registry.entries)) = omega (arith, sum, rest, c.series.ensures.present, c.resets.ensures) in
    before ∙ ap (λ (k : Kept). series_of (state_of (take c.args.count k.book.entries))) c.self.view_is

pub returns-clause-few : goal.returns-clause-few
returns-clause-few c =
    let decide = c.entries_decide_one_by_one.ensures.states in
    let sum = series_sum decide c.args.count _ c.self.invariant.0 in
    let split = series_split decide c.args.count _ c.self.invariant.0 in
    let rest = ap (λ (es : List Entry). series_over 0 es) (rest_is c.args.count _ ∙ ap (λ (es : List Entry). drop c.args.count es) c.entries-entries.ensures.entries) in
    let before : series_of (state_of (take c.args.count c.self.inside.registry.entries)) ≡ c.series.result - c.resets.result = omega (arith, sum, rest, c.series.ensures.present, c.resets.ensures) in
    let few : series_over (series_of (state_of (take c.args.count c.self.inside.registry.entries))) (drop c.args.count c.self.inside.registry.entries) < 2 ^ 32 = omega (arith, split, c.series.ensures.present) in
    subst (λ (k : Kept). series_over (c.series.result - c.resets.result) (drop c.args.count k.book.entries) < 2 ^ 32) c.self.view_is
    (subst (λ n. series_over n (drop c.args.count c.self.inside.registry.entries) < 2 ^ 32) before few)
