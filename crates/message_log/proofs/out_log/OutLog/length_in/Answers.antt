-- a series is as long as its bounds are apart
use Rattle.std.proofs.Common.{◌-◌, ◌++◌, ◌∷◌, [], get_or, length, sym, ◌∙◌, ap, subst, refl, arith}
use Rattle.std.proofs.lemmas.Bool.{true≢false}
use Rattle.message_log.specs.declared.entry.OutEntry.{OutEntry}
use Rattle.message_log.specs.Series.{SeriesLog, series_at, IsNoSeries}
use Rattle.message_log.proofs.LogParts.{in_bounds, series_size, is_series, no_series_here, not_none}
use Rattle.message_log.proofs.out_log.OutLog.length_in.Goals as goal

pub returns-in_err-start-clause-none : goal.returns-in_err-start-clause-none
returns-in_err-start-clause-none g c =
    let inside = c.self.inside in
    let parts = c.self.invariant in
    let none = c.in_err-start.ensures.none.0 refl in
    rw c.from_residual.ensures (
      λ _. subst (λ (l : SeriesLog OutEntry). IsNoSeries l.series c.args.series) c.self.view_is (no_series_here inside.entries.items inside.starts.items inside.start inside.stretches.closed.items inside.stretches.growing parts c.args.series none),
      λ _. refl,
    )

pub overflow_sub-result : goal.overflow_sub-result
overflow_sub-result g c =
    let inside = c.self.inside in
    let parts = c.self.invariant in
    let there = is_series inside.entries.items inside.starts.items inside.start inside.stretches.closed.items inside.stretches.growing parts c.args.series (λ none. true≢false (c.in_ok-start.ensures.none.1 none)) in
    let ends = c.in_ok-start.ensures.end ∙ ap (λ n. get_or (inside.starts.items ++ n ∷ []) (c.args.series - 1) 0) c.len.ensures.length in
    (in_bounds inside.entries.items inside.starts.items inside.start inside.stretches.closed.items inside.stretches.growing parts c.args.series c.in_ok-start.start c.in_ok-start.end there.0 there.1 c.in_ok-start.ensures.start ends).0

pub returns-clause-length : goal.returns-clause-length
returns-clause-length g c =
    let inside = c.self.inside in
    let parts = c.self.invariant in
    let there = is_series inside.entries.items inside.starts.items inside.start inside.stretches.closed.items inside.stretches.growing parts c.args.series (λ none. true≢false (c.in_ok-start.ensures.none.1 none)) in
    let ends = c.in_ok-start.ensures.end ∙ ap (λ n. get_or (inside.starts.items ++ n ∷ []) (c.args.series - 1) 0) c.len.ensures.length in
    let size = series_size inside.entries.items inside.starts.items inside.start inside.stretches.closed.items inside.stretches.growing parts c.args.series c.in_ok-start.start c.in_ok-start.end there.0 there.1 c.in_ok-start.ensures.start ends in
    sym size ∙ ap (λ (l : SeriesLog OutEntry). length (series_at l.series c.args.series)) c.self.view_is

pub returns-clause-few : goal.returns-clause-few
returns-clause-few g c =
    let inside = c.self.inside in
    let parts = c.self.invariant in
    let there = is_series inside.entries.items inside.starts.items inside.start inside.stretches.closed.items inside.stretches.growing parts c.args.series (λ none. true≢false (c.in_ok-start.ensures.none.1 none)) in
    let ends = c.in_ok-start.ensures.end ∙ ap (λ n. get_or (inside.starts.items ++ n ∷ []) (c.args.series - 1) 0) c.len.ensures.length in
    let within = in_bounds inside.entries.items inside.starts.items inside.start inside.stretches.closed.items inside.stretches.growing parts c.args.series c.in_ok-start.start c.in_ok-start.end there.0 there.1 c.in_ok-start.ensures.start ends in
    omega (arith, within.1, c.len.ensures.length, c.len.ensures.few)

pub returns-clause-none : goal.returns-clause-none
returns-clause-none g c =
    let inside = c.self.inside in
    let parts = c.self.invariant in
    let there = is_series inside.entries.items inside.starts.items inside.start inside.stretches.closed.items inside.stretches.growing parts c.args.series (λ none. true≢false (c.in_ok-start.ensures.none.1 none)) in (
      λ e. absurd (true≢false e),
      λ none. absurd (not_none inside.entries.items inside.starts.items inside.start inside.stretches.closed.items inside.stretches.growing parts c.args.series there (subst (λ (l : SeriesLog OutEntry). IsNoSeries l.series c.args.series) (sym c.self.view_is) none)),
    )
