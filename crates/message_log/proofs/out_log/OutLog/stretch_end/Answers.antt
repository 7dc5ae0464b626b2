-- the number is in the stretch at the log's end, in a closed one, or in none
use Rattle.std.proofs.Common.{◌≡◌, ◌-◌, ◌<◌, ◌≤◌, length, sym, ◌∙◌, ap, subst, refl, arith, List, Some, false}
use Rattle.std.proofs.lemmas.Bool.{true≢false}
use Rattle.message_log.specs.declared.entry.OutEntry.{OutEntry}
use Rattle.message_log.specs.Series.{SeriesLog, series_at, series_from}
use Rattle.message_log.specs.Stretches.{IsStretchEnd, is_session}
use Rattle.message_log.proofs.LogParts.{start_inside, present_size}
use Rattle.message_log.proofs.Sessions.{session-past}
use Rattle.message_log.proofs.StretchEnds.{end_at_last, none_exactly}
use Rattle.message_log.proofs.out_log.OutLog.stretch_end.Goals as goal

pub overflow_sub-last : goal.overflow_sub-last
overflow_sub-last g c =
    let inside = c.self.inside in
    let within = start_inside inside.entries.items inside.starts.items inside.start inside.stretches.closed.items inside.stretches.growing c.self.invariant in
    omega (arith, within)

pub returns-then-number-last-clause-none : goal.returns-then-number-last-clause-none
returns-then-number-last-clause-none g c =
    let inside = c.self.inside in
    let series = ap (λ (l : SeriesLog OutEntry). l.series) c.self.view_is in
    let log = series_from 0 inside.starts.items inside.entries.items in
    let last = present_size inside.entries.items inside.starts.items inside.start inside.stretches.closed.items inside.stretches.growing c.self.invariant in
    let over = c.grows_over.ensures.0 c.if-grows_over.true in
    let of_present : c.args.series ≡ length log = over.0 ∙ c.series.ensures.present ∙ sym (ap (λ (l : List (List OutEntry)). length l) series) in
    let same : series_at log (length log) ≡ series_at c.args.self.now.series c.args.series = ap (λ k. series_at log k) (sym of_present) ∙ ap (λ (l : List (List OutEntry)). series_at l c.args.series) series in
    let past : length (series_at log (length log)) < c.args.number = omega (arith, last, c.len.ensures.length, c.if-number-last.true) in
    (λ _. subst (λ (ts : List OutEntry). is_session ts c.args.number ≡ false) same (session-past (series_at log (length log)) c.args.number past), λ _. refl)

pub returns-then-grows_over-clause-end : goal.returns-then-grows_over-clause-end
returns-then-grows_over-clause-end g c =
    let inside = c.self.inside in
    let series = ap (λ (l : SeriesLog OutEntry). l.series) c.self.view_is in
    let log = series_from 0 inside.starts.items inside.entries.items in
    let last = present_size inside.entries.items inside.starts.items inside.start inside.stretches.closed.items inside.stretches.growing c.self.invariant in
    let over = c.grows_over.ensures.0 c.if-grows_over.true in
    let of_present : c.args.series ≡ length log = over.0 ∙ c.series.ensures.present ∙ sym (ap (λ (l : List (List OutEntry)). length l) series) in
    let same : series_at log (length log) ≡ series_at c.args.self.now.series c.args.series = ap (λ k. series_at log k) (sym of_present) ∙ ap (λ (l : List (List OutEntry)). series_at l c.args.series) series in
    let number : length (series_at log (length log)) ≡ c.len.result - inside.start = last ∙ ap (λ n. n - inside.start) (sym c.len.ensures.length) in
    let inside_log : c.args.number ≤ length (series_at log (length log)) = omega (arith, number, c.if-number-last.false) in
    let end = end_at_last log inside.stretches.closed.items inside.stretches.growing c.args.number c.self.invariant.index over.1 inside_log in
    subst (λ (ts : List OutEntry). IsStretchEnd ts c.args.number (c.len.result - inside.start)) same (subst (λ z. IsStretchEnd (series_at log (length log)) c.args.number z) number end)

pub returns-then-grows_over-clause-none : goal.returns-then-grows_over-clause-none
returns-then-grows_over-clause-none g c = none_exactly (series_at c.args.self.now.series c.args.series) c.args.number (Some (c.len.result - c.self.inside.start)) (returns-then-grows_over-clause-end g c) (λ e. absurd (true≢false e))
