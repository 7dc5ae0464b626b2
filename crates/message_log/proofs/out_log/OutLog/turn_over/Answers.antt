-- what the parts are with one more series
use Rattle.std.proofs.Common.{List, length, ap, sym, subst, arith}
use Rattle.message_log.specs.declared.entry.OutEntry.{OutEntry}
use Rattle.message_log.specs.Series.{SeriesLog}
use Rattle.message_log.proofs.LogParts.{size, start_inside, turned, turned_series}
use Rattle.message_log.specs.Growth.{GoesOn}
use Rattle.message_log.proofs.Growing.{goes_on-series}
use Rattle.message_log.proofs.out_log.OutLog.turn_over.Goals as goal

pub overflow_sub-last : goal.overflow_sub-last
overflow_sub-last c =
    let inside = c.self.inside in
    let within = start_inside inside.entries.items inside.starts.items inside.start inside.stretches.closed.items inside.stretches.growing c.self.invariant in
    omega (arith, within)

pub overflow_add-result : goal.overflow_add-result
overflow_add-result c =
    let inside = c.self.inside in
    let series = ap (λ (l : SeriesLog OutEntry). length l.series) c.self.view_is in
    let all = size inside.entries.items inside.starts.items inside.start inside.stretches.closed.items inside.stretches.growing c.self.invariant in
    let small = c.requires in
    omega arith

pub invariant_of-self-2 : goal.invariant_of-self-2
invariant_of-self-2 c =
    let inside = c.self.inside in
    let series = ap (λ (l : SeriesLog OutEntry). length l.series) c.self.view_is in
    let all = size inside.entries.items inside.starts.items inside.start inside.stretches.closed.items inside.stretches.growing c.self.invariant in
    let small = c.requires in
    rw (c.in_ok-push.ensures.ok, c.close.ensures.closed, c.close.ensures.growing, c.reserve.ensures.items, c.len.ensures, c.len-end.ensures.length) (turned inside.entries.items inside.starts.items inside.start inside.stretches.closed.items inside.stretches.growing c.self.invariant (omega arith))

pub returns-clause-ok : goal.returns-clause-ok
returns-clause-ok c =
    let inside = c.self.inside in
    let series = ap (λ (l : SeriesLog OutEntry). l.series) c.self.view_is in
    rw (c.in_ok-push.ensures.ok, ← series, c.len-end.ensures.length) (turned_series inside.entries.items inside.starts.items inside.start inside.stretches.closed.items inside.stretches.growing c.self.invariant)

pub returns-clause-series : goal.returns-clause-series
returns-clause-series c =
    let inside = c.self.inside in
    let series = ap (λ (l : SeriesLog OutEntry). length l.series) c.self.view_is in
    let all = size inside.entries.items inside.starts.items inside.start inside.stretches.closed.items inside.stretches.growing c.self.invariant in
    omega arith

pub returns-clause-goes_on : goal.returns-clause-goes_on
returns-clause-goes_on c =
    subst (λ (log : List (List OutEntry)). GoesOn c.args.self.now.series log) (sym (returns-clause-ok c)) (goes_on-series c.args.self.now.series)
