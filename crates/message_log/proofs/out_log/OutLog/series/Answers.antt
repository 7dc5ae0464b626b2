use Rattle.std.proofs.Common.{length, ap, arith}
use Rattle.message_log.specs.declared.entry.OutEntry.{OutEntry}
use Rattle.message_log.specs.Series.{SeriesLog}
use Rattle.message_log.proofs.LogParts.{size}
use Rattle.message_log.proofs.out_log.OutLog.series.Goals as goal

pub returns-clause-present : goal.returns-clause-present
returns-clause-present c =
    let inside = c.self.inside in
    let series = ap (λ (l : SeriesLog OutEntry). length l.series) c.self.view_is in
    let all = size inside.entries.items inside.starts.items inside.start inside.stretches.closed.items inside.stretches.growing c.self.invariant in
    omega arith
