use Rattle.std.proofs.Common.{length, ap, arith, List}
use Rattle.std.specs.List.{sum_by}
use Rattle.message_log.specs.declared.entry.OutEntry.{OutEntry}
use Rattle.message_log.specs.Series.{SeriesLog}
use Rattle.message_log.proofs.SeriesLists.{sum_by-series_from}
use Rattle.message_log.proofs.out_log.OutLog.len.Goals as goal

pub returns-clause-length : goal.returns-clause-length
returns-clause-length c =
    let inside = c.self.inside in
    let series = ap (λ (l : SeriesLog OutEntry). sum_by (λ (ts : List OutEntry). length ts) l.series) c.self.view_is in
    let all = sum_by-series_from 0 inside.starts.items inside.entries.items c.self.invariant.in_list in
    omega arith
