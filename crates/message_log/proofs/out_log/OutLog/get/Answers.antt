-- the entry stands so many places behind its series' beginning
use Rattle.std.proofs.Common.{◌-◌, ◌++◌, ◌∷◌, [], get_or, sym, ◌∙◌, ap, refl, arith, None}
use Rattle.std.proofs.lemmas.Bool.{true≢false}
use Rattle.message_log.specs.declared.entry.OutEntry.{OutEntry}
use Rattle.message_log.specs.Series.{SeriesLog, entry_at}
use Rattle.message_log.proofs.LogParts.{in_bounds, series_size, entry_is, is_series, no_series_here, no_entry_past, no_entry_of}
use Rattle.message_log.proofs.Entries.{no_number}
use Rattle.message_log.proofs.out_log.OutLog.get.Goals as goal

pub returns-in_err-start-clause-entry : goal.returns-in_err-start-clause-entry
returns-in_err-start-clause-entry g c =
    let inside = c.self.inside in
    let parts = c.self.invariant in
    let none = no_series_here inside.entries.items inside.starts.items inside.start inside.stretches.closed.items inside.stretches.growing parts c.args.series (c.in_err-start.ensures.none.0 refl) in
    rw c.from_residual.ensures (sym (no_entry_of inside.entries.items inside.starts.items inside.start inside.stretches.closed.items inside.stretches.growing parts c.args.series c.args.number none) ∙ ap (λ (l : SeriesLog OutEntry). entry_at l.series c.args.series c.args.number) c.self.view_is)

pub returns-in_err-start-clause-none : goal.returns-in_err-start-clause-none
returns-in_err-start-clause-none g c = no_number c.from_residual.result c.args.self.now.series c.args.series c.args.number (returns-in_err-start-clause-entry g c)

pub overflow_sub-end : goal.overflow_sub-end
overflow_sub-end g c =
    let inside = c.self.inside in
    let parts = c.self.invariant in
    let there = is_series inside.entries.items inside.starts.items inside.start inside.stretches.closed.items inside.stretches.growing parts c.args.series (λ none. true≢false (c.in_ok-start.ensures.none.1 none)) in
    let ends = c.in_ok-start.ensures.end ∙ ap (λ n. get_or (inside.starts.items ++ n ∷ []) (c.args.series - 1) 0) c.len.ensures.length in
    (in_bounds inside.entries.items inside.starts.items inside.start inside.stretches.closed.items inside.stretches.growing parts c.args.series c.in_ok-start.start c.in_ok-start.end there.0 there.1 c.in_ok-start.ensures.start ends).0

pub returns-then-number-end-clause-entry : goal.returns-then-number-end-clause-entry
returns-then-number-end-clause-entry g c =
    let inside = c.self.inside in
    let parts = c.self.invariant in
    let there = is_series inside.entries.items inside.starts.items inside.start inside.stretches.closed.items inside.stretches.growing parts c.args.series (λ none. true≢false (c.in_ok-start.ensures.none.1 none)) in
    let ends = c.in_ok-start.ensures.end ∙ ap (λ n. get_or (inside.starts.items ++ n ∷ []) (c.args.series - 1) 0) c.len.ensures.length in
    let size = series_size inside.entries.items inside.starts.items inside.start inside.stretches.closed.items inside.stretches.growing parts c.args.series c.in_ok-start.start c.in_ok-start.end there.0 there.1 c.in_ok-start.ensures.start ends in
    sym (no_entry_past inside.entries.items inside.starts.items inside.start inside.stretches.closed.items inside.stretches.growing parts c.args.series c.args.number (omega arith)) ∙ ap (λ (l : SeriesLog OutEntry). entry_at l.series c.args.series c.args.number) c.self.view_is

pub returns-then-number-end-clause-none : goal.returns-then-number-end-clause-none
returns-then-number-end-clause-none g c = no_number None c.args.self.now.series c.args.series c.args.number (returns-then-number-end-clause-entry g c)

pub returns-clause-entry : goal.returns-clause-entry
returns-clause-entry g c =
    let inside = c.self.inside in
    let parts = c.self.invariant in
    let there = is_series inside.entries.items inside.starts.items inside.start inside.stretches.closed.items inside.stretches.growing parts c.args.series (λ none. true≢false (c.in_ok-start.ensures.none.1 none)) in
    let ends = c.in_ok-start.ensures.end ∙ ap (λ n. get_or (inside.starts.items ++ n ∷ []) (c.args.series - 1) 0) c.len.ensures.length in
    let entry = entry_is inside.entries.items inside.starts.items inside.start inside.stretches.closed.items inside.stretches.growing parts c.args.series c.in_ok-start.start c.in_ok-start.end there.0 there.1 c.in_ok-start.ensures.start ends c.args.number (omega arith) (omega arith) in
    c.get.ensures.item ∙ sym entry ∙ ap (λ (l : SeriesLog OutEntry). entry_at l.series c.args.series c.args.number) c.self.view_is

pub returns-clause-none : goal.returns-clause-none
returns-clause-none g c = no_number c.get.result c.args.self.now.series c.args.series c.args.number (returns-clause-entry g c)
