-- what the parts are with one more entry
use Rattle.std.proofs.Common.{◌≡◌, ◌+◌, ◌-◌, ◌∙◌, List, length, Some, ap, sym, subst, arith}
use Rattle.message_log.specs.declared.entry.OutEntry.{OutEntry}
use Rattle.message_log.specs.Series.{SeriesLog, entry_at, with_entry}
use Rattle.message_log.proofs.LogParts.{size, start_inside, present_size, pushed, pushed_series}
use Rattle.message_log.specs.Growth.{GoesOn}
use Rattle.message_log.proofs.Growing.{goes_on-entry, new_entry}
use Rattle.message_log.proofs.out_log.OutLog.push.Goals as goal

pub overflow_sub-number : goal.overflow_sub-number
overflow_sub-number c =
    let inside = c.self.inside in
    let within = start_inside inside.entries.items inside.starts.items inside.start inside.stretches.closed.items inside.stretches.growing c.self.invariant in
    omega (arith, within)

pub invariant_of-self-2 : goal.invariant_of-self-2
invariant_of-self-2 c =
    let inside = c.self.inside in
    rw (c.in_ok-push.ensures.ok, c.note.ensures.closed, c.note.ensures.growing, c.reserve.ensures.items, c.len.ensures) (pushed inside.entries.items inside.starts.items inside.start inside.stretches.closed.items inside.stretches.growing c.self.invariant c.args.entry (c.len-2.result - inside.start + 1) (ap (λ n. n - inside.start + 1) c.len-2.ensures.length))

pub returns-clause-ok : goal.returns-clause-ok
returns-clause-ok c =
    let inside = c.self.inside in
    let series = ap (λ (l : SeriesLog OutEntry). l.series) c.self.view_is in
    rw (c.in_ok-push.ensures.ok, ← series) (pushed_series inside.entries.items inside.starts.items inside.start inside.stretches.closed.items inside.stretches.growing c.self.invariant c.args.entry)

pub returns-clause-number : goal.returns-clause-number
returns-clause-number c =
    let inside = c.self.inside in
    let series = ap (λ (l : SeriesLog OutEntry). l.series) c.self.view_is in
    let last = present_size inside.entries.items inside.starts.items inside.start inside.stretches.closed.items inside.stretches.growing c.self.invariant in
    rw (← series) (omega (arith, last, c.len-2.ensures.length))

pub returns-clause-goes_on : goal.returns-clause-goes_on
returns-clause-goes_on c =
    subst (λ (log : List (List OutEntry)). GoesOn c.args.self.now.series log) (sym (returns-clause-ok c)) (goes_on-entry c.args.self.now.series c.args.entry)

pub returns-clause-named : goal.returns-clause-named
returns-clause-named c =
    let inside = c.self.inside in
    let old = c.args.self.now.series in
    let series = ap (λ (l : SeriesLog OutEntry). length l.series) c.self.view_is in
    let all = size inside.entries.items inside.starts.items inside.start inside.stretches.closed.items inside.stretches.growing c.self.invariant in
    subst (λ (log : List (List OutEntry)). entry_at log (length log) (c.len-2.result - inside.start + 1) ≡ Some c.args.entry) (sym (returns-clause-ok c)) (
    ap (λ n. entry_at (with_entry old c.args.entry) (length (with_entry old c.args.entry)) n) (returns-clause-number c)
    ∙ new_entry old c.args.entry (omega arith)
    )
