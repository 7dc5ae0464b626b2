use Rattle.std.proofs.Common.{◌<◌, ◌^◌, ℕ, subst, sym, arith}
use Rattle.session_book.proofs.Handing.{behind_within}
use Rattle.session_book.proofs.records.resets.Goals as goal

pub series_behind-series-requires : goal.series_behind-series-requires
series_behind-series-requires c =
    behind_within c.loop-entry.series c.loop-entry.entry-index _ c.args.entries.now _ (omega arith) (subst (λ (n : ℕ). n < 2 ^ 32) (sym c.loop-entry.invariant) c.requires)
