use Rattle.std.proofs.Common.{◌<◌, ◌^◌, ℕ, subst, sym, arith}
use Rattle.session_book.proofs.Handing.{behind_within}
use Rattle.session_book.proofs.records.make_records.Goals as goal

pub series_behind-present-requires : goal.series_behind-present-requires
series_behind-present-requires c =
    behind_within c.loop-k.present c.loop-k.k _ c.args.entries.now _ (omega arith) (subst (λ (n : ℕ). n < 2 ^ 32) (sym c.loop-k.invariant.few) c.requires.few)
