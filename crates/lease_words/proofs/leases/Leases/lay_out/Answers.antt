use Rattle.std.proofs.Common.{sym, refl, arith}
use Rattle.lease_words.specs.Layout.{slot_count}
use Rattle.lease_words.proofs.MakingCalls.{opens_step, laid}
use Rattle.lease_words.proofs.leases.Leases.lay_out.Goals as goal

pub vacant-requires : goal.vacant-requires
vacant-requires c =
    opens_step _ c.args.outset (record { sessions = c.from.ensures; libraries = c.from-2.ensures; before = refl }) c.requires.outset _ _
    (record { sessions = omega arith; libraries = omega arith; some_depth = omega arith; depth = omega arith; some_sends = omega arith; sends = omega arith }) c.as_slice.ensures.value
    (λ j. slot_count (sym c.from.ensures j) (sym c.from-2.ensures j))

pub invariant_of-result : goal.invariant_of-result
invariant_of-result c = laid _ c.args.outset (record { sessions = c.from.ensures; libraries = c.from-2.ensures; before = refl }) c.requires.outset _ _ _ c.in_ok-table.ensures.4 refl
