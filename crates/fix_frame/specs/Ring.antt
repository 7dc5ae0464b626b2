-- A loan of the first bytes of a ring.
use Rattle.std.specs.Prelude.{◌≡◌, ℕ, drop}
use Rattle.std.specs.Borrow.{MutBor, Fml}
use Rattle.std.specs.Io.BufRead.{Rests}
use Rattle.fix_frame.specs.declared.ring.Ring.{Ring}
use Rattle.fix_frame.specs.contracts.ring.Ring.{the_row}

-- once the loan is over, the first bytes have gone
abbrev pub LendsFront : MutBor Ring → ℕ → Fml
LendsFront ring count = Rests the_row ring (λ new. new ≡ record { room = ring.now.room; bytes = drop count ring.now.bytes })
