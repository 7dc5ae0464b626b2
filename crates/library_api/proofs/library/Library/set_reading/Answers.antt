use Rattle.std.proofs.Common.{◌≤◌, length, arith, subst}
use Rattle.library_api.specs.Known.{Known}
use Rattle.library_api.proofs.Records.{without_record}
use Rattle.library_api.proofs.library.Library.set_reading.Goals as goal

pub returns-else-s-lt-RECORDS : goal.returns-else-s-lt-RECORDS
returns-else-s-lt-RECORDS c =
    let past : length c.self.inside.readings ≤ c.args.s = omega (arith, c.self.invariant.1, c.if-s-lt-RECORDS.false) in
    without_record c.args.self.now c.args.s c.args.reading (subst (λ (k : Known). length k.readings ≤ c.args.s) c.self.view_is past)
