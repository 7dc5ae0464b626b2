use Rattle.fix_fields.specs.Stamp.{stamp_of}
use Rattle.fix_fields.proofs.Stamps.{moment_of-from, stamp_of-stamp}
use Rattle.fix_fields.proofs.laws.stamps_read_again.Goals as goal

pub returns : goal.returns
returns c = λ ms low. moment_of-from (stamp_of ms) ms (stamp_of-stamp ms low)
