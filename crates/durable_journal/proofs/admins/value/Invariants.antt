use Rattle.std.proofs.Common.{◌≡◌, false, take}
use Rattle.fix_fields.specs.Field.{has_soh}
use Rattle.durable_journal.proofs.admins.value.Given as goal

abbrev pub invariant-loop-i : goal.invariant-loop-i
invariant-loop-i l = has_soh (take l.i l.bytes) ≡ false
