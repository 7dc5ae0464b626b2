use Rattle.std.proofs.Common.{◌≡◌, ◌++◌, take, drop}
use Rattle.resend_plan.specs.Wire.{type_field, behind_type}
use Rattle.resend_plan.proofs.wire.split_type.Given as goal

abbrev pub invariant-loop-i : goal.invariant-loop-i
invariant-loop-i l = record {
  kind : take l.i l.body ++ type_field (drop l.i l.body) ≡ type_field l.body;
  behind : behind_type (drop l.i l.body) ≡ behind_type l.body;
}
