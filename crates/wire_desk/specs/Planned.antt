-- What is written on a connection in a turn, where the wire tells beforehand what it takes.
use Rattle.std.specs.Prelude.{◌≡◌, ℕ, ◌<◌, ◌==◌, true, false, Option, Some, IfSome, min, if◌then◌else◌}
use Rattle.connection_core.specs.declared.limits.TheConstants.{MOST_WRITTEN}
use Rattle.gate_io.specs.Plan.{LinkPlan, is_failing, is_reached, plan_after_bytes, plan_after_failure, planned_count}
use Rattle.gate_io.specs.Wire.{Link}
use Rattle.wire_desk.specs.declared.written.Stop.{Stop}
use Rattle.wire_desk.specs.declared.written.Stop.TheVariants.{AllTaken, Blocked, Failed, MostWritten}
use Rattle.wire_desk.specs.declared.written.Written.{Written}
use Rattle.wire_desk.specs.declared.written.Wrote.{Wrote}
use Rattle.wire_desk.specs.declared.written.Wrote.TheVariants.{Bytes, Stopped}

-- how many of so many waiting bytes a turn writes: not more than it has for a connection, and those that the wire takes
abbrev pub planned_bytes : LinkPlan → ℕ → ℕ
planned_bytes plan waiting = planned_count plan (min waiting MOST_WRITTEN)

-- Why it writes no more behind so many of them. A turn that has written its most asks no further, also where all was
-- taken; and where writes fail and are blocked at one place, they fail.
abbrev pub planned_stop : LinkPlan → ℕ → ℕ → Stop
planned_stop plan waiting bytes =
    if bytes == MOST_WRITTEN then MostWritten else if bytes == waiting then AllTaken else if is_failing (plan_after_bytes bytes plan) then Failed else Blocked

-- the plan behind a turn: a failure that stopped it is met
abbrev pub plan_after_stop : Stop → LinkPlan → LinkPlan
plan_after_stop Failed plan = plan_after_failure plan
plan_after_stop stop plan = plan

-- Of so many waiting bytes a turn writes as many as are planned, stops for the planned reason, and the plan behind it is told.
pub record IsPlannedTurn (plan : LinkPlan) (waiting : ℕ) (written : Written) (after : Option LinkPlan) : Type 0 where
  pub bytes : written.bytes ≡ planned_bytes plan waiting
  pub stop : written.stop ≡ planned_stop plan waiting written.bytes
  pub behind : after ≡ Some (plan_after_stop written.stop (plan_after_bytes written.bytes plan))

-- where the plan is told
abbrev pub TurnsAsPlanned : Link → ℕ → Written → Link → Type 0
TurnsAsPlanned old waiting written new = IfSome old.plan (λ plan. IsPlannedTurn plan waiting written new.plan)

-- What came of one write of so many bytes by a plan. Nothing is asked where there are none.
abbrev pub IsPlannedOnce : LinkPlan → ℕ → Wrote → Option LinkPlan → Type 0
IsPlannedOnce plan len (Bytes n) after = (n ≡ planned_count plan len) × (after ≡ Some (plan_after_bytes n plan))
IsPlannedOnce plan len (Stopped AllTaken) after = (len ≡ 0) × (after ≡ Some plan)
IsPlannedOnce plan len (Stopped MostWritten) after = ⊥
IsPlannedOnce plan len (Stopped Blocked) after = (0 < len) × (is_failing plan ≡ false) × (is_reached plan.blocks_after ≡ true) × (after ≡ Some plan)
IsPlannedOnce plan len (Stopped Failed) after = (0 < len) × (is_failing plan ≡ true) × (after ≡ Some (plan_after_failure plan))

abbrev pub OnceAsPlanned : Link → ℕ → Wrote → Link → Type 0
OnceAsPlanned old len wrote new = IfSome old.plan (λ plan. IsPlannedOnce plan len wrote new.plan)
