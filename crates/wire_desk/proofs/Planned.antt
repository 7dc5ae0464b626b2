-- A turn writes as planned, one write after another.
use Rattle.std.proofs.Common.{◌≡◌, ◌⊎◌, inl, inr, ℕ, ◌+◌, ◌-◌, ◌<◌, ◌≤◌, Bool, true, false, Option, None, Some, refl, sym, ap, subst, ◌∙◌, arith}
use Rattle.std.proofs.lemmas.Bool.{eq-eqb, eqb-true, ne_eqb}
use Rattle.std.specs.Prelude.{IfSome, if◌then◌else◌, min, ◌||◌, ◌==◌}
use Rattle.connection_core.specs.declared.limits.TheConstants.{MOST_WRITTEN}
use Rattle.gate_io.specs.Plan.{LinkPlan, count_before, is_failing, is_reached, place_after, plan_after_bytes, plan_after_write, planned_count, planned_write}
use Rattle.gate_io.specs.declared.wires.WireWrote.{WireWrote}
use Rattle.gate_io.specs.declared.wires.WireWrote.TheVariants as wrote
use Rattle.wire_desk.specs.Planned.{IsPlannedOnce, IsPlannedTurn}
use Rattle.wire_desk.specs.declared.written.Stop.{Stop}
use Rattle.wire_desk.specs.declared.written.Stop.TheVariants.{AllTaken, Blocked, Failed, MostWritten}
use Rattle.wire_desk.specs.declared.written.Written.{Written}
use Rattle.wire_desk.specs.declared.written.Wrote.{Wrote}
use Rattle.wire_desk.specs.declared.written.Wrote.TheVariants.{Bytes, Stopped}

-- what the answer to one write says of the plan
answer_bytes : (a b : Bool) (n m : ℕ) → wrote.Bytes m ≡ (if a then wrote.Failed else if b then wrote.Blocked else wrote.Bytes n) → m ≡ n
answer_bytes true b n m is = absurd (cc is)
answer_bytes false true n m is = absurd (cc is)
answer_bytes false false n m is = cc is

answer_blocks : (a b : Bool) (n : ℕ) → wrote.Blocked ≡ (if a then wrote.Failed else if b then wrote.Blocked else wrote.Bytes n) → (a ≡ false) × (b ≡ true)
answer_blocks true b n is = absurd (cc is)
answer_blocks false true n is = (refl, refl)
answer_blocks false false n is = absurd (cc is)

answer_fails : (a b : Bool) (n : ℕ) → wrote.Failed ≡ (if a then wrote.Failed else if b then wrote.Blocked else wrote.Bytes n) → a ≡ true
answer_fails true b n is = refl
answer_fails false true n is = absurd (cc is)
answer_fails false false n is = absurd (cc is)

-- one write by the plan
abbrev pub came_of : WireWrote → Wrote
came_of (wrote.Bytes n) = Bytes n
came_of wrote.Blocked = Stopped Blocked
came_of wrote.Failed = Stopped Failed

pub once : (old new : Option LinkPlan) (len : ℕ) (answer : WireWrote) → 0 < len → IfSome old (λ plan. (answer ≡ planned_write plan len) × (new ≡ Some (plan_after_write answer plan)))
    → IfSome old (λ plan. IsPlannedOnce plan len (came_of answer) new)
once None new len answer some is = tt
once (Some plan) new len (wrote.Bytes n) some is = (answer_bytes (is_failing plan) (is_reached plan.blocks_after) (planned_count plan len) n is.0, is.1)
once (Some plan) new len wrote.Blocked some is = (let told = answer_blocks (is_failing plan) (is_reached plan.blocks_after) (planned_count plan len) is.0 in (some, told.0, told.1, is.1))
once (Some plan) new len wrote.Failed some is = (some, answer_fails (is_failing plan) (is_reached plan.blocks_after) (planned_count plan len) is.0, is.1)

-- where nothing waits nothing is asked
pub not_asked : (old : Option LinkPlan) (len : ℕ) → len ≡ 0 → IfSome old (λ plan. IsPlannedOnce plan len (Stopped AllTaken) old)
not_asked None len none = tt
not_asked (Some plan) len none = (none, refl)

-- nothing is written of nothing, where writes fail, and where they are blocked
least : (a b : ℕ) → a ≡ 0 → min a b ≡ 0
least a b none = omega arith

least_too : (a b : ℕ) → b ≡ 0 → min a b ≡ 0
least_too a b none = omega arith

none_before : (place : Option ℕ) (len : ℕ) → len ≡ 0 → count_before place len ≡ 0
none_before None len none = none
none_before (Some after) len none = least_too after len none

none_at : (place : Option ℕ) (len : ℕ) → is_reached place ≡ true → count_before place len ≡ 0
none_at None len is = absurd (cc is)
none_at (Some after) len is = least after len (eqb-true after 0 is)

count_of_none : (plan : LinkPlan) (len : ℕ) → len ≡ 0 → planned_count plan len ≡ 0
count_of_none plan len none =
    least (count_before plan.fails_after (count_before plan.blocks_after len)) plan.room (none_before plan.fails_after (count_before plan.blocks_after len) (none_before plan.blocks_after len none))

count_blocked : (plan : LinkPlan) (len : ℕ) → is_reached plan.blocks_after ≡ true → planned_count plan len ≡ 0
count_blocked plan len is =
    least (count_before plan.fails_after (count_before plan.blocks_after len)) plan.room (none_before plan.fails_after (count_before plan.blocks_after len) (none_at plan.blocks_after len is))

either : (a b : Bool) → (a || b) ≡ true → (a ≡ true) ⊎ (b ≡ true)
either true b is = inl refl
either false b is = inr is

count_failing : (plan : LinkPlan) (len : ℕ) → is_failing plan ≡ true → planned_count plan len ≡ 0
count_failing plan len is =
    let before = count_before plan.blocks_after len in
    elim (either (is_reached plan.fails_after) (plan.room == 0) is) [
      | inl reached ↦ least (count_before plan.fails_after before) plan.room (none_at plan.fails_after before reached)
      | inr full ↦ least_too (count_before plan.fails_after before) plan.room (eqb-true plan.room 0 full)
    ]

-- behind as many bytes as are planned no more are
none_left : (fails blocks : Option ℕ) (room len n : ℕ) → n ≡ min (count_before fails (count_before blocks len)) room
    → min (count_before (place_after n fails) (count_before (place_after n blocks) (len - n))) (room - n) ≡ 0
none_left None None room len n is = omega arith
none_left None (Some b) room len n is = omega arith
none_left (Some f) None room len n is = omega arith
none_left (Some f) (Some b) room len n is = omega arith

-- the plan behind some bytes and then more
place_further : (a b : ℕ) (place : Option ℕ) → place_after b (place_after a place) ≡ place_after (a + b) place
place_further a b None = refl
place_further a b (Some after) = ap Some (let e : (after - a) - b ≡ after - (a + b) = omega arith in e)

place_itself : (place : Option ℕ) → place_after 0 place ≡ place
place_itself None = refl
place_itself (Some after) = ap Some (let e : after - 0 ≡ after = omega arith in e)

same_plan : (plan : LinkPlan) (room room_too : ℕ) (fails fails_too blocks blocks_too : Option ℕ) → room ≡ room_too → fails ≡ fails_too → blocks ≡ blocks_too
    → record plan { room = room; fails_after = fails; blocks_after = blocks } ≡ record plan { room = room_too; fails_after = fails_too; blocks_after = blocks_too }
same_plan plan room room_too fails fails_too blocks blocks_too first second third =
    ap (λ (n : ℕ). record plan { room = n; fails_after = fails; blocks_after = blocks }) first
    ∙ ap (λ (place : Option ℕ). record plan { room = room_too; fails_after = place; blocks_after = blocks }) second
    ∙ ap (λ (place : Option ℕ). record plan { room = room_too; fails_after = fails_too; blocks_after = place }) third

plan_further : (a b : ℕ) (plan : LinkPlan) → plan_after_bytes b (plan_after_bytes a plan) ≡ plan_after_bytes (a + b) plan
plan_further a b plan =
    same_plan plan ((plan.room - a) - b) (plan.room - (a + b)) (place_after b (place_after a plan.fails_after)) (place_after (a + b) plan.fails_after) (place_after b (place_after a plan.blocks_after)) (place_after (a + b) plan.blocks_after)
    (omega arith) (place_further a b plan.fails_after) (place_further a b plan.blocks_after)

plan_itself : (plan : LinkPlan) → plan_after_bytes 0 plan ≡ plan
plan_itself plan =
    same_plan plan (plan.room - 0) plan.room (place_after 0 plan.fails_after) plan.fails_after (place_after 0 plan.blocks_after) plan.blocks_after
    (omega arith) (place_itself plan.fails_after) (place_itself plan.blocks_after)

-- of so many bytes some were written, and the others that are planned may still be
pub record GoesOnAsPlanned (plan : LinkPlan) (len bytes : ℕ) (now : Option LinkPlan) : Type 0 where
  pub rest : planned_count plan len ≡ bytes + planned_count (plan_after_bytes bytes plan) (len - bytes)
  pub behind : now ≡ Some (plan_after_bytes bytes plan)

sum_at_first : (all rest : ℕ) → rest ≡ all → all ≡ 0 + rest
sum_at_first all rest same = omega arith

pub at_first : (old : Option LinkPlan) (len : ℕ) → IfSome old (λ plan. GoesOnAsPlanned plan len 0 old)
at_first None len = tt
at_first (Some plan) len = record {
  rest = sum_at_first (planned_count plan len) (planned_count (plan_after_bytes 0 plan) (len - 0)) (ap (λ (p : LinkPlan). planned_count p (len - 0)) (plan_itself plan) ∙ ap (planned_count plan) (let e : len - 0 ≡ len = omega arith in e));
  behind = ap Some (sym (plan_itself plan));
}

sum_further : (all bytes n rest last : ℕ) → all ≡ bytes + rest → n ≡ rest → last ≡ 0 → all ≡ (bytes + n) + last
sum_further all bytes n rest last first second third = omega arith

pub further : (first now new : Option LinkPlan) (len bytes n : ℕ) → IfSome first (λ plan. GoesOnAsPlanned plan len bytes now) → IfSome now (λ plan. IsPlannedOnce plan (len - bytes) (Bytes n) new)
    → IfSome first (λ plan. GoesOnAsPlanned plan len (bytes + n) new)
further None now new len bytes n was one = tt
further (Some plan) now new len bytes n was one =
    let p = plan_after_bytes bytes plan in
    let told : IsPlannedOnce p (len - bytes) (Bytes n) new = subst (λ (o : Option LinkPlan). IfSome o (λ plan. IsPlannedOnce plan (len - bytes) (Bytes n) new)) was.behind one in
    let twice = plan_further bytes n plan in
    let none : planned_count (plan_after_bytes n p) ((len - bytes) - n) ≡ 0 = none_left p.fails_after p.blocks_after p.room (len - bytes) n told.0 in
    let last : planned_count (plan_after_bytes (bytes + n) plan) (len - (bytes + n)) ≡ 0 =
    ap (λ (q : LinkPlan). planned_count q (len - (bytes + n))) (sym twice) ∙ ap (planned_count (plan_after_bytes n p)) (let e : len - (bytes + n) ≡ (len - bytes) - n = omega arith in e) ∙ none in
    record {
      rest = sum_further (planned_count plan len) bytes n (planned_count p (len - bytes)) (planned_count (plan_after_bytes (bytes + n) plan) (len - (bytes + n))) was.rest told.0 last;
      behind = told.1 ∙ ap Some twice;
    }

sum_at_end : (all bytes rest : ℕ) → all ≡ bytes + rest → rest ≡ 0 → bytes ≡ all
sum_at_end all bytes rest first second = omega arith

abbrev as_written : ℕ → Stop → Written
as_written bytes stop = record { bytes = bytes; stop = stop }

-- the reasons, one after another
abbrev stops : (a b c : Bool) → Stop
stops a b c = if a then MostWritten else if b then AllTaken else if c then Failed else Blocked

-- the turn has written its most
pub most : (first now : Option LinkPlan) (waiting bytes : ℕ) → bytes ≡ MOST_WRITTEN → IfSome first (λ plan. GoesOnAsPlanned plan (min waiting MOST_WRITTEN) bytes now)
    → IfSome first (λ plan. IsPlannedTurn plan waiting (as_written bytes MostWritten) now)
most None now waiting bytes all was = tt
most (Some plan) now waiting bytes all was =
    let p = plan_after_bytes bytes plan in
    let len = min waiting MOST_WRITTEN in
    let none : len - bytes ≡ 0 = omega arith in
    record {
      bytes = sum_at_end (planned_count plan len) bytes (planned_count p (len - bytes)) was.rest (count_of_none p (len - bytes) none);
      stop = sym (ap (λ b. stops b (bytes == waiting) (is_failing p)) (eq-eqb bytes MOST_WRITTEN all));
      behind = was.behind;
    }

-- it has stopped before
pub stopped : (first now new : Option LinkPlan) (waiting bytes : ℕ) (stop : Stop) → bytes < MOST_WRITTEN → bytes ≤ waiting → IfSome first (λ plan. GoesOnAsPlanned plan (min waiting MOST_WRITTEN) bytes now)
    → IfSome now (λ plan. IsPlannedOnce plan (min waiting MOST_WRITTEN - bytes) (Stopped stop) new) → IfSome first (λ plan. IsPlannedTurn plan waiting (as_written bytes stop) new)
stopped None now new waiting bytes stop few within was one = tt
stopped (Some plan) now new waiting bytes stop few within was one =
    let p = plan_after_bytes bytes plan in
    let len = min waiting MOST_WRITTEN in
    let told : IsPlannedOnce p (len - bytes) (Stopped stop) new = subst (λ (o : Option LinkPlan). IfSome o (λ plan. IsPlannedOnce plan (len - bytes) (Stopped stop) new)) was.behind one in
    stopped_by plan waiting bytes new stop few within was.rest told
  where
    stopped_by : (plan : LinkPlan) (waiting bytes : ℕ) (new : Option LinkPlan) (stop : Stop) → bytes < MOST_WRITTEN → bytes ≤ waiting
        → planned_count plan (min waiting MOST_WRITTEN) ≡ bytes + planned_count (plan_after_bytes bytes plan) (min waiting MOST_WRITTEN - bytes)
        → IsPlannedOnce (plan_after_bytes bytes plan) (min waiting MOST_WRITTEN - bytes) (Stopped stop) new → IsPlannedTurn plan waiting (as_written bytes stop) new
    stopped_by plan waiting bytes new AllTaken few within rest told =
        let p = plan_after_bytes bytes plan in
        let len = min waiting MOST_WRITTEN in
        let none : len - bytes ≡ 0 = told.0 in
        let all : bytes ≡ waiting = omega arith in
        record {
          bytes = sum_at_end (planned_count plan len) bytes (planned_count p (len - bytes)) rest (count_of_none p (len - bytes) none);
          stop = sym (ap (λ b. stops b (bytes == waiting) (is_failing p)) (ne_eqb bytes MOST_WRITTEN (λ e. absurd (omega arith))) ∙ ap (λ b. stops false b (is_failing p)) (eq-eqb bytes waiting all));
          behind = told.1;
        }
    stopped_by plan waiting bytes new MostWritten few within rest told = absurd told
    stopped_by plan waiting bytes new Blocked few within rest told =
        let p = plan_after_bytes bytes plan in
        let len = min waiting MOST_WRITTEN in
        let some : 0 < len - bytes = told.0 in
        record {
          bytes = sum_at_end (planned_count plan len) bytes (planned_count p (len - bytes)) rest (count_blocked p (len - bytes) told.2);
          stop = sym (ap (λ b. stops b (bytes == waiting) (is_failing p)) (ne_eqb bytes MOST_WRITTEN (λ e. absurd (omega arith))) ∙ ap (λ b. stops false b (is_failing p)) (ne_eqb bytes waiting (λ e. absurd (omega arith)))
              ∙ ap (stops false false) told.1);
          behind = told.3;
        }
    stopped_by plan waiting bytes new Failed few within rest told =
        let p = plan_after_bytes bytes plan in
        let len = min waiting MOST_WRITTEN in
        let some : 0 < len - bytes = told.0 in
        record {
          bytes = sum_at_end (planned_count plan len) bytes (planned_count p (len - bytes)) rest (count_failing p (len - bytes) told.1);
          stop = sym (ap (λ b. stops b (bytes == waiting) (is_failing p)) (ne_eqb bytes MOST_WRITTEN (λ e. absurd (omega arith))) ∙ ap (λ b. stops false b (is_failing p)) (ne_eqb bytes waiting (λ e. absurd (omega arith)))
              ∙ ap (stops false false) told.1);
          behind = told.2;
        }
