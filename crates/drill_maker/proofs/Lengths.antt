-- A drill has so few steps that each has the number of its line.
use Rattle.std.proofs.Common.{◌≡◌, ℕ, zero, suc, ◌+◌, ◌*◌, ◌<◌, ◌≤◌, List, [], ◌∷◌, ◌++◌, length, length-append, refl, arith}
use Rattle.std.proofs.Math.Nat.{suc-mul}
use Rattle.script_text.specs.declared.steps.Step.{Step}
use Rattle.script_text.specs.declared.steps.Step.TheVariants as step
use Rattle.script_text.specs.declared.steps.LibStep.TheVariants as act
use Rattle.drill_maker.specs.Bodies.{answer_of}
use Rattle.drill_maker.specs.declared.limits.TheConstants.{MOMENT}
use Rattle.drill_maker.specs.Drill.{asked_session, connect_steps, finish_steps, for_counterparties, for_each, for_libraries, logon_steps, order_steps, poll_count, poll_steps, request_steps, round_steps, steps_of, turn_steps, work_steps}

-- where each number gives at most so many steps
each_short : (limit most first count : ℕ) (made : ℕ → List Step) → first + count ≤ limit → ((k : ℕ) → k < limit → length (made k) ≤ most) → length (for_each first count made) ≤ count * most
each_short limit most first zero made fits short = omega arith
each_short limit most first (suc count) made fits short =
    let here = short first (omega arith) in
    let rest = each_short limit most (first + 1) count made (omega arith) short in
    let whole = length-append (made first) (for_each (first + 1) count made) in
    let sum = suc-mul count most in
    omega (arith, here, rest, whole, sum)

-- six parts are as long as all of them
six_lengths : (a b c d e f : List Step) → length (a ++ b ++ c ++ d ++ e ++ f) ≡ length a + length b + length c + length d + length e + length f
six_lengths a b c d e f =
    let two = length-append a b in
    let three = length-append (a ++ b) c in
    let four = length-append (a ++ b ++ c) d in
    let five = length-append (a ++ b ++ c ++ d) e in
    let six = length-append (a ++ b ++ c ++ d ++ e) f in
    omega (arith, two, three, four, five, six)

one_short : (limit first count : ℕ) (made : ℕ → List Step) → first + count ≤ limit → ((k : ℕ) → k < limit → length (made k) ≡ 1) → length (for_each first count made) ≤ count * 1
one_short limit first count made fits one = each_short limit 1 first count made fits (λ k h. let e = one k h in omega (arith, e))

work_short : (round library : ℕ) → round < 500 → length (work_steps round library) ≤ 504
unfolding work_steps
work_short round library early =
    let polls = one_short (poll_count round) 0 (poll_count round) (poll_steps library) (omega arith) (λ k h. refl) in
    let whole = length-append (for_each 0 (poll_count round) (poll_steps library)) (step.Lib library (act.Send (asked_session round library) (answer_of round)) ∷ step.Lib library (act.Release (asked_session round library)) ∷ []) in
    omega (arith, polls, whole)

round_short : (round : ℕ) → round < 500 → length (round_steps round) ≤ 2031
unfolding round_steps
round_short round early =
    let requests = one_short 5 1 4 (request_steps round) (omega arith) (λ l h. refl) in
    let orders = one_short 8 0 8 (order_steps round) (omega arith) (λ c h. refl) in
    let works = each_short 5 504 1 4 (work_steps round) (omega arith) (λ l h. work_short round l early) in
    let turn : List Step = step.Turn ∷ [] in
    let whole = six_lengths (for_libraries (request_steps round)) turn (for_counterparties (order_steps round)) turn (for_libraries (work_steps round)) turn in
    omega (arith, requests, orders, works, whole)

-- so few that the numbers of their lines fit
pub steps_few : (n : ℕ) → n ≤ 500 → length (steps_of n) ≤ 1_100_000
unfolding steps_of
steps_few n few =
    let connects = one_short 8 0 8 connect_steps (omega arith) (λ c h. refl) in
    let logons = one_short 8 0 8 logon_steps (omega arith) (λ c h. refl) in
    let turns = one_short 8 0 8 turn_steps (omega arith) (λ c h. refl) in
    let rounds = each_short n 2031 0 n round_steps (omega arith) (λ round h. round_short round (omega arith)) in
    let finishes = one_short 8 0 8 finish_steps (omega arith) (λ c h. refl) in
    let whole = six_lengths (step.At MOMENT ∷ for_counterparties connect_steps) (for_counterparties logon_steps) (for_counterparties turn_steps) (for_each 0 n round_steps) (for_counterparties finish_steps) (step.Turn ∷ []) in
    omega (arith, connects, logons, turns, rounds, finishes, whole)
