use Rattle.std.proofs.Common.{◌≡◌, ◌∙◌, ◌+◌, ◌-◌, length, drop, get_or, arith, rules, length-drop}
use Rattle.std.proofs.lemmas.List.{take_all}
use Rattle.durable_journal.proofs.Sessions.{value_only}
use Rattle.durable_journal.proofs.admins.value.Goals as goal

pub returns-then-bytes-i-eq-SOH-clause-only : goal.returns-then-bytes-i-eq-SOH-clause-only
returns-then-bytes-i-eq-SOH-clause-only c = λ text more none is.
    let bytes = c.args.bytes.now in
    let i = c.loop-i.i in
    let soh : get_or bytes i 0 ≡ 1 = search rules in
    let both = value_only bytes i text more (search rules) soh c.loop-i.invariant none is in
    (both.0, take_all (length bytes - (i + 1)) (drop (i + 1) bytes) (omega (arith, length-drop (i + 1) bytes)) ∙ both.1)
