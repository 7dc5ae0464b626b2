-- A script that is too long is outside the grammar.
use Rattle.std.proofs.Common.{◌≡◌, ℕ, ◌<◌, Bool, true, List, refl, length, arith}
use Rattle.std.specs.Prelude.{Option, None, Some, IfSome, Err, nat_lt}
use Rattle.std.proofs.lemmas.Bool.Decides.{nat_tests}
use Rattle.gate_io.specs.Source.{IsLongerThan}
use Rattle.script_text.specs.Meaning.{script_of}
use Rattle.script_text.specs.declared.kinds.ScriptError.TheVariants.{Fault}
use Rattle.script_text.specs.declared.kinds.ScriptKind.TheVariants.{TooLong}

is_faulty : (serving : Bool) (text : List ℕ) → 16777216 < length text → script_of serving text ≡ Err (Fault 0 TooLong)
unfolding script_of
is_faulty serving text long =
    let long_test : nat_lt 16777216 (length text) ≡ true = grind (arith, nat_tests) in
    rw long_test refl

pub long_is_faulty : (serving : Bool) (left : Option (List ℕ)) → IsLongerThan left 16777216 → IfSome left (λ text. script_of serving text ≡ Err (Fault 0 TooLong))
long_is_faulty serving None long = tt {0}
long_is_faulty serving (Some text) long = is_faulty serving text long
