-- How one read or one write carries on what came before it.
use Rattle.std.proofs.Common.{◌≡◌, ℕ, ◌+◌, ◌<◌, ◌≤◌, List, [], ◌++◌, Option, Some, None, IfSome, length, take, drop, refl, sym, ap, ◌∙◌, append_assoc, arith, length-append}
use Rattle.std.proofs.Math.Seq.{take-add}
use Rattle.std.proofs.lemmas.List.{take-append-drop, drop-drop, length-take-le, append-nil}
use Rattle.gate_io.specs.Source.{HasGiven, GivesFrom, IsAllOf, IsLongerThan}
use Rattle.gate_io.specs.Sink.{HasTaken, TakesFrom}
use Rattle.gate_io.specs.declared.sinks.Wrote.TheVariants as wrote
use Rattle.gate_io.specs.declared.sources.Got.TheVariants as got

-- nothing was taken at first
pub HasTaken-none : (a : Option (List ℕ)) (bytes : List ℕ) → HasTaken a (take 0 bytes) a
HasTaken-none None bytes = tt
HasTaken-none (Some held) bytes = ap Some (sym (append-nil held))

-- a write takes the next bytes of the whole
pub HasTaken-more : (a b c : Option (List ℕ)) (bytes : List ℕ) (done n : ℕ) → HasTaken a (take done bytes) b → TakesFrom b (wrote.Bytes n) (drop done bytes) c → HasTaken a (take (done + n) bytes) c
HasTaken-more None b c bytes done n before now = tt
HasTaken-more (Some held) None c bytes done n before now = cc
HasTaken-more (Some held) (Some more) c bytes done n before now =
    let whole = take-add done n bytes in
    let grouped = append_assoc held (take done bytes) (take n (drop done bytes)) in
    cc

-- a failed write takes nothing
pub HasTaken-failed : (a b c : Option (List ℕ)) (piece bytes : List ℕ) → HasTaken a bytes b → TakesFrom b wrote.Failed piece c → HasTaken a bytes c
HasTaken-failed None b c piece bytes before now = tt
HasTaken-failed (Some held) None c piece bytes before now = cc
HasTaken-failed (Some held) (Some more) c piece bytes before now = cc

-- nothing was given at first
pub HasGiven-none : (a : Option (List ℕ)) → HasGiven a [] a
HasGiven-none None = tt
HasGiven-none (Some left) = (refl, refl)

-- a read gives the next bytes
pub HasGiven-more : (a b c : Option (List ℕ)) (given buf : List ℕ) (n : ℕ) → n ≤ length buf → HasGiven a given b → GivesFrom b (got.Bytes n) buf c → HasGiven a (given ++ take n buf) c
HasGiven-more None b c given buf n fits before now = tt
HasGiven-more (Some left) None c given buf n fits before now = absurd cc
HasGiven-more (Some left) (Some rest) c given buf n fits before now =
    let e : rest ≡ drop (length given) left = cc in
    let len : length (given ++ take n buf) ≡ length given + n = length-append given (take n buf) ∙ ap (λ k. length given + k) (length-take-le n buf fits) in
    let further : drop (length (given ++ take n buf)) left ≡ drop n rest = ap (λ k. drop k left) len ∙ sym (drop-drop n (length given) left) ∙ ap (drop n) (sym e) in
    let front : given ++ take n buf ≡ given ++ take n rest = ap (λ xs. given ++ xs) now.1 in
    let whole : left ≡ given ++ rest = before.0 ∙ ap (λ xs. given ++ xs) (sym e) in
    let joined : left ≡ given ++ (take n rest ++ drop n rest) = whole ∙ ap (λ xs. given ++ xs) (sym (take-append-drop n rest)) in
    let grouped : left ≡ (given ++ take n rest) ++ drop n rest = joined ∙ sym (append_assoc given (take n rest) (drop n rest)) in
    (grouped ∙ ap (λ xs. xs ++ drop n rest) (sym front) ∙ ap (λ xs. (given ++ take n buf) ++ xs) (sym further), now.2 ∙ ap Some (sym further))

-- a failed read gives nothing
pub HasGiven-failed : (a b c : Option (List ℕ)) (given buf : List ℕ) → HasGiven a given b → GivesFrom b got.Failed buf c → HasGiven a given c
HasGiven-failed None b c given buf before now = tt
HasGiven-failed (Some left) None c given buf before now = absurd cc
HasGiven-failed (Some left) (Some rest) c given buf before now = (before.0, now ∙ before.1)

-- at the end all was given
pub IsAllOf-end : (a b c : Option (List ℕ)) (given buf : List ℕ) → HasGiven a given b → GivesFrom b got.End buf c → IsAllOf a given
IsAllOf-end None b c given buf before now = tt
IsAllOf-end (Some left) None c given buf before now = absurd cc
IsAllOf-end (Some left) (Some rest) c given buf before now =
    let e : drop (length given) left ≡ [] = cc in
    sym (before.0 ∙ ap (λ xs. given ++ xs) e ∙ append-nil given)

-- at the end nothing is left
pub nothing_left-end : (a b c : Option (List ℕ)) (given buf : List ℕ) → HasGiven a given b → GivesFrom b got.End buf c → IfSome a (λ _. c ≡ Some [])
nothing_left-end None b c given buf before now = tt
nothing_left-end (Some left) None c given buf before now = absurd cc
nothing_left-end (Some left) (Some rest) c given buf before now = now.1

-- a read that goes past the limit shows that there is more
pub IsLongerThan-bytes : (a b c : Option (List ℕ)) (given buf : List ℕ) (n limit : ℕ) → HasGiven a given b → GivesFrom b (got.Bytes n) buf c → limit < length given + n → IsLongerThan a limit
IsLongerThan-bytes None b c given buf n limit before now past = tt
IsLongerThan-bytes (Some left) None c given buf n limit before now past = absurd cc
IsLongerThan-bytes (Some left) (Some rest) c given buf n limit before now past =
    let e : rest ≡ drop (length given) left = cc in
    let len : length left ≡ length given + length rest = ap length (before.0 ∙ ap (λ xs. given ++ xs) (sym e)) ∙ length-append given rest in
    let more : n ≤ length rest = now.0 in
    omega arith
