-- At a meeting the replies that a library popped have the numbers 1, 2 and so on of its requests.
use Rattle.std.proofs.Common.{◌≡◌, inl, inr, ℕ, zero, suc, ◌≤◌, List, [], ◌∷◌, ◌++◌, length, length-append, map, take, refl, ap, subst, sym, ◌∙◌, arith}
use Rattle.std.proofs.lemmas.Bool.{cases_lt}
use Rattle.std.proofs.lemmas.List.{append_assoc, take-append-le, take_all, take_at}
use Rattle.std.proofs.lemmas.Grind.{flat_map-append}
use Rattle.std.specs.List.{flat_map}
use Rattle.lease_core.specs.declared.messages.Command.{Command}
use Rattle.lease_core.specs.declared.messages.Command.TheVariants as commands
use Rattle.lease_core.specs.declared.messages.Notice.{Notice}
use Rattle.lease_core.specs.declared.messages.Notice.TheVariants as notices
use Rattle.library_api.specs.Calls.{AreNumbered, numbers_in, numbers_to}
use Rattle.library_api.specs.Known.{Known}
use Rattle.library_api.specs.Replies.{AreReplies, replies_in}
use Rattle.engine_laws.specs.libraries.Replies.{Ask, answered_by, asked_by}
use Rattle.headline.specs.runs.Sides.{Begins}

long_numbers : (n : ℕ) → length (numbers_to n) ≡ n
long_numbers zero = refl
long_numbers (suc n) = (let rest = long_numbers n in omega (arith, length-append (numbers_to n) (suc n ∷ [])))

first_numbers : (n m : ℕ) → m ≤ n → take m (numbers_to n) ≡ numbers_to m
first_numbers zero m few = (let none : m ≡ 0 = omega arith in subst (λ k. take k (numbers_to 0) ≡ numbers_to k) (sym none) refl)
first_numbers (suc n) m few = elim (cases_lt n m) [
  | inl last ↦ (
      let all : m ≡ suc n = omega arith in
      subst (λ k. take k (numbers_to (suc n)) ≡ numbers_to k) (sym all) (take_all (suc n) (numbers_to (suc n)) (let long = long_numbers (suc n) in omega arith)))
  | inr earlier ↦ take-append-le m (numbers_to n) (suc n ∷ []) (let long = long_numbers n in omega arith) ∙ first_numbers n m earlier
]

-- what begins the first numbers are first numbers
begun_numbers : (xs ys : List ℕ) (n : ℕ) → xs ++ ys ≡ numbers_to n → (xs ≡ numbers_to (length xs)) × (length xs ≤ n)
begun_numbers xs ys n are =
    let long = long_numbers n in
    let few : length xs ≤ n = omega (arith, length-append xs ys, ap length are) in
    (sym (take_at xs ys (length xs) refl) ∙ (ap (take (length xs)) are ∙ first_numbers n (length xs) few), few)

pub numbers_asked : (cs : List Command) → numbers_in cs ≡ map (λ (ask : Ask). ask.nr) (flat_map asked_by cs)
numbers_asked [] = refl
numbers_asked (commands.Request nr s from ∷ cs) = ap (λ numbers. nr ∷ numbers) (numbers_asked cs)
numbers_asked (commands.Done finished ∷ cs) = numbers_asked cs

numbers_answered : (ns : List Notice) → replies_in ns ≡ map (λ (ask : Ask). ask.nr) (flat_map answered_by ns)
numbers_answered [] = refl
numbers_answered (notices.Granted nr s lease from start ∷ ns) = ap (λ numbers. nr ∷ numbers) (numbers_answered ns)
numbers_answered (notices.Refused nr s why ∷ ns) = ap (λ numbers. nr ∷ numbers) (numbers_answered ns)
numbers_answered (notices.Message s lease pos bytes ∷ ns) = numbers_answered ns

numbers-append : (cs ds : List Command) → numbers_in (cs ++ ds) ≡ numbers_in cs ++ numbers_in ds
numbers-append [] ds = refl
numbers-append (commands.Request nr s from ∷ cs) ds = ap (λ numbers. nr ∷ numbers) (numbers-append cs ds)
numbers-append (commands.Done finished ∷ cs) ds = numbers-append cs ds

pub replies-append : (ns ms : List Notice) → replies_in (ns ++ ms) ≡ replies_in ns ++ replies_in ms
replies-append [] ms = refl
replies-append (notices.Granted nr s lease from start ∷ ns) ms = ap (λ numbers. nr ∷ numbers) (replies-append ns ms)
replies-append (notices.Refused nr s why ∷ ns) ms = ap (λ numbers. nr ∷ numbers) (replies-append ns ms)
replies-append (notices.Message s lease pos bytes ∷ ns) ms = replies-append ns ms

-- What was popped of each side begins what the other pushed, and each request that was popped is answered, in order.
pub replies_met : (k : Known) (told : List Notice) (pushed : List Notice) (popped waiting : List Command) → AreNumbered k → k.ends.head.popped ++ told ≡ pushed → popped ++ waiting ≡ k.ends.tail.pushed
    → flat_map answered_by pushed ≡ flat_map asked_by popped → AreReplies k
replies_met k told pushed popped waiting numbered notices_are commands_are answered =
    let asked : replies_in pushed ≡ numbers_in popped = numbers_answered pushed ∙ (ap (map (λ (ask : Ask). ask.nr)) answered ∙ sym (numbers_asked popped)) in
    let theirs : replies_in k.ends.head.popped ++ replies_in told ≡ numbers_in popped = sym (replies-append k.ends.head.popped told) ∙ (ap replies_in notices_are ∙ asked) in
    let all : numbers_in popped ++ numbers_in waiting ≡ numbers_to k.asked = sym (numbers-append popped waiting) ∙ (ap numbers_in commands_are ∙ numbered.numbers) in
    let begun = begun_numbers (replies_in k.ends.head.popped) (replies_in told ++ numbers_in waiting) k.asked
    (sym (append_assoc (replies_in k.ends.head.popped) (replies_in told) (numbers_in waiting)) ∙ (ap (λ front. front ++ numbers_in waiting) theirs ∙ all)) in
    record { numbers = begun.0; asked = begun.1 }

-- and the replies that were popped are those of the requests that were pushed
pub answers_met : (first told all : List Notice) (popped waiting pushed : List Command) → first ++ told ≡ all → popped ++ waiting ≡ pushed → flat_map answered_by all ≡ flat_map asked_by popped
    → Begins (flat_map answered_by first) (flat_map asked_by pushed)
answers_met first told all popped waiting pushed notices_are commands_are answered = record {
  rest = flat_map answered_by told ++ flat_map asked_by waiting;
  is = sym (append_assoc (flat_map answered_by first) (flat_map answered_by told) (flat_map asked_by waiting))
      ∙ (ap (λ front. front ++ flat_map asked_by waiting) (sym (flat_map-append answered_by first told) ∙ (ap (flat_map answered_by) notices_are ∙ answered))
      ∙ (sym (flat_map-append asked_by popped waiting) ∙ ap (flat_map asked_by) commands_are));
}
