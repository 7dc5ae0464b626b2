-- The text of a session message whose texts are short is short.
use Rattle.std.proofs.Common.{◌≡◌, ℕ, ◌+◌, ◌<◌, ◌≤◌, ◌^◌, Bool, true, false, List, [], ◌∷◌, ◌++◌, length, refl, sym, subst, arith, if◌then◌else◌, length-append}
use Rattle.std.specs.Prelude.{None, Some, codes, decimal, nat_le}
use Rattle.std.proofs.lemmas.Bool.{leb-true}
use Rattle.std.proofs.lemmas.Fmt.{length-decimal-le}
use Rattle.session_core.specs.Admin.{admin_text}
use Rattle.session_core.specs.declared.acts.Admin.{Admin}
use Rattle.session_core.specs.declared.acts.Admin.TheVariants.{Logon, Heartbeat, TestRequest, ResendRequest, Reject, Logout}
use Rattle.session_core.specs.declared.admin_text.TheConstants.{LONGEST_ADMIN, LONGEST_KIND}
use Rattle.durable_journal.specs.Admins.{kind_rest, logon_rest, reason_rest, reject_rest, resend_rest, reset_rest, text_rest}
use Rattle.durable_journal.specs.Records.{IsPlainAdmin, IsShortText}
use Rattle.durable_journal.proofs.Sessions.{parts, rest_of}

number_short : (n : ℕ) → n < 2 ^ 32 → length (decimal n) ≤ 10
number_short n small = length-decimal-le 10 n (omega arith) (omega arith) (omega arith)

long_short : (n : ℕ) → n < 2 ^ 64 → length (decimal n) ≤ 20
long_short n small = length-decimal-le 20 n (omega arith) (omega arith) (omega arith)

both : (first second : List ℕ) (a b : ℕ) → length first ≤ a → length second ≤ b → length (first ++ second) ≤ a + b
both first second a b one two = let same = length-append first second in omega (arith, one, two, same)

ended : (text rest : List ℕ) (a b : ℕ) → length text ≤ a → length rest ≤ b → length (text ++ 1 ∷ rest) ≤ a + (b + 1)
ended text rest a b one two = both text (1 ∷ rest) a (b + 1) one (omega (arith, two))

reset_short : (reset : Bool) → length (reset_rest reset) ≤ 6
reset_short true = omega arith
reset_short false = omega arith

logon_short : (heart : ℕ) (reset : Bool) → heart < 2 ^ 32 → length (logon_rest heart reset) ≤ 9 + (10 + (6 + 1))
logon_short heart reset small =
    both (codes "98=0" ++ (1 ∷ codes "108=")) (decimal heart ++ 1 ∷ reset_rest reset) 9 (10 + (6 + 1)) (omega arith) (ended (decimal heart) (reset_rest reset) 10 6 (number_short heart small) (reset_short reset))

text_short : (tag text : List ℕ) → length tag ≤ 4 → IsShortText text → length (text_rest tag (Some text)) ≤ 4 + (256 + (0 + 1))
text_short tag text few is = both tag (text ++ 1 ∷ []) 4 (256 + (0 + 1)) few (ended text [] 256 0 is.short (omega arith))

resend_short : (begin last : ℕ) → begin < 2 ^ 32 → last < 2 ^ 32 → length (resend_rest begin last) ≤ 2 + (10 + ((3 + (10 + (0 + 1))) + 1))
resend_short begin last one two =
    let end = both (codes "16=") (decimal last ++ 1 ∷ []) 3 (10 + (0 + 1)) (omega arith) (ended (decimal last) [] 10 0 (number_short last two) (omega arith)) in
    both (codes "7=") (decimal begin ++ 1 ∷ (codes "16=" ++ (decimal last ++ 1 ∷ []))) 2 (10 + ((3 + (10 + (0 + 1))) + 1)) (omega arith)
    (ended (decimal begin) (codes "16=" ++ (decimal last ++ 1 ∷ [])) 10 (3 + (10 + (0 + 1))) (number_short begin one) end)

reason_short : (reason : ℕ) → reason < 2 ^ 32 → length (reason_rest reason) ≤ 4 + (10 + (0 + 1))
reason_short reason small = both (codes "373=") (decimal reason ++ 1 ∷ []) 4 (10 + (0 + 1)) (omega arith) (ended (decimal reason) [] 10 0 (number_short reason small) (omega arith))

-- the type is written where it is short
kind_short : (kind : List ℕ) (reason : ℕ) → reason < 2 ^ 32 → length (kind_rest kind reason) ≤ 52
kind_short kind reason small =
    let last = reason_short reason small in
    elim (nat_le (length kind) LONGEST_KIND) as (λ b. nat_le (length kind) LONGEST_KIND ≡ b → length (if b then codes "372=" ++ (kind ++ 1 ∷ reason_rest reason) else reason_rest reason) ≤ 52) [
      | true ↦ λ few.
          let short = leb-true (length kind) LONGEST_KIND few in
          let whole = both (codes "372=") (kind ++ 1 ∷ reason_rest reason) 4 (32 + (15 + 1)) (omega arith) (ended kind (reason_rest reason) 32 15 short (omega (arith, last))) in
          omega (arith, whole)
      | false ↦ λ many. omega (arith, last)
    ] refl

reject_short : (seq tag : ℕ) (kind : List ℕ) (reason : ℕ) → seq < 2 ^ 32 → tag < 2 ^ 32 → reason < 2 ^ 32 → length (reject_rest seq tag kind reason) ≤ 3 + (10 + ((4 + (10 + (52 + 1))) + 1))
reject_short seq tag kind reason one two three =
    let tail = codes "371=" ++ (decimal tag ++ 1 ∷ kind_rest kind reason) in
    let last : length tail ≤ 4 + (10 + (52 + 1)) =
    both (codes "371=") (decimal tag ++ 1 ∷ kind_rest kind reason) 4 (10 + (52 + 1)) (omega arith) (ended (decimal tag) (kind_rest kind reason) 10 52 (number_short tag two) (kind_short kind reason three)) in
    both (codes "45=") (decimal seq ++ 1 ∷ tail) 3 (10 + ((4 + (10 + (52 + 1))) + 1)) (omega arith) (ended (decimal seq) tail 10 (4 + (10 + (52 + 1))) (number_short seq one) last)

rest_short : (admin : Admin) (number : ℕ) → IsPlainAdmin admin → number < 2 ^ 64 → length (rest_of admin number) ≤ 261
rest_short (Logon heart reset) number plain small = (let whole = logon_short heart reset plain in omega (arith, whole))
rest_short (Heartbeat None) number plain small = omega arith
rest_short (Heartbeat (Some test)) number plain small = text_short (codes "112=") test (omega arith) plain
rest_short TestRequest number plain small =
    (let whole = both (codes "112=") (decimal number ++ 1 ∷ []) 4 (20 + (0 + 1)) (omega arith) (ended (decimal number) [] 20 0 (long_short number small) (omega arith)) in omega (arith, whole))
rest_short (ResendRequest begin last) number plain small = (let whole = resend_short begin last plain.0 plain.1 in omega (arith, whole))
rest_short (Reject seq tag kind reason) number plain small =
    (let three : reason < 2 ^ 32 = (let few = plain.3 in omega (arith, few)) in let whole = reject_short seq tag kind reason plain.0 plain.1 three in omega (arith, whole))
rest_short (Logout None) number plain small = omega arith
rest_short (Logout (Some text)) number plain small = text_short (codes "58=") text (omega arith) plain

pub text_is_short : (admin : Admin) (number : ℕ) → IsPlainAdmin admin → number < 2 ^ 64 → length (admin_text admin number) ≤ LONGEST_ADMIN
text_is_short admin number plain small =
    let rest = rest_short admin number plain small in
    subst (λ (text : List ℕ). length text ≤ LONGEST_ADMIN) (sym (parts admin number)) (omega (arith, rest))
