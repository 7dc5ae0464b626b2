-- The text of a session message is a body, is short, and tells whether the clock alone sends it.
use Rattle.std.proofs.Common.{◌≡◌, ℕ, ◌+◌, ◌<◌, ◌≤◌, ◌^◌, Bool, true, false, List, [], ◌∷◌, ◌++◌, length, ap, sym, ◌∙◌, refl, arith, if◌then◌else◌}
use Rattle.std.specs.Prelude.{Option, None, Some, codes, decimal, nat_le}
use Rattle.std.proofs.lemmas.Bool.Decides.{nat_tests}
use Rattle.std.proofs.lemmas.Fmt.{length-decimal-le}
use Rattle.std.proofs.lemmas.List.{append_assoc, length-append}
use Rattle.fix_fields.specs.Field.{tagged_text}
use Rattle.fix_fields.specs.Frame.{IsBody}
use Rattle.session_core.specs.Admin.{admin_text, logon_text, heartbeat_text, test_request_text, resend_request_text, reject_text, logout_text, is_tick_text}
use Rattle.session_core.specs.Tasks.{HasShortTexts, is_tick}
use Rattle.session_core.specs.declared.acts.Admin.{Admin}
use Rattle.session_core.specs.declared.acts.Admin.TheVariants.{Logon, Heartbeat, TestRequest, ResendRequest, Reject, Logout}
use Rattle.session_core.specs.declared.admin_text.TheConstants.{LONGEST_ADMIN, LONGEST_KIND}
use Rattle.session_core.specs.declared.replies.TheConstants.{LONGEST_TEST, LONGEST_LOGOUT_TEXT}

-- it ends with the byte that ends a field
record Ends (text : List ℕ) : Type 0 where
  pub middle : List ℕ
  pub are : text ≡ middle ++ 1 ∷ []

field_ends : (tag value : List ℕ) → Ends (tagged_text tag value)
field_ends tag value = record { middle = tag ++ (61 ∷ value); are = refl }

behind_ends : (first second : List ℕ) → Ends second → Ends (first ++ second)
behind_ends first second ends = record { middle = first ++ ends.middle; are = ap (λ text. first ++ text) ends.are ∙ sym (append_assoc first ends.middle (1 ∷ [])) }

if_ends : (b : Bool) (one two : List ℕ) → Ends one → Ends two → Ends (if b then one else two)
if_ends true one two first second = first
if_ends false one two first second = second

-- and begins with the type field
record IsText (text : List ℕ) : Type 0 where
  pub rest : List ℕ
  pub are : text ≡ codes "35=" ++ rest
  pub ends : Ends rest

type_is : (value : List ℕ) → IsText (tagged_text (codes "35") value)
type_is value = record { rest = value ++ 1 ∷ []; are = refl; ends = record { middle = value; are = refl } }

before_is : (first second : List ℕ) → IsText first → Ends second → IsText (first ++ second)
before_is first second is ends = record { rest = is.rest ++ second; are = ap (λ text. text ++ second) is.are; ends = behind_ends is.rest second ends }

if_is : (b : Bool) (one two : List ℕ) → IsText one → IsText two → IsText (if b then one else two)
if_is true one two first second = first
if_is false one two first second = second

-- the type field, with this type
abbrev of_type : List ℕ → List ℕ
of_type kind = tagged_text (codes "35") kind

abbrev logon_head : ℕ → List ℕ
logon_head heart = of_type (codes "A") ++ tagged_text (codes "98") (codes "0") ++ tagged_text (codes "108") (decimal heart)

logon_head_is : (heart : ℕ) → IsText (logon_head heart)
logon_head_is heart =
    let last = tagged_text (codes "108") (decimal heart) in
    let method = tagged_text (codes "98") (codes "0") in
    before_is (of_type (codes "A")) (method ++ last) (type_is (codes "A")) (behind_ends method last (field_ends (codes "108") (decimal heart)))

logon_is : (heart : ℕ) (reset : Bool) → IsText (logon_text heart reset)
unfolding logon_text
logon_is heart reset =
    let flag = tagged_text (codes "141") (codes "Y") in
    if_is reset (logon_head heart ++ flag) (logon_head heart) (before_is (logon_head heart) flag (logon_head_is heart) (field_ends (codes "141") (codes "Y"))) (logon_head_is heart)

heartbeat_is : (test : Option (List ℕ)) → IsText (heartbeat_text test)
unfolding heartbeat_text
heartbeat_is None = type_is (codes "0")
heartbeat_is (Some test) = before_is (of_type (codes "0")) (tagged_text (codes "112") test) (type_is (codes "0")) (field_ends (codes "112") test)

test_request_is : (number : ℕ) → IsText (test_request_text number)
unfolding test_request_text
test_request_is number = before_is (of_type (codes "1")) (tagged_text (codes "112") (decimal number)) (type_is (codes "1")) (field_ends (codes "112") (decimal number))

resend_request_is : (begin last : ℕ) → IsText (resend_request_text begin last)
unfolding resend_request_text
resend_request_is begin last =
    let first = tagged_text (codes "7") (decimal begin) in
    let end = tagged_text (codes "16") (decimal last) in
    before_is (of_type (codes "2")) (first ++ end) (type_is (codes "2")) (behind_ends first end (field_ends (codes "16") (decimal last)))

abbrev reject_head : ℕ → ℕ → List ℕ
reject_head seq tag = of_type (codes "3") ++ tagged_text (codes "45") (decimal seq) ++ tagged_text (codes "371") (decimal tag)

abbrev reject_kind : ℕ → ℕ → List ℕ → List ℕ
reject_kind seq tag kind = if nat_le (length kind) LONGEST_KIND then reject_head seq tag ++ tagged_text (codes "372") kind else reject_head seq tag

reject_head_is : (seq tag : ℕ) → IsText (reject_head seq tag)
reject_head_is seq tag =
    let first = tagged_text (codes "45") (decimal seq) in
    let second = tagged_text (codes "371") (decimal tag) in
    before_is (of_type (codes "3")) (first ++ second) (type_is (codes "3")) (behind_ends first second (field_ends (codes "371") (decimal tag)))

reject_is : (seq tag : ℕ) (kind : List ℕ) (reason : ℕ) → IsText (reject_text seq tag kind reason)
unfolding reject_text
reject_is seq tag kind reason =
    let head = reject_head_is seq tag in
    let with_kind = if_is (nat_le (length kind) LONGEST_KIND) (reject_head seq tag ++ tagged_text (codes "372") kind) (reject_head seq tag) (before_is (reject_head seq tag) (tagged_text (codes "372") kind) head (field_ends (codes "372") kind)) head in
    before_is (reject_kind seq tag kind) (tagged_text (codes "373") (decimal reason)) with_kind (field_ends (codes "373") (decimal reason))

logout_is : (text : Option (List ℕ)) → IsText (logout_text text)
unfolding logout_text
logout_is None = type_is (codes "5")
logout_is (Some text) = before_is (of_type (codes "5")) (tagged_text (codes "58") text) (type_is (codes "5")) (field_ends (codes "58") text)

text_is : (admin : Admin) (number : ℕ) → IsText (admin_text admin number)
text_is (Logon heart reset) number = logon_is heart reset
text_is (Heartbeat test) number = heartbeat_is test
text_is TestRequest number = test_request_is number
text_is (ResendRequest begin last) number = resend_request_is begin last
text_is (Reject seq tag kind reason) number = reject_is seq tag kind reason
text_is (Logout text) number = logout_is text

pub body_is : (admin : Admin) (number : ℕ) → IsBody (admin_text admin number)
body_is admin number =
    let is = text_is admin number in
    record { middle = is.ends.middle; text = is.are ∙ ap (λ rest. codes "35=" ++ rest) is.ends.are }

-- whether the clock alone sends it
ticks_reject : (b : Bool) (head more last : List ℕ) → is_tick_text ((if b then (codes "35=3" ++ 1 ∷ head) ++ more else codes "35=3" ++ 1 ∷ head) ++ last) ≡ false
ticks_reject true head more last = refl
ticks_reject false head more last = refl

pub ticks_told : (admin : Admin) (number : ℕ) → is_tick_text (admin_text admin number) ≡ is_tick admin
unfolding logon_text heartbeat_text test_request_text resend_request_text reject_text logout_text
ticks_told (Logon heart true) number = refl
ticks_told (Logon heart false) number = refl
ticks_told (Heartbeat None) number = refl
ticks_told (Heartbeat (Some test)) number = refl
ticks_told TestRequest number = refl
ticks_told (ResendRequest begin last) number = refl
ticks_told (Reject seq tag kind reason) number =
    ticks_reject (nat_le (length kind) LONGEST_KIND) (tagged_text (codes "45") (decimal seq) ++ tagged_text (codes "371") (decimal tag)) (tagged_text (codes "372") kind) (tagged_text (codes "373") (decimal reason))
ticks_told (Logout None) number = refl
ticks_told (Logout (Some text)) number = refl

-- it is short
number_short : (n : ℕ) → n < 2 ^ 32 → length (decimal n) ≤ 10
number_short n small = length-decimal-le 10 n (omega arith) (omega arith) (omega arith)

long_short : (n : ℕ) → n < 2 ^ 64 → length (decimal n) ≤ 20
long_short n small = length-decimal-le 20 n (omega arith) (omega arith) (omega arith)

field_length : (tag value : List ℕ) → length (tagged_text tag value) ≡ length tag + length value + 2
field_length tag value = omega (arith, length-append (tag ++ (61 ∷ value)) (1 ∷ []), length-append tag (61 ∷ value))

field_short : (tag value : List ℕ) (n : ℕ) → length value ≤ n → length (tagged_text tag value) ≤ length tag + n + 2
field_short tag value n is = let same = field_length tag value in omega (arith, is, same)

both_short : (first second : List ℕ) (a b : ℕ) → length first ≤ a → length second ≤ b → length (first ++ second) ≤ a + b
both_short first second a b one two = let same = length-append first second in omega (arith, one, two, same)

if_short : (b : Bool) (one two : List ℕ) (n : ℕ) → length one ≤ n → length two ≤ n → length (if b then one else two) ≤ n
if_short true one two n first second = first
if_short false one two n first second = second

logon_head_short : (heart : ℕ) → heart < 2 ^ 32 → length (logon_head heart) ≤ 25
logon_head_short heart small =
    let last = tagged_text (codes "108") (decimal heart) in
    let method = tagged_text (codes "98") (codes "0") in
    both_short (of_type (codes "A")) (method ++ last) 5 20 (omega arith) (both_short method last 5 15 (omega arith) (field_short (codes "108") (decimal heart) 10 (number_short heart small)))

pub logon_short : (heart : ℕ) (reset : Bool) → heart < 2 ^ 32 → length (logon_text heart reset) ≤ LONGEST_ADMIN
unfolding logon_text
logon_short heart reset small =
    let flag = tagged_text (codes "141") (codes "Y") in
    let head = logon_head_short heart small in
    let whole = both_short (logon_head heart) flag 25 6 head (omega arith) in
    if_short reset (logon_head heart ++ flag) (logon_head heart) LONGEST_ADMIN (omega (arith, whole)) (omega (arith, head))

pub heartbeat_short : (test : Option (List ℕ)) → HasShortTexts (Heartbeat test) → length (heartbeat_text test) ≤ LONGEST_ADMIN
unfolding heartbeat_text
heartbeat_short None short = omega arith
heartbeat_short (Some test) short = both_short (of_type (codes "0")) (tagged_text (codes "112") test) 5 261 (omega arith) (field_short (codes "112") test LONGEST_TEST short)

pub test_request_short : (number : ℕ) → number < 2 ^ 64 → length (test_request_text number) ≤ LONGEST_ADMIN
unfolding test_request_text
test_request_short number small =
    let whole = both_short (of_type (codes "1")) (tagged_text (codes "112") (decimal number)) 5 25 (omega arith) (field_short (codes "112") (decimal number) 20 (long_short number small)) in
    omega (arith, whole)

pub resend_request_short : (begin last : ℕ) → begin < 2 ^ 32 → last < 2 ^ 32 → length (resend_request_text begin last) ≤ LONGEST_ADMIN
unfolding resend_request_text
resend_request_short begin last one two =
    let first = tagged_text (codes "7") (decimal begin) in
    let end = tagged_text (codes "16") (decimal last) in
    let range = both_short first end 13 14 (field_short (codes "7") (decimal begin) 10 (number_short begin one)) (field_short (codes "16") (decimal last) 10 (number_short last two)) in
    let whole = both_short (of_type (codes "2")) (first ++ end) 5 27 (omega arith) range in
    omega (arith, whole)

pub logout_short : (text : Option (List ℕ)) → HasShortTexts (Logout text) → length (logout_text text) ≤ LONGEST_ADMIN
unfolding logout_text
logout_short None short = omega arith
logout_short (Some text) short =
    let whole = both_short (of_type (codes "5")) (tagged_text (codes "58") text) 5 67 (omega arith) (field_short (codes "58") text LONGEST_LOGOUT_TEXT short) in
    omega (arith, whole)

reject_head_short : (seq tag : ℕ) → seq < 2 ^ 32 → tag < 2 ^ 32 → length (reject_head seq tag) ≤ 34
reject_head_short seq tag one two =
    let first = tagged_text (codes "45") (decimal seq) in
    let second = tagged_text (codes "371") (decimal tag) in
    let numbers = both_short first second 14 15 (field_short (codes "45") (decimal seq) 10 (number_short seq one)) (field_short (codes "371") (decimal tag) 10 (number_short tag two)) in
    both_short (of_type (codes "3")) (first ++ second) 5 29 (omega arith) numbers

-- the type is written where it is short
kind_short : (seq tag : ℕ) (kind : List ℕ) → length (reject_head seq tag) ≤ 34 → length (reject_kind seq tag kind) ≤ 71
kind_short seq tag kind is =
    elim (nat_le (length kind) LONGEST_KIND) as (λ b. nat_le (length kind) LONGEST_KIND ≡ b → length (if b then reject_head seq tag ++ tagged_text (codes "372") kind else reject_head seq tag) ≤ 71) [
      | true ↦ λ few. both_short (reject_head seq tag) (tagged_text (codes "372") kind) 34 37 is (field_short (codes "372") kind LONGEST_KIND (grind (arith, nat_tests, few)))
      | false ↦ λ many. omega (arith, is)
    ] refl

pub reject_short : (seq tag : ℕ) (kind : List ℕ) (reason : ℕ) → seq < 2 ^ 32 → tag < 2 ^ 32 → reason < 2 ^ 32 → length (reject_text seq tag kind reason) ≤ LONGEST_ADMIN
unfolding reject_text
reject_short seq tag kind reason one two three =
    let head = kind_short seq tag kind (reject_head_short seq tag one two) in
    let whole = both_short (reject_kind seq tag kind) (tagged_text (codes "373") (decimal reason)) 71 15 head (field_short (codes "373") (decimal reason) 10 (number_short reason three)) in
    omega (arith, whole)
