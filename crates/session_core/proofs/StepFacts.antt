-- What the rules give: replies with short texts, and tasks.
use Rattle.std.proofs.Common.{◌≡◌, ℕ, ◌+◌, ◌≤◌, Bool, true, false, List, length, refl, arith, if◌then◌else◌}
use Rattle.std.specs.Prelude.{Option, None, Some, IfSome, Result, Ok, Err, codes, nat_le, nat_lt, ◌&&◌, is_none}
use Rattle.std.specs.Option.{option_map_or}
use Rattle.std.proofs.lemmas.Bool.Decides.{nat_tests}
use Rattle.std.proofs.lemmas.Fmt.{length-decimal-le}
use Rattle.std.proofs.lemmas.List.{length-append}
use Rattle.fix_fields.specs.Field.{Field}
use Rattle.fix_fields.specs.Number.{number_of}
use Rattle.fix_fields.specs.Reading.{first_value}
use Rattle.seq_gaps.specs.declared.offered.TheConstants.{MAX_NUMBER}
use Rattle.seq_gaps.specs.Line.{IsNumber}
use Rattle.session_core.specs.declared.acts.Act.TheVariants.{Send}
use Rattle.session_core.specs.declared.acts.Admin.{Admin}
use Rattle.session_core.specs.declared.acts.Admin.TheVariants.{Heartbeat, Logout}
use Rattle.session_core.specs.declared.names.Names.{Names}
use Rattle.session_core.specs.declared.replies.TheConstants.{LONGEST_TEST, LONGEST_LOGOUT_TEXT}
use Rattle.session_core.specs.declared.steps.Step.{Step}
use Rattle.session_core.specs.declared.steps.Step.TheVariants.{Ignore, Refuse, Close, Move, Deliver, Handle}
use Rattle.session_core.specs.Replies.{reject_for, test_answer, test_answer_of, number_in, range_answer, resend_answer, from_least, new_number, gap_fill, fill_or_reject, low_text, no_number_text}
use Rattle.session_core.specs.Said.{has_value, seq_num_of, new_seq_no_of, number_between}
use Rattle.session_core.specs.Steps.{no_number, wrong_name, wrong_comp_id, is_reset, move_or_refuse, reset, low, asks_nothing, in_order, early, on_time, by_number, by_name, by_seq_num, step_of}
use Rattle.session_core.specs.Tasks.{IsReply, IsTask}

-- what holds of every step
abbrev pub IsStep : Step → Type 0
IsStep Ignore = Unit {0}
IsStep (Refuse reject) = IsReply (Send reject)
IsStep (Close first last cause counts) = IfSome first (λ admin. IsReply (Send admin)) × IsReply (Send last)
IsStep (Move to) = Unit {0}
IsStep (Deliver n) = IsNumber n
IsStep (Handle n at_once task) = IsNumber n × IfSome at_once IsReply × IsTask task

-- either of two
either : {A : Type 0} (b : Bool) (x y : A) (P : A → Type 0) → P x → P y → P (if b then x else y)
either true x y P first second = first
either false x y P first second = second

-- a number that is read is in its range
range_some : (least most n : ℕ) (x : ℕ) → (if nat_le least n && nat_le n most then Some n else None) ≡ Some x → (least ≤ x) × (x ≤ most)
range_some least most n x = elim (nat_le least n && nat_le n most) as (λ b. (nat_le least n && nat_le n most) ≡ b → (if b then Some n else None) ≡ Some x → (least ≤ x) × (x ≤ most)) [
  | true ↦ λ both some. let same : n ≡ x = cc in (grind (arith, nat_tests, both, same), grind (arith, nat_tests, both, same))
  | false ↦ λ both some. absurd cc
] refl

found_between : (least most x : ℕ) (o : Option ℕ) → option_map_or (λ n. if nat_le least n && nat_le n most then Some n else None) o None ≡ Some x → (least ≤ x) × (x ≤ most)
found_between least most x None is = absurd cc
found_between least most x (Some n) is = range_some least most n x is

pub between : (least most x : ℕ) (bytes : Option (List ℕ)) → number_between least most bytes ≡ Some x → (least ≤ x) × (x ≤ most)
between least most x None is = absurd cc
between least most x (Some bytes) is = found_between least most x (number_of bytes) is

pub seq_num : (fields : List Field) (n : ℕ) → seq_num_of fields ≡ Some n → IsNumber n
unfolding seq_num_of
seq_num fields n is = let both = between 1 MAX_NUMBER n (first_value 34 fields) is in record { from_one = both.0; to_largest = both.1 }

new_seq_no : (fields : List Field) (n : ℕ) → new_seq_no_of fields ≡ Some n → IsNumber n
unfolding new_seq_no_of
new_seq_no fields n is = let both = between 1 MAX_NUMBER n (first_value 36 fields) is in record { from_one = both.0; to_largest = both.1 }

reject_is : (n : ℕ) (fields : List Field) (tag reason : ℕ) → IsReply (Send (reject_for n fields tag reason))
reject_is n fields tag reason = record { short = tt; no_tick = refl; no_reset = refl }

long_test : (n : ℕ) (fields : List Field) (test : List ℕ) → IsReply (Send (test_answer_of n fields (Some test)))
long_test n fields test =
    elim (nat_le (length test) LONGEST_TEST) as (λ b. nat_le (length test) LONGEST_TEST ≡ b → IsReply (Send (if b then Heartbeat (Some test) else reject_for n fields 112 5))) [
      | true ↦ λ is. record { short = grind (arith, nat_tests, is); no_tick = refl; no_reset = refl }
      | false ↦ λ is. reject_is n fields 112 5
    ] refl

test_answer_found : (n : ℕ) (fields : List Field) (found : Option (List ℕ)) → IsReply (Send (test_answer_of n fields found))
test_answer_found n fields None = reject_is n fields 112 1
test_answer_found n fields (Some test) = long_test n fields test

test_answer_is : (n : ℕ) (fields : List Field) → IsReply (Send (test_answer n fields))
unfolding test_answer
test_answer_is n fields = test_answer_found n fields (first_value 112 fields)

range_is : (n : ℕ) (fields : List Field) (begin last : Option ℕ) → IsReply (range_answer n fields begin last)
range_is n fields None last = reject_is n fields 7 6
range_is n fields (Some begin) None = reject_is n fields 16 6
range_is n fields (Some begin) (Some last) = record { short = tt; no_tick = refl; no_reset = refl }

resend_is : (n : ℕ) (fields : List Field) → IsReply (resend_answer n fields)
unfolding resend_answer
resend_is n fields =
    either (is_none (first_value 7 fields)) _ _ IsReply (reject_is n fields 7 1)
    (either (is_none (first_value 16 fields)) _ _ IsReply (reject_is n fields 16 1) (range_is n fields (number_in 7 fields) (number_in 16 fields)))

-- a NewSeqNo, or a Reject
abbrev IsMove : Result ℕ Admin → Type 0
IsMove (Ok to) = IsNumber to
IsMove (Err admin) = IsReply (Send admin)

from_least_is : (least n : ℕ) (fields : List Field) (found : Option ℕ) → new_seq_no_of fields ≡ found → IsMove (from_least least n fields found)
from_least_is least n fields None is = reject_is n fields 36 6
from_least_is least n fields (Some to) is = either (nat_lt to least) _ _ IsMove (reject_is n fields 36 5) (new_seq_no fields to is)

new_number_is : (least n : ℕ) (fields : List Field) → IsMove (new_number least n fields)
unfolding new_number
new_number_is least n fields =
    either (is_none (first_value 36 fields)) _ _ IsMove (reject_is n fields 36 1) (from_least_is least n fields (new_seq_no_of fields) refl)

fill_is : (move : Result ℕ Admin) → IsMove move → IsTask (fill_or_reject move)
fill_is (Ok to) is = is
fill_is (Err admin) is = is

gap_fill_is : (n : ℕ) (fields : List Field) → IsTask (gap_fill n fields)
unfolding gap_fill
gap_fill_is n fields = fill_is (new_number (n + 1) n fields) (new_number_is (n + 1) n fields)

move_is : (move : Result ℕ Admin) → IsMove move → IsStep (move_or_refuse move)
move_is (Ok to) is = tt
move_is (Err admin) is = is

reset_is : (expected n : ℕ) (fields : List Field) → IsStep (reset expected n fields)
unfolding reset
reset_is expected n fields = move_is (new_number expected n fields) (new_number_is expected n fields)

logout_is : IsReply (Send (Logout None))
logout_is = record { short = tt; no_tick = refl; no_reset = refl }

low_length : (expected n : ℕ) → expected ≤ MAX_NUMBER + 1 → n ≤ MAX_NUMBER → length (low_text expected n) ≤ LONGEST_LOGOUT_TEXT
unfolding low_text
low_length expected n e l =
    let one = length-decimal-le 10 expected (omega arith) (omega arith) (omega arith) in
    let two = length-decimal-le 10 n (omega arith) (omega arith) (omega arith) in
    rw (length-append, length-append, length-append) (omega (arith, one, two))

pub low_logout_is : (expected n : ℕ) → expected ≤ MAX_NUMBER + 1 → n ≤ MAX_NUMBER → IsReply (Send (Logout (Some (low_text expected n))))
low_logout_is expected n e l = record { short = low_length expected n e l; no_tick = refl; no_reset = refl }

no_number_length : length no_number_text ≤ LONGEST_LOGOUT_TEXT
unfolding no_number_text
no_number_length = omega arith

no_number_is : IsStep no_number
unfolding no_number
no_number_is = (tt, record { short = no_number_length; no_tick = refl; no_reset = refl })

wrong_comp_id_is : (expected n : ℕ) (fields : List Field) (tag : ℕ) → IsStep (wrong_comp_id expected n fields tag)
unfolding wrong_comp_id
wrong_comp_id_is expected n fields tag = (reject_is n fields tag 9, logout_is)

low_is : (expected n : ℕ) (fields : List Field) → expected ≤ MAX_NUMBER + 1 → n ≤ MAX_NUMBER → IsStep (low expected n fields)
unfolding low
low_is expected n fields e l = either (has_value 43 (codes "Y") fields) _ _ IsStep tt (tt, low_logout_is expected n e l)

in_order_is : (n : ℕ) (fields : List Field) → IsNumber n → IsStep (in_order n fields)
unfolding in_order
in_order_is n fields is =
    either (asks_nothing fields) _ _ IsStep (is, tt, tt)
    (either (has_value 35 (codes "1") fields) _ _ IsStep (is, tt, test_answer_is n fields)
    (either (has_value 35 (codes "4") fields) _ _ IsStep (is, tt, gap_fill_is n fields) is))

early_is : (n : ℕ) (fields : List Field) → IsNumber n → IsStep (early n fields)
unfolding early
early_is n fields is =
    either (has_value 35 (codes "5") fields) _ _ IsStep (tt, logout_is)
    (either (has_value 35 (codes "2") fields) _ _ IsStep (is, resend_is n fields, tt) (in_order_is n fields is))

on_time_is : (n : ℕ) (fields : List Field) → IsNumber n → IsStep (on_time n fields)
unfolding on_time
on_time_is n fields is =
    either (has_value 35 (codes "5") fields) _ _ IsStep (tt, logout_is)
    (either (has_value 35 (codes "2") fields) _ _ IsStep (is, tt, resend_is n fields) (in_order_is n fields is))

by_number_is : (expected n : ℕ) (fields : List Field) → expected ≤ MAX_NUMBER + 1 → IsNumber n → IsStep (by_number expected n fields)
unfolding by_number
by_number_is expected n fields e is =
    either (nat_lt n expected) _ _ IsStep (low_is expected n fields e is.to_largest)
    (either (nat_lt expected n) _ _ IsStep (early_is n fields is) (on_time_is n fields is))

by_name_is : (expected n : ℕ) (fields : List Field) (name : Option ℕ) → expected ≤ MAX_NUMBER + 1 → IsNumber n → IsStep (by_name expected n fields name)
by_name_is expected n fields (Some tag) e is = wrong_comp_id_is expected n fields tag
by_name_is expected n fields None e is = either (is_reset fields) _ _ IsStep (reset_is expected n fields) (by_number_is expected n fields e is)

by_seq_num_is : (names : Names) (expected : ℕ) (fields : List Field) (found : Option ℕ) → seq_num_of fields ≡ found → expected ≤ MAX_NUMBER + 1 → IsStep (by_seq_num names expected fields found)
by_seq_num_is names expected fields None is e = no_number_is
by_seq_num_is names expected fields (Some n) is e = by_name_is expected n fields (wrong_name names fields) e (seq_num fields n is)

pub step_is : (names : Names) (expected : ℕ) (fields : List Field) → expected ≤ MAX_NUMBER + 1 → IsStep (step_of names expected fields)
unfolding step_of
step_is names expected fields e = by_seq_num_is names expected fields (seq_num_of fields) refl e
