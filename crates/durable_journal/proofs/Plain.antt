-- The texts of session messages that answer a message whose fields can be read.
use Rattle.std.proofs.Common.{◌≡◌, ℕ, ◌<◌, ◌^◌, Bool, true, false, List, [], ◌∷◌, ◌++◌, length, refl, sym, ap, subst, ◌∙◌, arith, if◌then◌else◌, length-append, ◌≤◌}
use Rattle.std.specs.Prelude.{Option, None, Some, codes, decimal, nat_le, ◌==◌, ◌||◌, find, unwrap_or, not}
use Rattle.std.specs.List.{list_all}
use Rattle.std.specs.Option.{option_map, option_map_or, option_and_then}
use Rattle.std.proofs.lemmas.Bool.{leb-true}
use Rattle.std.proofs.lemmas.Bool.Decides.{nat_tests}
use Rattle.std.proofs.lemmas.Fmt.{length-decimal-le}
use Rattle.fix_fields.specs.Field.{Field, no_field, has_soh}
use Rattle.fix_fields.specs.Pairs.{pairs, pair_of, data_tag_of, is_data_of}
use Rattle.fix_fields.specs.Body.{MayFollow, AllAfter}
use Rattle.fix_fields.specs.Reading.{first_value}
use Rattle.session_core.specs.Replies.{reject_for, test_answer, test_answer_of, low_text, no_number_text}
use Rattle.session_core.specs.Said.{type_of}
use Rattle.session_core.specs.declared.acts.Admin.TheVariants.{Heartbeat}
use Rattle.session_core.specs.declared.replies.TheConstants.{LONGEST_TEST}
use Rattle.durable_journal.specs.declared.limits.TheConstants.{LONGEST_TEXT}
use Rattle.durable_journal.specs.Records.{IsPlain, IsPlainAdmin, IsShortText}

-- no data field of these pairs has this tag
abbrev lacks : ℕ → List (ℕ × ℕ) → Bool
lacks tag ps = list_all (λ p. not (p.1 == tag)) ps

abbrev data_in : ℕ → Option (ℕ × ℕ) → Option ℕ
data_in t found = option_and_then (λ pair. if pair.0 == t then Some pair.1 else None) found

abbrev is_data_in : ℕ → ℕ → Option (ℕ × ℕ) → Bool
is_data_in t tag found = option_map_or (λ d. d == tag) (data_in t found) false

here : (t tag : ℕ) (p : ℕ × ℕ) → (p.1 == tag) ≡ false → is_data_in t tag (Some p) ≡ false
here t tag p other = elim (p.0 == t) as (λ b. option_map_or (λ d. d == tag) (if b then Some p.1 else None) false ≡ false) [
  | true ↦ other
  | false ↦ refl
]

nowhere : (t tag : ℕ) (ps : List (ℕ × ℕ)) → lacks tag ps ≡ true → is_data_in t tag (find (λ pair. (pair.0 == t) || (pair.1 == t)) ps) ≡ false
nowhere t tag [] all = refl
nowhere t tag (p ∷ ps) all = elim ((p.0 == t) || (p.1 == t)) as (λ b. is_data_in t tag (if b then Some p else find (λ pair. (pair.0 == t) || (pair.1 == t)) ps) ≡ false) [
  | true ↦ here t tag p (grind (arith, nat_tests, all))
  | false ↦ nowhere t tag ps (grind (arith, nat_tests, all))
]

-- a tag that is of no data field
abbrev pub IsNoData : ℕ → Type 0
IsNoData tag = (before : ℕ) → is_data_of before tag ≡ false

pub no_data : (tag : ℕ) → lacks tag pairs ≡ true → IsNoData tag
unfolding data_tag_of pair_of
no_data tag all before = nowhere before tag pairs all

same_text : (field : Field) (value : List ℕ) → Some field.value ≡ Some value → field.value ≡ value
same_text field value is = cc

plain_field : (before field : Field) (value : List ℕ) → IsNoData field.tag → MayFollow before field → field.value ≡ value → IsPlain value
plain_field before field value none lawful is = record {
  some = λ empty. lawful.writable.filled (is ∙ empty);
  no_soh = ap has_soh (sym is) ∙ lawful.writable.plain (none before.tag);
}

pub plain_value : (tag : ℕ) → IsNoData tag → (before : Field) (fields : List Field) → AllAfter MayFollow before fields → (value : List ℕ) → first_value tag fields ≡ Some value → IsPlain value
plain_value tag none before [] all value is = absurd cc
plain_value tag none before (field ∷ fields) all value is =
    elim (field.tag == tag) as (λ b. (field.tag == tag) ≡ b → option_map (λ (f : Field). f.value) (if b then Some field else find (λ f. f.tag == tag) fields) ≡ Some value → IsPlain value) [
      | true ↦ λ same found. plain_field before field value (subst IsNoData (grind (arith, nat_tests, same)) none) all.0 (same_text field value found)
      | false ↦ λ other found. plain_value tag none field fields all.1 value found
    ] refl is

-- what answers a message with these fields, of which one is its type
module _ (fields : List Field) (lawful : AllAfter MayFollow no_field fields) (kind : List ℕ) (typed : first_value 35 fields ≡ Some kind) (n : ℕ) (small : n < 2 ^ 32) where
  plain_kind : IsPlain (type_of fields)
  plain_kind = subst IsPlain (sym (ap (λ (o : Option (List ℕ)). unwrap_or o []) typed)) (plain_value 35 (no_data 35 refl) no_field fields lawful kind typed)

  pub plain_reject : (tag reason : ℕ) → tag < 2 ^ 32 → reason < 2 ^ 8 → IsPlainAdmin (reject_for n fields tag reason)
  plain_reject tag reason t r = (small, t, plain_kind, r)

  plain_found : (found : Option (List ℕ)) → first_value 112 fields ≡ found → IsPlainAdmin (test_answer_of n fields found)
  plain_found None is = plain_reject 112 1 (omega arith) (omega arith)
  plain_found (Some test) is = elim (nat_le (length test) LONGEST_TEST) as (λ b. nat_le (length test) LONGEST_TEST ≡ b → IsPlainAdmin (if b then Heartbeat (Some test) else reject_for n fields 112 5)) [
    | true ↦ λ few. record { plain = plain_value 112 (no_data 112 refl) no_field fields lawful test is; short = leb-true (length test) LONGEST_TEST few }
    | false ↦ λ many. plain_reject 112 5 (omega arith) (omega arith)
  ] refl

  pub plain_test : IsPlainAdmin (test_answer n fields)
  unfolding test_answer
  plain_test = plain_found (first_value 112 fields) refl

-- the texts of Logouts
none_in_both : (a b : List ℕ) → has_soh a ≡ false → has_soh b ≡ false → has_soh (a ++ b) ≡ false
none_in_both [] b na nb = nb
none_in_both (c ∷ a) b na nb =
    let rest : has_soh a ≡ false = grind (arith, nat_tests, na) in
    grind (arith, nat_tests, na, none_in_both a b rest nb)

low_length : (expected got : ℕ) → expected < 2 ^ 64 → got < 2 ^ 64 → length (low_text expected got) ≤ LONGEST_TEXT
unfolding low_text
low_length expected got small little =
    let digits = length-decimal-le 20 expected (omega arith) (omega arith) (omega arith) in
    let more = length-decimal-le 20 got (omega arith) (omega arith) (omega arith) in
    let first = length-append (codes "MsgSeqNum too low, expecting ") (decimal expected) in
    let second = length-append (codes "MsgSeqNum too low, expecting " ++ decimal expected) (codes " but received ") in
    let third = length-append (codes "MsgSeqNum too low, expecting " ++ decimal expected ++ codes " but received ") (decimal got) in
    omega (arith, digits, more, first, second, third)

low_plain : (expected got : ℕ) → has_soh (decimal expected) ≡ false → has_soh (decimal got) ≡ false → IsPlain (low_text expected got)
unfolding low_text
low_plain expected got first second =
    let said = none_in_both (codes "MsgSeqNum too low, expecting ") (decimal expected) refl first in
    let more = none_in_both (codes "MsgSeqNum too low, expecting " ++ decimal expected) (codes " but received ") said refl in
    record {
      some = λ empty. absurd cc;
      no_soh = none_in_both (codes "MsgSeqNum too low, expecting " ++ decimal expected ++ codes " but received ") (decimal got) more second;
    }

pub plain_low : (expected got : ℕ) → expected < 2 ^ 64 → got < 2 ^ 64 → has_soh (decimal expected) ≡ false → has_soh (decimal got) ≡ false → IsShortText (low_text expected got)
plain_low expected got small little first second = record { plain = low_plain expected got first second; short = low_length expected got small little }

pub plain_no_number : IsShortText no_number_text
unfolding no_number_text
plain_no_number = record { plain = record { some = λ empty. absurd cc; no_soh = refl }; short = omega arith }
