-- One field: its text is read as it, and nothing else is.
use Rattle.std.proofs.Common.{◌≡◌, ℕ, ◌+◌, ◌<◌, inl, inr, Bool, true, false, cond, eqb, List, [], ◌∷◌, ◌++◌, length, get_or, take, drop, Option, Some, None, Result, Ok, Err, refl, sym, ap, ◌∙◌, subst, append_assoc, length-append, arith}
use Rattle.std.proofs.lemmas.Bool.{cases_Bool, both_ways, eqb-true, eqb-false, ne_eqb, or_from, or_parts, and_parts, cases_lt}
use Rattle.std.proofs.lemmas.Option.{none-some, some_pair_parts, cond_some}
use Rattle.std.proofs.lemmas.List.{take-append-drop, take_at, drop_at, drop_more, length-take-le, get_or_past, nil_from_length}
use Rattle.std.proofs.Math.Seq.{get_or-append_seam}
use Rattle.std.specs.Option.{option_map, option_and_then, ok_or}
use Rattle.std.specs.Char.{is_ascii_digit}
use Rattle.std.specs.Str.{all_ascii_digits}
use Rattle.std.proofs.lemmas.Bool.Decides.{nat_tests}
use Rattle.std.specs.Prelude.{decimal}
use Rattle.fix_fields.specs.Field.{Field, field_text, has_soh}
use Rattle.fix_fields.specs.Reading.{onto_first, split_at_equals, split_at_soh, split_after, value_at, field_at, ◌>>=◌}
use Rattle.fix_fields.specs.Body.{MayFollow}
use Rattle.fix_fields.specs.Number.{number_of, tag_of}
use Rattle.fix_fields.specs.Pairs.{is_data_of}
use Rattle.fix_fields.specs.declared.reading.Fault.{Fault}
use Rattle.fix_fields.specs.declared.reading.Fault.TheVariants.{NoEquals, BadTag, EmptyValue}
use Rattle.std.proofs.lemmas.Fmt.{digits_decimal}
use Rattle.fix_fields.proofs.Numbers.{IsTag, IsTag-from, tag_of-decimal, own}

abbrev Parts : Type 0
Parts = List ℕ × List ℕ

-- what a split begins with, where its first byte was passed
onto_first_some : (byte : ℕ) (o : Option Parts) (head tail : List ℕ) → option_map (onto_first byte) o ≡ Some (head, tail) → (front : List ℕ) × (o ≡ Some (front, tail)) × (head ≡ byte ∷ front)
onto_first_some byte None head tail e = absurd (none-some _ e)
onto_first_some byte (Some p) head tail e =
    let parts = some_pair_parts _ _ _ _ e in
    (p.0, ap (λ (t : List ℕ). Some (p.0, t)) parts.1, sym parts.0)

pub split_at_soh_sound : (bytes value after : List ℕ) → split_at_soh bytes ≡ Some (value, after) → (bytes ≡ value ++ 1 ∷ after) × (has_soh value ≡ false)
split_at_soh_sound [] value after e = absurd (none-some _ e)
split_at_soh_sound (byte ∷ bytes) value after e =
    elim (cases_Bool (eqb byte 1)) [
      | inl soh ↦
          let parts = some_pair_parts _ _ _ _ (rw soh at e) in
          let is : byte ≡ 1 = eqb-true byte 1 soh in
          (rw (is, ← parts.0, ← parts.1) refl, rw (← parts.0) refl)
      | inr other ↦
          let more = onto_first_some byte (split_at_soh bytes) value after (rw other at e) in
          let rest = split_at_soh_sound bytes more.0 after more.1 in
          (rw more.2 (ap (λ (xs : List ℕ). byte ∷ xs) rest.0), rw more.2 (or_from _ _ other rest.1))
    ]

pub split_at_soh_complete : (value after : List ℕ) → has_soh value ≡ false → split_at_soh (value ++ 1 ∷ after) ≡ Some (value, after)
split_at_soh_complete [] after e = refl
split_at_soh_complete (byte ∷ value) after e =
    let parts : (eqb byte 1 ≡ false) × (has_soh value ≡ false) = or_parts _ _ e in
    rw (parts.0, split_at_soh_complete value after parts.1) refl

pub split_at_equals_sound : (bytes head tail : List ℕ) → split_at_equals bytes ≡ Some (head, tail) → bytes ≡ head ++ 61 ∷ tail
split_at_equals_sound [] head tail e = absurd (none-some _ e)
split_at_equals_sound (byte ∷ bytes) head tail e =
    elim (cases_Bool (eqb byte 61)) [
      | inl equals ↦
          let parts = some_pair_parts _ _ _ _ (rw equals at e) in
          let is : byte ≡ 61 = eqb-true byte 61 equals in
          rw (is, ← parts.0, ← parts.1) refl
      | inr other ↦
          elim (cases_Bool (eqb byte 1)) [
            | inl soh ↦ absurd (none-some _ (rw (other, soh) at e))
            | inr no_soh ↦
                let more = onto_first_some byte (split_at_equals bytes) head tail (rw (other, no_soh) at e) in
                rw more.2 (ap (λ (xs : List ℕ). byte ∷ xs) (split_at_equals_sound bytes more.0 tail more.1))
          ]
    ]

pub split_after_sound : (n : ℕ) (bytes value after : List ℕ) → split_after n bytes ≡ Some (value, after) → (bytes ≡ value ++ 1 ∷ after) × (length value ≡ n)
split_after_sound n bytes value after e =
    let got = cond_some (eqb (get_or bytes n 0) 1) _ _ e in
    let soh : get_or bytes n 0 ≡ 1 = eqb-true _ _ got.0 in
    let inside : n < length bytes =
    elim (cases_lt n (length bytes)) [
      | inl lt ↦ lt
      | inr le ↦ absurd (omega (arith, soh, get_or_past bytes n 0 le))
    ]
    in
    let parts : (take n bytes ≡ value) × (drop (n + 1) bytes ≡ after) = some_pair_parts _ _ _ _ (ap Some got.1) in
    let whole : bytes ≡ take n bytes ++ 1 ∷ drop (n + 1) bytes =
    sym (take-append-drop n bytes)
    ∙ ap (λ (xs : List ℕ). take n bytes ++ xs) (drop_more bytes n 0 inside ∙ ap (λ (byte : ℕ). byte ∷ drop (n + 1) bytes) soh)
    in
    (whole ∙ rw (parts.0, parts.1) refl, ap length (sym parts.0) ∙ length-take-le n bytes (omega arith))

pub split_after_complete : (value after : List ℕ) → split_after (length value) (value ++ 1 ∷ after) ≡ Some (value, after)
split_after_complete value after =
    let back : drop (length value + 1) (value ++ 1 ∷ after) ≡ after =
    ap (drop (length value + 1)) (sym (append_assoc value (1 ∷ []) after))
    ∙ drop_at (value ++ 1 ∷ []) after (length value + 1) (length-append value (1 ∷ []))
    in
    rw (get_or-append_seam value 1 after 0, take_at value (1 ∷ after) (length value) refl, back) refl

digit_passes : (byte : ℕ) → is_ascii_digit byte ≡ true → (eqb byte 61 ≡ false) × (eqb byte 1 ≡ false)
digit_passes byte digit = grind (arith, nat_tests)

pub split_at_equals_complete : (head tail : List ℕ) → all_ascii_digits head ≡ true → split_at_equals (head ++ 61 ∷ tail) ≡ Some (head, tail)
split_at_equals_complete [] tail digits = refl
split_at_equals_complete (byte ∷ head) tail digits =
    let parts : (is_ascii_digit byte ≡ true) × (all_ascii_digits head ≡ true) = and_parts _ _ digits in
    let passes : (eqb byte 61 ≡ false) × (eqb byte 1 ≡ false) = digit_passes byte parts.0 in
    rw (passes.0, passes.1, split_at_equals_complete head tail parts.1) refl

-- what the steps of a reading that succeeds gave
pub bind_ok : {A B E : Type 0} (r : Result A E) (next : A → Result B E) (y : B) → (r >>= next) ≡ Ok y → (x : A) × (r ≡ Ok x) × (next x ≡ Ok y)
bind_ok (Ok x) next y e = (x, refl, e)
bind_ok (Err fault) next y e = absurd (cc e)

ok_or_ok : {A E : Type 0} (o : Option A) (fault : E) (x : A) → ok_or o fault ≡ Ok x → o ≡ Some x
ok_or_ok None fault x e = absurd (cc e)
ok_or_ok (Some y) fault x e = cc e

-- the value of a field, and SOH behind it
pub record IsValueAt (before : Field) (tag : ℕ) (bytes value after : List ℕ) : Type 0 where
  pub text : bytes ≡ value ++ 1 ∷ after
  pub counted : is_data_of before.tag tag ≡ true → number_of before.value ≡ Some (length value)
  pub plain : is_data_of before.tag tag ≡ false → has_soh value ≡ false

and_then_some : (o : Option ℕ) (bytes value after : List ℕ) → option_and_then (λ n. split_after n bytes) o ≡ Some (value, after) → (n : ℕ) × (o ≡ Some n) × (split_after n bytes ≡ Some (value, after))
and_then_some None bytes value after e = absurd (none-some _ e)
and_then_some (Some n) bytes value after e = (n, refl, e)

pub value_at_sound : (before : Field) (tag : ℕ) (bytes value after : List ℕ) → value_at before tag bytes ≡ Ok (value, after) → IsValueAt before tag bytes value after
unfolding value_at
value_at_sound before tag bytes value after e =
    elim (cases_Bool (is_data_of before.tag tag)) [
      | inl counted ↦
          let found = and_then_some _ _ _ _ (ok_or_ok _ _ _ (rw counted at e)) in
          let parts = split_after_sound found.0 bytes value after found.2 in
          record { text = parts.0; counted = λ _. found.1 ∙ ap Some (sym parts.1); plain = λ other. absurd (both_ways _ other counted) }
      | inr plain ↦
          let parts = split_at_soh_sound bytes value after (ok_or_ok _ _ _ (rw plain at e)) in
          record { text = parts.0; counted = λ other. absurd (both_ways _ plain other); plain = λ _. parts.1 }
    ]

pub value_at_complete : (before : Field) (tag : ℕ) (value after : List ℕ) → (is_data_of before.tag tag ≡ true → number_of before.value ≡ Some (length value)) → (is_data_of before.tag tag ≡ false → has_soh value ≡ false) → value_at before tag (value ++ 1 ∷ after) ≡ Ok (value, after)
unfolding value_at
value_at_complete before tag value after has_length no_soh =
    elim (cases_Bool (is_data_of before.tag tag)) [
      | inl counted ↦ rw (counted, has_length counted, split_after_complete value after) refl
      | inr plain ↦ rw (plain, split_at_soh_complete value after (no_soh plain)) refl
    ]

-- the bytes begin with the text of the field, which may stand behind the one before
pub record Begins (before : Field) (bytes : List ℕ) (field : Field) (after : List ℕ) : Type 0 where
  pub text : bytes ≡ field_text field ++ after
  pub may : MayFollow before field

regroup : (head value after : List ℕ) → (head ++ (61 ∷ value) ++ (1 ∷ [])) ++ after ≡ head ++ 61 ∷ (value ++ 1 ∷ after)
regroup head value after = simp append_assoc

-- the steps of `field_at`, from the last to the first
abbrev with_value : ℕ → Parts → Result (Field × List ℕ) Fault
with_value tag found = cond (eqb (length found.0) 0) (Err EmptyValue) (Ok (record { tag = tag; value = found.0 }, found.1))

abbrev with_tag : Field → List ℕ → ℕ → Result (Field × List ℕ) Fault
with_tag before tail tag = value_at before tag tail >>= with_value tag

abbrev with_parts : Field → Parts → Result (Field × List ℕ) Fault
with_parts before parts = ok_or (tag_of parts.0) BadTag >>= with_tag before parts.1

cond_ok : (b : Bool) (fault : Fault) (x y : Field × List ℕ) → cond b (Err fault) (Ok x) ≡ Ok y → (b ≡ false) × (x ≡ y)
cond_ok true fault x y e = absurd (cc e)
cond_ok false fault x y e = (refl, cc e)

same_field : (found field : Field) (rest after : List ℕ) → ◌≡◌ {A = Field × List ℕ} (found, rest) (field, after) → (found ≡ field) × (rest ≡ after)
same_field found field rest after e = (ap (λ (p : Field × List ℕ). p.0) e, ap (λ (p : Field × List ℕ). p.1) e)

-- the parts of a field, put together
assembled : (before : Field) (bytes tag_text tail value rest : List ℕ) (tag : ℕ) (field : Field) (after : List ℕ) → bytes ≡ tag_text ++ 61 ∷ tail → IsTag tag_text tag → IsValueAt before tag tail value rest → eqb (length value) 0 ≡ false → ◌≡◌ {A = Field × List ℕ} (record { tag = tag; value = value }, rest) (field, after) → Begins before bytes field after
assembled before bytes tag_text tail value rest tag field after whole number at filled e =
    let same = same_field _ _ _ _ e in
    let text : bytes ≡ field_text (record { tag = tag; value = value }) ++ rest =
    whole ∙ ap (λ (xs : List ℕ). xs ++ 61 ∷ tail) number.text ∙ ap (λ (xs : List ℕ). decimal tag ++ 61 ∷ xs) at.text
    ∙ sym (regroup (decimal tag) value rest)
    in
    let may : MayFollow before (record { tag = tag; value = value }) =
    record {
      writable = record { tag_from = number.from; tag_to = number.to; filled = λ none. eqb-false _ _ filled (ap length none); plain = at.plain };
      length = at.counted;
    }
    in
    record {
      text = text ∙ ap (λ (f : Field). field_text f ++ rest) same.0 ∙ ap (λ (xs : List ℕ). field_text field ++ xs) same.1;
      may = subst (λ (f : Field). MayFollow before f) same.0 may;
    }

pub field_at_sound : (before : Field) (bytes : List ℕ) (field : Field) (after : List ℕ) → field_at before bytes ≡ Ok (field, after) → Begins before bytes field after
unfolding field_at
field_at_sound before bytes field after e =
    let parts = bind_ok (ok_or (split_at_equals bytes) NoEquals) (with_parts before) (field, after) e in
    let tag = bind_ok (ok_or (tag_of parts.0.0) BadTag) (with_tag before parts.0.1) (field, after) parts.2 in
    let found = bind_ok (value_at before tag.0 parts.0.1) (with_value tag.0) (field, after) tag.2 in
    let last = cond_ok (eqb (length found.0.0) 0) EmptyValue (record { tag = tag.0; value = found.0.0 }, found.0.1) (field, after) found.2 in
    assembled before bytes parts.0.0 parts.0.1 found.0.0 found.0.1 tag.0 field after
    (split_at_equals_sound bytes parts.0.0 parts.0.1 (ok_or_ok _ _ _ parts.1))
    (IsTag-from parts.0.0 tag.0 (ok_or_ok _ _ _ tag.1))
    (value_at_sound before tag.0 parts.0.1 found.0.0 found.0.1 found.1)
    last.0 last.1

pub field_at_complete : (before field : Field) (after : List ℕ) → MayFollow before field → field_at before (field_text field ++ after) ≡ Ok (field, after)
unfolding field_at
field_at_complete before field after may =
    let digits = digits_decimal own field.tag (omega (arith, may.writable.tag_to)) in
    let split = split_at_equals_complete (decimal field.tag) (field.value ++ 1 ∷ after) digits in
    let filled : eqb (length field.value) 0 ≡ false = ne_eqb _ _ (λ none. may.writable.filled (nil_from_length field.value none)) in
    rw (regroup (decimal field.tag) field.value after, split, tag_of-decimal field.tag may.writable.tag_from may.writable.tag_to, value_at_complete before field.tag field.value after may.length may.writable.plain, filled) refl
