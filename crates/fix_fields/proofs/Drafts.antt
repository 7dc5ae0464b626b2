-- The fields that a builder holds.
use Rattle.std.proofs.Common.{◌≡◌, ℕ, ◌<◌, ◌≤◌, false, List, [], ◌∷◌, ◌++◌, length, Ok, refl, sym, ap, ◌∙◌, append_assoc, append-nil, arith}
use Rattle.fix_fields.specs.Field.{Field, no_field, field_text, text_of, last_of, has_soh}
use Rattle.fix_fields.specs.Body.{IsWritable, HasStatedLength, MayFollow, AllAfter}
use Rattle.fix_fields.specs.Builder.{Draft, with_field, Holds}
use Rattle.fix_fields.specs.declared.limits.TheConstants.{LAST_TAG}
use Rattle.fix_fields.specs.Pairs.{is_data_of}
use Rattle.fix_fields.specs.Reading.{fields_of}
use Rattle.fix_fields.proofs.WholeBody.{fields_of-from}

pub text_of-push : (fields : List Field) (field : Field) → text_of (fields ++ field ∷ []) ≡ text_of fields ++ field_text field
text_of-push [] field = append-nil (field_text field)
text_of-push (first ∷ fields) field =
    ap (λ (xs : List ℕ). field_text first ++ xs) (text_of-push fields field)
    ∙ sym (append_assoc (field_text first) (text_of fields) (field_text field))

pub last_of-push : (before : Field) (fields : List Field) (field : Field) → last_of before (fields ++ field ∷ []) ≡ field
last_of-push before [] field = refl
last_of-push before (first ∷ fields) field = last_of-push first fields field

pub AllAfter-push : (P : Field → Field → Type 0) (before : Field) (fields : List Field) (field : Field) → AllAfter P before fields → P (last_of before fields) field → AllAfter P before (fields ++ field ∷ [])
AllAfter-push P before [] field all more = (more, tt)
AllAfter-push P before (first ∷ fields) field all more = (all.0, AllAfter-push P first fields field all.1 more)

pub holds_more : (draft : Draft) (field : Field) (fields : List Field) → 1 ≤ field.tag → field.tag ≤ LAST_TAG → 0 < length field.value → (is_data_of draft.last field.tag ≡ false → has_soh field.value ≡ false) → Holds draft fields → Holds (with_field draft field) (fields ++ field ∷ [])
holds_more draft field fields from to filled plain holds =
    let last : IsWritable (last_of no_field fields) field = record {
      tag_from = from;
      tag_to = to;
      filled = λ none. omega (arith, ap length none);
      plain = λ other. plain (ap (λ (tag : ℕ). is_data_of tag field.tag) holds.last ∙ other);
    } in
    record {
      text = ap (λ (xs : List ℕ). xs ++ field_text field) holds.text ∙ sym (text_of-push fields field);
      last = sym (ap (λ (f : Field). f.tag) (last_of-push no_field fields field));
      writable = AllAfter-push IsWritable no_field fields field holds.writable last;
    }

all_may_follow : (before : Field) (fields : List Field) → AllAfter IsWritable before fields → AllAfter HasStatedLength before fields → AllAfter MayFollow before fields
all_may_follow before [] writable lengths = tt
all_may_follow before (field ∷ fields) writable lengths =
    (record { writable = writable.0; length = lengths.0 }, all_may_follow field fields writable.1 lengths.1)

-- what is held is read again
pub read_again : (draft : Draft) (fields : List Field) → Holds draft fields → AllAfter HasStatedLength no_field fields → fields_of draft.text ≡ Ok fields
read_again draft fields holds lengths =
    fields_of-from draft.text fields (record { text = holds.text; lawful = all_may_follow no_field fields holds.writable lengths })
