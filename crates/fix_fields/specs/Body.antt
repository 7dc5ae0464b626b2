-- The fields of a body, as a relation.
use Rattle.std.specs.Prelude.{◌≡◌, ◌≢◌, ℕ, ◌≤◌, true, false, List, [], ◌∷◌, ◌++◌, length, Some}
use Rattle.fix_fields.specs.Field.{Field, no_field, text_of, has_soh}
use Rattle.fix_fields.specs.declared.limits.TheConstants.{LAST_TAG}
use Rattle.fix_fields.specs.Number.{number_of}
use Rattle.fix_fields.specs.Pairs.{is_data_of}

-- The field can be written directly behind the field before: its tag has one to nine digits, its
-- value has bytes, and only a data field behind its length field may have SOH in it.
pub record IsWritable (before field : Field) : Type 0 where
  pub tag_from : 1 ≤ field.tag
  pub tag_to : field.tag ≤ LAST_TAG
  pub filled : field.value ≢ []
  pub plain : is_data_of before.tag field.tag ≡ false → has_soh field.value ≡ false

-- if it is the data field of the length field before, it has just the length that this says
abbrev pub HasStatedLength : Field → Field → Type 0
HasStatedLength before field =
    is_data_of before.tag field.tag ≡ true → number_of before.value ≡ Some (length field.value)

-- the field may stand directly behind the field before
pub record MayFollow (before field : Field) : Type 0 where
  pub writable : IsWritable before field
  pub length : HasStatedLength before field

-- each field and the one before it
abbrev pub AllAfter : (Field → Field → Type 0) → Field → List Field → Type 0
AllAfter P before [] = Unit {0}
AllAfter P before (field ∷ fields) = P before field × AllAfter P field fields

-- the body is the texts of these fields, one after the other
pub record IsFields (body : List ℕ) (fields : List Field) : Type 0 where
  pub text : body ≡ text_of fields
  pub lawful : AllAfter MayFollow no_field fields

-- the last of the bytes is SOH
pub record EndsWithSoh (bytes : List ℕ) : Type 0 where
  pub front : List ℕ
  pub text : bytes ≡ front ++ 1 ∷ []
