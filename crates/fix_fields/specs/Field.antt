-- A field of a body, and the text of fields.
use Rattle.std.specs.Prelude.{ℕ, Bool, ◌==◌, List, [], ◌∷◌, ◌++◌, decimal}
use Rattle.std.specs.List.{list_any}

-- a tag, and the bytes of its value
pub record Field : Type 0 where
  pub tag : ℕ
  pub value : List ℕ

-- what stands before a body's first field
abbrev pub no_field : Field
no_field = record { tag = 0; value = [] }

-- `tag=value` and SOH, with the tag as it is written: 61 is the code of `=`, and 1 that of SOH
abbrev pub tagged_text : List ℕ → List ℕ → List ℕ
tagged_text tag value = tag ++ (61 ∷ value) ++ (1 ∷ [])

-- the same with the digits of the field's tag
abbrev pub field_text : Field → List ℕ
field_text field = tagged_text (decimal field.tag) field.value

-- the texts of the fields, one after the other
abbrev pub text_of : List Field → List ℕ
text_of [] = []
text_of (field ∷ fields) = field_text field ++ text_of fields

-- the last of the fields behind the field before
abbrev pub last_of : Field → List Field → Field
last_of before [] = before
last_of before (field ∷ fields) = last_of field fields

-- whether SOH is among the bytes
abbrev pub has_soh : List ℕ → Bool
has_soh bytes = list_any (λ byte. byte == 1) bytes
