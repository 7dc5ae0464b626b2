-- What a builder holds.
use Rattle.std.specs.Prelude.{◌≡◌, ℕ, List, ◌++◌}
use Rattle.fix_fields.specs.Field.{Field, no_field, field_text, text_of, last_of}
use Rattle.fix_fields.specs.Body.{IsWritable, AllAfter}

-- the text so far, and the tag of its last field, 0 where there is none
pub record Draft : Type 0 where
  pub text : List ℕ
  pub last : ℕ

-- the draft with one more field
abbrev pub with_field : Draft → Field → Draft
with_field draft field = record { text = draft.text ++ field_text field; last = field.tag }

-- the draft holds these fields
pub record Holds (draft : Draft) (fields : List Field) : Type 0 where
  pub text : draft.text ≡ text_of fields
  pub last : draft.last ≡ (last_of no_field fields).tag
  pub writable : AllAfter IsWritable no_field fields
