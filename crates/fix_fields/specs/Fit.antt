-- Whether an application may send a body.
use Rattle.std.specs.Prelude.{ℕ, ◌+◌, Bool, false, not, ◌==◌, ◌&&◌, if◌then◌else◌, List, [], ◌∷◌, length, Option, Some, None, Result, Ok, Err}
use Rattle.std.specs.List.{list_any}
use Rattle.fix_fields.specs.Field.{Field, field_text}
use Rattle.fix_fields.specs.Reading.{fields_of}
use Rattle.fix_fields.specs.declared.error.FieldError as errors
use Rattle.fix_fields.specs.declared.error.FieldError.TheVariants.{NoEquals, BadTag, BadDataLength, NoEnd, EmptyValue, OutOfMemory}

-- the message types of the session: 0 to 5 and A, with the codes 48 to 53 and 65
abbrev pub session_types : List ℕ
session_types = 48 ∷ 49 ∷ 50 ∷ 51 ∷ 52 ∷ 53 ∷ 65 ∷ []

abbrev pub is_session_type : List ℕ → Bool
is_session_type (byte ∷ []) = list_any (λ type. byte == type) session_types
is_session_type _ = false

-- the tags of the fields that the gateway writes itself
abbrev pub gateway_tags : List ℕ
gateway_tags = 8 ∷ 9 ∷ 10 ∷ 34 ∷ 35 ∷ 43 ∷ 49 ∷ 52 ∷ 56 ∷ 122 ∷ []

-- The field that begins at the place is fit: the first, at 0, is a message type that isn't the
-- session's, and no later one is a field of the gateway's.
abbrev pub is_fit_at : ℕ → Field → Bool
is_fit_at place field =
    if place == 0
    then (field.tag == 35) && not (is_session_type field.value)
    else not (list_any (λ tag. field.tag == tag) gateway_tags)

-- where the first of the fields begins that isn't fit; they begin at the place
abbrev pub unfit_from : ℕ → List Field → Option ℕ
unfit_from place [] = None
unfit_from place (field ∷ fields) =
    if is_fit_at place field then unfit_from (place + length (field_text field)) fields else Some place

-- the same of the fields before the place, and of one that begins there
abbrev pub unfit_with : Option ℕ → ℕ → Field → Option ℕ
unfit_with (Some at) place field = Some at
unfit_with None place field = if is_fit_at place field then None else Some place

-- the place of a fault
abbrev pub place_of : errors.FieldError → ℕ
place_of (NoEquals at) = at
place_of (BadTag at) = at
place_of (BadDataLength at) = at
place_of (NoEnd at) = at
place_of (EmptyValue at) = at
place_of OutOfMemory = 0

abbrev pub unfit_in : Result (List Field) errors.FieldError → Option ℕ
unfit_in (Ok fields) = unfit_from 0 fields
unfit_in (Err fault) = Some (place_of fault)

-- the place of the first fault of reading, or else where the first field begins that isn't fit, and
-- nothing for a body that is fit
abbrev pub unfit_at : List ℕ → Option ℕ
unfit_at [] = Some 0
unfit_at (byte ∷ bytes) = unfit_in (fields_of (byte ∷ bytes))
