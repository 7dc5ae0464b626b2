-- The fields of a body, read from left to right, or the first fault.
use Rattle.std.specs.Prelude.{◌≡◌, ℕ, zero, suc, ◌+◌, ◌-◌, ◌==◌, if◌then◌else◌, List, [], ◌∷◌, length, slice_index, take, drop, Option, Some, None, is_some, Result, Ok, Err, find}
use Rattle.std.specs.Option.{option_map, option_and_then, ok_or}
use Rattle.std.specs.Borrow.{Bor}
use Rattle.fix_fields.specs.Field.{Field, no_field}
use Rattle.fix_fields.specs.Number.{number_of, tag_of}
use Rattle.fix_fields.specs.Pairs.{is_data_of}
use Rattle.fix_fields.specs.declared.error.FieldError as errors
use Rattle.fix_fields.specs.declared.error.FieldError.TheVariants as error
use Rattle.fix_fields.specs.declared.reading.Fault as faults
use Rattle.fix_fields.specs.declared.reading.Fault.TheVariants.{NoEquals, BadTag, BadDataLength, NoEnd, EmptyValue}

-- two parts of a body that are lent
abbrev pub lent : Option (Bor (List ℕ) × Bor (List ℕ)) → Option (List ℕ × List ℕ)
lent parts = option_map (λ p. (p.0.now, p.1.now)) parts

-- the same of a tag, of a value and of a field, each with what follows it
abbrev pub lent_tag : Option (ℕ × Bor (List ℕ)) → Option (ℕ × List ℕ)
lent_tag front = option_map (λ p. (p.0, p.1.now)) front

abbrev pub lent_value : Result (Bor (List ℕ) × Bor (List ℕ)) faults.Fault → Result (List ℕ × List ℕ) faults.Fault
lent_value (Ok p) = Ok (p.0.now, p.1.now)
lent_value (Err fault) = Err fault

abbrev pub lent_field : Result (Field × Bor (List ℕ)) faults.Fault → Result (Field × List ℕ) faults.Fault
lent_field (Ok p) = Ok (p.0, p.1.now)
lent_field (Err fault) = Err fault

-- with one more byte at the front of the first part
abbrev pub onto_first : ℕ → List ℕ × List ℕ → List ℕ × List ℕ
onto_first byte parts = (byte ∷ parts.0, parts.1)

-- the bytes before the first `=`, and those behind it; none where SOH or the end stands before
abbrev pub split_at_equals : List ℕ → Option (List ℕ × List ℕ)
split_at_equals [] = None
split_at_equals (byte ∷ bytes) =
    if byte == 61 then Some ([], bytes)
    else (if byte == 1 then None else option_map (onto_first byte) (split_at_equals bytes))

-- the tag at the front, and the bytes behind its `=`
unfoldable pub tag_at : List ℕ → Option (ℕ × List ℕ)
tag_at bytes =
    option_and_then (λ parts. option_map (λ tag. (tag, parts.1)) (tag_of parts.0)) (split_at_equals bytes)

-- the bytes before the first SOH, and those behind it
abbrev pub split_at_soh : List ℕ → Option (List ℕ × List ℕ)
split_at_soh [] = None
split_at_soh (byte ∷ bytes) =
    if byte == 1 then Some ([], bytes) else option_map (onto_first byte) (split_at_soh bytes)

-- so many bytes, and those behind the SOH that follows them
abbrev pub split_after : ℕ → List ℕ → Option (List ℕ × List ℕ)
split_after n bytes =
    if slice_index bytes n == 1 then Some (take n bytes, drop (n + 1) bytes) else None

infixl 10 ◌>>=◌
abbrev pub ◌>>=◌ : {A B E : Type 0} → Result A E → (A → Result B E) → Result B E
(Ok x) >>= next = next x
(Err e) >>= next = Err e

-- the value at the front of the bytes behind `=`, for a field of this tag behind the field before,
-- and the bytes after its SOH
unfoldable pub value_at : Field → ℕ → List ℕ → Result (List ℕ × List ℕ) faults.Fault
value_at before tag bytes =
    if is_data_of before.tag tag
    then ok_or (option_and_then (λ n. split_after n bytes) (number_of before.value)) BadDataLength
    else ok_or (split_at_soh bytes) NoEnd

-- what is wrong where no tag with `=` behind it is at the front
abbrev pub tag_fault : List ℕ → faults.Fault
tag_fault bytes = if is_some (split_at_equals bytes) then BadTag else NoEquals

-- the field at the front of the bytes, directly behind the field before, and the bytes after it
unfoldable pub field_at : Field → List ℕ → Result (Field × List ℕ) faults.Fault
field_at before bytes = do
  parts ← ok_or (split_at_equals bytes) NoEquals
  tag ← ok_or (tag_of parts.0) BadTag
  found ← value_at before tag parts.1
  if length found.0 == 0 then Err EmptyValue else Ok (record { tag = tag; value = found.0 }, found.1)

-- the fault of a field that begins at the place
abbrev pub fault_at : ℕ → faults.Fault → errors.FieldError
fault_at place NoEquals = error.NoEquals place
fault_at place BadTag = error.BadTag place
fault_at place BadDataLength = error.BadDataLength place
fault_at place NoEnd = error.NoEnd place
fault_at place EmptyValue = error.EmptyValue place

abbrev pub with_first : Field → Result (List Field) errors.FieldError → Result (List Field) errors.FieldError
with_first field read = read >>= λ fields. Ok (field ∷ fields)

-- a fault at the place, or the field that was found and what is read behind it
abbrev pub read_on : ℕ → (Field → List ℕ → Result (List Field) errors.FieldError) → Result (Field × List ℕ) faults.Fault → Result (List Field) errors.FieldError
read_on place read_behind (Err fault) = Err (fault_at place fault)
read_on place read_behind (Ok found) = with_first found.0 (read_behind found.0 found.1)

-- The fields of the last bytes of a body of so many bytes, behind the field before. The number that
-- counts down bounds how many fields there are: no more than bytes.
unfoldable pub fields_from : ℕ → ℕ → Field → List ℕ → Result (List Field) errors.FieldError
fields_from zero total before bytes = Ok []
fields_from (suc most) total before [] = Ok []
fields_from (suc most) total before (byte ∷ bytes) =
    read_on (total - length (byte ∷ bytes)) (fields_from most total) (field_at before (byte ∷ bytes))

-- the fields of a body, or the first fault
unfoldable pub fields_of : List ℕ → Result (List Field) errors.FieldError
fields_of body = fields_from (length body) (length body) no_field body

-- the value of the first field with the tag
abbrev pub first_value : ℕ → List Field → Option (List ℕ)
first_value tag fields = option_map (λ field. field.value) (find (λ field. field.tag == tag) fields)

-- the body has no list of fields, but this fault; want of memory is no fault of the body's
abbrev pub IsFaultOf : errors.FieldError → List ℕ → Type 0
IsFaultOf error.OutOfMemory body = Unit {0}
IsFaultOf (error.NoEquals at) body = fields_of body ≡ Err (error.NoEquals at)
IsFaultOf (error.BadTag at) body = fields_of body ≡ Err (error.BadTag at)
IsFaultOf (error.BadDataLength at) body = fields_of body ≡ Err (error.BadDataLength at)
IsFaultOf (error.NoEnd at) body = fields_of body ≡ Err (error.NoEnd at)
IsFaultOf (error.EmptyValue at) body = fields_of body ≡ Err (error.EmptyValue at)
