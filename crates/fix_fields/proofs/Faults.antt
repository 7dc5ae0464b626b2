-- The first fault of a body: the two ways of saying which it is.
use Rattle.std.proofs.Common.{◌≡◌, ℕ, zero, suc, ◌-◌, ◌<◌, ◌≤◌, List, [], ◌∷◌, ◌++◌, length, Result, Ok, Err, refl, sym, ap, ◌∙◌, append_assoc, length-append, arith}
use Rattle.fix_fields.specs.Field.{Field, no_field, field_text, text_of, last_of}
use Rattle.fix_fields.specs.Body.{MayFollow, AllAfter}
use Rattle.fix_fields.specs.FirstFault.{IsFirstFault}
use Rattle.fix_fields.specs.Reading.{field_at, fault_at, read_on, with_first, fields_from, fields_of}
use Rattle.fix_fields.specs.declared.error.FieldError.{FieldError}
use Rattle.fix_fields.specs.declared.reading.Fault.{Fault}
use Rattle.fix_fields.proofs.OneField.{Begins, field_at_sound, field_at_complete}
use Rattle.fix_fields.proofs.WholeBody.{fields_after, fields_after_fault, fields_after_field, length-field_text, shorter}

-- the last bytes of a body are lawful fields behind the field before, and then something with this fault
pub record FaultAfter (total : ℕ) (before : Field) (bytes : List ℕ) (fault : FieldError) : Type 0 where
  pub fields : List Field
  pub rest : List ℕ
  pub kind : Fault
  pub text : bytes ≡ text_of fields ++ rest
  pub lawful : AllAfter MayFollow before fields
  pub more : 0 < length rest
  pub here : field_at (last_of before fields) rest ≡ Err kind
  pub place : fault ≡ fault_at (total - length rest) kind

one_more : (total : ℕ) (before : Field) (bytes : List ℕ) (field : Field) (after : List ℕ) (fault : FieldError) → Begins before bytes field after → FaultAfter total field after fault → FaultAfter total before bytes fault
one_more total before bytes field after fault begins found =
    record {
      fields = field ∷ found.fields;
      rest = found.rest;
      kind = found.kind;
      text = begins.text ∙ ap (λ (xs : List ℕ). field_text field ++ xs) found.text ∙ sym (append_assoc (field_text field) (text_of found.fields) found.rest);
      lawful = (begins.may, found.lawful);
      more = found.more;
      here = found.here;
      place = found.place;
    }

with_first_err : (field : Field) (read : Result (List Field) FieldError) (fault : FieldError) → with_first field read ≡ Err fault → read ≡ Err fault
with_first_err field (Ok fields) fault e = absurd (cc e)
with_first_err field (Err other) fault e = e

fault_from_here : (total : ℕ) (before : Field) (bytes : List ℕ) (fault : FieldError) (f : Field → List ℕ → Result (List Field) FieldError) → 0 < length bytes → ((field : Field) (after : List ℕ) → length after < length bytes → f field after ≡ Err fault → FaultAfter total field after fault) → (r : Result (Field × List ℕ) Fault) → field_at before bytes ≡ r → read_on (total - length bytes) f r ≡ Err fault → FaultAfter total before bytes fault
fault_from_here total before bytes fault f more sound (Err kind) e read =
    record {
      fields = [];
      rest = bytes;
      kind = kind;
      text = refl;
      lawful = tt;
      more = more;
      here = e;
      place = cc read;
    }
fault_from_here total before bytes fault f more sound (Ok found) e read =
    one_more total before bytes found.0 found.1 fault (field_at_sound before bytes found.0 found.1 e)
    (sound found.0 found.1 (shorter before bytes found.0 found.1 e) (with_first_err found.0 (f found.0 found.1) fault read))

pub fields_from_fault : (f total : ℕ) (before : Field) (bytes : List ℕ) (fault : FieldError) → length bytes ≤ f → fields_from f total before bytes ≡ Err fault → FaultAfter total before bytes fault
unfolding fields_from
fields_from_fault zero total before bytes fault h e = absurd (cc e)
fields_from_fault (suc f) total before [] fault h e = absurd (cc e)
fields_from_fault (suc f) total before (b ∷ bs) fault h e =
    fault_from_here total before (b ∷ bs) fault (fields_from f total) (omega arith)
    (λ field after less read. fields_from_fault f total field after fault (omega arith) read)
    (field_at before (b ∷ bs)) refl e

pub fields_after-fault : (total : ℕ) (before : Field) (fields : List Field) (rest : List ℕ) (kind : Fault) → AllAfter MayFollow before fields → 0 < length rest → field_at (last_of before fields) rest ≡ Err kind → fields_after total before (text_of fields ++ rest) ≡ Err (fault_at (total - length rest) kind)
fields_after-fault total before [] rest kind lawful more here = fields_after_fault total before rest kind more here
fields_after-fault total before (field ∷ fields) rest kind lawful more here =
    let regroup : text_of (field ∷ fields) ++ rest ≡ field_text field ++ (text_of fields ++ rest) = append_assoc (field_text field) (text_of fields) rest in
    let some : 0 < length (field_text field ++ (text_of fields ++ rest)) = omega (arith, length-append (field_text field) (text_of fields ++ rest), length-field_text field) in
    ap (fields_after total before) regroup
    ∙ fields_after_field total before (field_text field ++ (text_of fields ++ rest)) field (text_of fields ++ rest) some (field_at_complete before field (text_of fields ++ rest) lawful.0)
    ∙ ap (with_first field) (fields_after-fault total field fields rest kind lawful.1 more here)

place_back : (fields : List Field) (body rest : List ℕ) → body ≡ text_of fields ++ rest → length body - length rest ≡ length (text_of fields)
place_back fields body rest e = omega (arith, ap length e, length-append (text_of fields) rest)

pub IsFirstFault-from : (body : List ℕ) (fault : FieldError) → fields_of body ≡ Err fault → IsFirstFault body fault
unfolding fields_of
IsFirstFault-from body fault e =
    let found = fields_from_fault (length body) (length body) no_field body fault (omega arith) e in
    record {
      fields = found.fields;
      rest = found.rest;
      kind = found.kind;
      text = found.text;
      lawful = found.lawful;
      more = found.more;
      here = found.here;
      place = found.place ∙ ap (λ (n : ℕ). fault_at n found.kind) (place_back found.fields body found.rest found.text);
    }

pub fields_of-fault : (body : List ℕ) (fault : FieldError) → IsFirstFault body fault → fields_of body ≡ Err fault
unfolding fields_of
fields_of-fault body fault is =
    ap (fields_after (length body) no_field) is.text
    ∙ fields_after-fault (length body) no_field is.fields is.rest is.kind is.lawful is.more is.here
    ∙ ap (λ (n : ℕ). Err (fault_at n is.kind)) (place_back is.fields body is.rest is.text)
    ∙ ap (λ (e : FieldError). Err e) (sym is.place)
