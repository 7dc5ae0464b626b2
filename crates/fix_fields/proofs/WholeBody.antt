-- A whole body: the text of fields is read as them, and nothing else is.
use Rattle.std.proofs.Common.{◌≡◌, ℕ, zero, suc, ◌+◌, ◌-◌, ◌<◌, ◌≤◌, List, [], ◌∷◌, ◌++◌, length, Result, Ok, Err, refl, sym, ap, ◌∙◌, subst, append_assoc, append-nil, length-append, arith}
use Rattle.fix_fields.specs.Field.{Field, no_field, field_text, text_of}
use Rattle.fix_fields.specs.Body.{MayFollow, AllAfter, IsFields}
use Rattle.fix_fields.specs.Reading.{◌>>=◌, field_at, fault_at, read_on, with_first, fields_from, fields_of, IsFaultOf}
use Rattle.fix_fields.specs.declared.error.FieldError.{FieldError}
use Rattle.fix_fields.specs.declared.reading.Fault.{Fault}
use Rattle.fix_fields.specs.declared.reading.Fault.TheVariants.{NoEquals, BadTag, BadDataLength, NoEnd, EmptyValue}
use Rattle.std.proofs.lemmas.List.{nil_from_length}
use Rattle.fix_fields.proofs.OneField.{Begins, bind_ok, field_at_sound, field_at_complete}

pub length-field_text : (field : Field) → 0 < length (field_text field)
length-field_text field = simp length-append (omega arith)

-- what a field leaves is shorter
pub length-begins : (before : Field) (bytes : List ℕ) (field : Field) (after : List ℕ) → Begins before bytes field after → length bytes ≡ length (field_text field) + length after
length-begins before bytes field after begins = ap length begins.text ∙ length-append (field_text field) after

pub shorter : (before : Field) (bytes : List ℕ) (field : Field) (after : List ℕ) → field_at before bytes ≡ Ok (field, after) → length after < length bytes
shorter before bytes field after e =
    omega (arith, length-begins before bytes field after (field_at_sound before bytes field after e), length-field_text field)

-- two readings go on in the same way, behind each field that leaves fewer bytes
same_from_here : (place : ℕ) (before : Field) (bytes : List ℕ) (f g : Field → List ℕ → Result (List Field) FieldError) → ((field : Field) (after : List ℕ) → length after < length bytes → f field after ≡ g field after) → (r : Result (Field × List ℕ) Fault) → field_at before bytes ≡ r → read_on place f r ≡ read_on place g r
same_from_here place before bytes f g same (Err fault) e = refl
same_from_here place before bytes f g same (Ok found) e =
    ap (with_first found.0) (same found.0 found.1 (shorter before bytes found.0 found.1 e))

-- the bound on the number of fields doesn't matter, once it is large enough
pub fields_from-bound : (f g total : ℕ) (before : Field) (bytes : List ℕ) → length bytes ≤ f → length bytes ≤ g → fields_from f total before bytes ≡ fields_from g total before bytes
unfolding fields_from
fields_from-bound zero zero total before bytes h k = refl
fields_from-bound zero (suc g) total before [] h k = refl
fields_from-bound zero (suc g) total before (b ∷ bs) h k = absurd (omega arith)
fields_from-bound (suc f) zero total before [] h k = refl
fields_from-bound (suc f) zero total before (b ∷ bs) h k = absurd (omega arith)
fields_from-bound (suc f) (suc g) total before [] h k = refl
fields_from-bound (suc f) (suc g) total before (b ∷ bs) h k =
    same_from_here _ before (b ∷ bs) (fields_from f total) (fields_from g total)
    (λ field after less. fields_from-bound f g total field after (omega arith) (omega arith))
    (field_at before (b ∷ bs)) refl

-- the fields of the last bytes of a body
abbrev pub fields_after : ℕ → Field → List ℕ → Result (List Field) FieldError
fields_after total before bytes = fields_from (length bytes) total before bytes

pub fields_after_none : (total : ℕ) (before : Field) → fields_after total before [] ≡ Ok []
unfolding fields_from
fields_after_none total before = refl

pub fields_after_fault : (total : ℕ) (before : Field) (bytes : List ℕ) (fault : Fault) → 0 < length bytes → field_at before bytes ≡ Err fault → fields_after total before bytes ≡ Err (fault_at (total - length bytes) fault)
unfolding fields_from
fields_after_fault total before [] fault some e = absurd (omega arith)
fields_after_fault total before (b ∷ bs) fault some e = rw e refl

pub fields_after_field : (total : ℕ) (before : Field) (bytes : List ℕ) (field : Field) (after : List ℕ) → 0 < length bytes → field_at before bytes ≡ Ok (field, after) → fields_after total before bytes ≡ with_first field (fields_after total field after)
unfolding fields_from
fields_after_field total before [] field after some e = absurd (omega arith)
fields_after_field total before (b ∷ bs) field after some e =
    rw e (ap (with_first field) (fields_from-bound (length bs) (length after) total field after (omega (arith, shorter before (b ∷ bs) field after e)) (omega arith)))

-- the bytes are the texts of the fields, which may stand behind the field before
pub record AreRead (before : Field) (bytes : List ℕ) (fields : List Field) : Type 0 where
  pub text : bytes ≡ text_of fields
  pub lawful : AllAfter MayFollow before fields

no_more : (before : Field) (fields : List Field) → ◌≡◌ {A = Result (List Field) FieldError} (Ok []) (Ok fields) → AreRead before [] fields
no_more before [] e = record { text = refl; lawful = tt }
no_more before (field ∷ fields) e = absurd (cc e)

one_more : (before : Field) (bytes : List ℕ) (field : Field) (after : List ℕ) (rest fields : List Field) → Begins before bytes field after → AreRead field after rest → field ∷ rest ≡ fields → AreRead before bytes fields
one_more before bytes field after rest fields begins read e =
    subst (λ (fs : List Field). AreRead before bytes fs) e (record {
      text = begins.text ∙ ap (λ (xs : List ℕ). field_text field ++ xs) read.text;
      lawful = (begins.may, read.lawful);
    })

sound_from_here : (place : ℕ) (before : Field) (bytes : List ℕ) (fields : List Field) (f : Field → List ℕ → Result (List Field) FieldError) → ((field : Field) (after : List ℕ) (rest : List Field) → length after < length bytes → f field after ≡ Ok rest → AreRead field after rest) → (r : Result (Field × List ℕ) Fault) → field_at before bytes ≡ r → read_on place f r ≡ Ok fields → AreRead before bytes fields
sound_from_here place before bytes fields f sound (Err fault) e read = absurd (cc read)
sound_from_here place before bytes fields f sound (Ok found) e read =
    let more = bind_ok (f found.0 found.1) (λ (rest : List Field). Ok (found.0 ∷ rest)) fields read in
    let same : found.0 ∷ more.0 ≡ fields = cc more.2 in
    one_more before bytes found.0 found.1 more.0 fields (field_at_sound before bytes found.0 found.1 e)
    (sound found.0 found.1 more.0 (shorter before bytes found.0 found.1 e) more.1) same

pub fields_from_sound : (f total : ℕ) (before : Field) (bytes : List ℕ) (fields : List Field) → length bytes ≤ f → fields_from f total before bytes ≡ Ok fields → AreRead before bytes fields
unfolding fields_from
fields_from_sound zero total before [] fields h e = no_more before fields e
fields_from_sound zero total before (b ∷ bs) fields h e = absurd (omega arith)
fields_from_sound (suc f) total before [] fields h e = no_more before fields e
fields_from_sound (suc f) total before (b ∷ bs) fields h e =
    sound_from_here _ before (b ∷ bs) fields (fields_from f total)
    (λ field after rest less read. fields_from_sound f total field after rest (omega arith) read)
    (field_at before (b ∷ bs)) refl e

pub fields_after_complete : (total : ℕ) (before : Field) (fields : List Field) → AllAfter MayFollow before fields → fields_after total before (text_of fields) ≡ Ok fields
fields_after_complete total before [] lawful = fields_after_none total before
fields_after_complete total before (field ∷ fields) lawful =
    fields_after_field total before (text_of (field ∷ fields)) field (text_of fields)
    (omega (arith, length-append (field_text field) (text_of fields), length-field_text field))
    (field_at_complete before field (text_of fields) lawful.0)
    ∙ ap (with_first field) (fields_after_complete total field fields lawful.1)

-- the two ways of saying what a body's fields are
pub fields_of-from : (body : List ℕ) (fields : List Field) → IsFields body fields → fields_of body ≡ Ok fields
unfolding fields_of
fields_of-from body fields is = rw is.text (fields_after_complete (length (text_of fields)) no_field fields is.lawful)

pub IsFields-from : (body : List ℕ) (fields : List Field) → fields_of body ≡ Ok fields → IsFields body fields
unfolding fields_of
IsFields-from body fields e =
    let read = fields_from_sound (length body) (length body) no_field body fields (omega arith) e in
    record { text = read.text; lawful = read.lawful }

-- with the fields that were read before
abbrev pub with_front : List Field → Result (List Field) FieldError → Result (List Field) FieldError
with_front front read = read >>= λ fields. Ok (front ++ fields)

pub with_front_none : (read : Result (List Field) FieldError) → with_front [] read ≡ read
with_front_none (Ok fields) = refl
with_front_none (Err fault) = refl

pub with_front_more : (front : List Field) (field : Field) (read : Result (List Field) FieldError) → with_front front (with_first field read) ≡ with_front (front ++ field ∷ []) read
with_front_more front field (Ok fields) = ap (λ (fs : List Field). Ok fs) (sym (append_assoc front (field ∷ []) fields))
with_front_more front field (Err fault) = refl

-- a reading begins with no field before and all bytes to come
pub fields_of_start : (body : List ℕ) → with_front [] (fields_after (length body) no_field body) ≡ fields_of body
unfolding fields_of
fields_of_start body = with_front_none _

-- the steps of a reading that keeps the fields so far: one more field, a fault, and the end
pub reading_field : (total : ℕ) (front : List Field) (before : Field) (bytes : List ℕ) (field : Field) (after : List ℕ) (read : Result (List Field) FieldError) → 0 < length bytes → Ok (field, after) ≡ field_at before bytes → with_front front (fields_after total before bytes) ≡ read → with_front (front ++ field ∷ []) (fields_after total field after) ≡ read
reading_field total front before bytes field after read some found so_far =
    sym (with_front_more front field (fields_after total field after))
    ∙ ap (with_front front) (sym (fields_after_field total before bytes field after some (sym found)))
    ∙ so_far

pub reading_fault : (total : ℕ) (front : List Field) (before : Field) (bytes : List ℕ) (fault : Fault) (read : Result (List Field) FieldError) → 0 < length bytes → Err fault ≡ field_at before bytes → with_front front (fields_after total before bytes) ≡ read → read ≡ Err (fault_at (total - length bytes) fault)
reading_fault total front before bytes fault read some found so_far =
    sym so_far ∙ ap (with_front front) (fields_after_fault total before bytes fault some (sym found))

pub reading_end : (total : ℕ) (front : List Field) (before : Field) (bytes : List ℕ) (read : Result (List Field) FieldError) → length bytes ≡ 0 → with_front front (fields_after total before bytes) ≡ read → read ≡ Ok front
reading_end total front before bytes read none so_far =
    let empty : bytes ≡ [] = nil_from_length bytes none in
    sym so_far ∙ ap (λ (bs : List ℕ). with_front front (fields_after total before bs)) empty
    ∙ ap (with_front front) (fields_after_none total before) ∙ ap (λ (fs : List Field). Ok fs) (append-nil front)

pub fault_is : (place : ℕ) (fault : Fault) (body : List ℕ) → fields_of body ≡ Err (fault_at place fault) → IsFaultOf (fault_at place fault) body
fault_is place NoEquals body e = e
fault_is place BadTag body e = e
fault_is place BadDataLength body e = e
fault_is place NoEnd body e = e
fault_is place EmptyValue body e = e
