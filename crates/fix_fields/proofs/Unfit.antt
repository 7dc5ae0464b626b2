-- A check that keeps where the first field begins that isn't fit.
use Rattle.std.proofs.Common.{◌≡◌, ℕ, ◌+◌, ◌-◌, ◌<◌, ◌≤◌, inl, inr, List, [], ◌∷◌, length, Option, Some, None, Result, Ok, Err, refl, sym, ap, ◌∙◌, arith}
use Rattle.std.proofs.lemmas.Bool.{cases_Bool}
use Rattle.std.proofs.lemmas.List.{nil_from_length}
use Rattle.fix_fields.specs.Field.{Field, no_field, field_text}
use Rattle.fix_fields.specs.Fit.{is_fit_at, unfit_from, unfit_with, unfit_in, unfit_at, place_of}
use Rattle.fix_fields.specs.Reading.{field_at, fault_at, with_first, fields_of}
use Rattle.fix_fields.specs.declared.error.FieldError.{FieldError}
use Rattle.fix_fields.specs.declared.reading.Fault.{Fault}
use Rattle.fix_fields.specs.declared.reading.Fault.TheVariants.{NoEquals, BadTag, BadDataLength, NoEnd, EmptyValue}
use Rattle.fix_fields.proofs.OneField.{field_at_sound}
use Rattle.fix_fields.proofs.WholeBody.{fields_after, fields_after_none, fields_after_field, fields_after_fault, length-begins}

-- what the check answers, where the fields before the place gave unfit and this is read from there
abbrev pub outcome : Option ℕ → ℕ → Result (List Field) FieldError → Option ℕ
outcome unfit place (Err fault) = Some (place_of fault)
outcome None place (Ok fields) = unfit_from place fields
outcome (Some at) place (Ok fields) = Some at

outcome_none : (read : Result (List Field) FieldError) → outcome None 0 read ≡ unfit_in read
outcome_none (Ok fields) = refl
outcome_none (Err fault) = refl

pub check_start : (body : List ℕ) → 0 < length body → outcome None 0 (fields_after (length body) no_field body) ≡ unfit_at body
unfolding fields_of
check_start [] some = absurd (omega arith)
check_start (b ∷ bs) some = outcome_none (fields_of (b ∷ bs))

outcome_more : (unfit : Option ℕ) (place : ℕ) (field : Field) (read : Result (List Field) FieldError) → outcome unfit place (with_first field read) ≡ outcome (unfit_with unfit place field) (place + length (field_text field)) read
outcome_more unfit place field (Err fault) = refl
outcome_more (Some at) place field (Ok fields) = refl
outcome_more None place field (Ok fields) =
    elim (cases_Bool (is_fit_at place field)) [
      | inl fit ↦ rw fit refl
      | inr unfit ↦ rw unfit refl
    ]

pub check_field : (total : ℕ) (unfit : Option ℕ) (before : Field) (bytes : List ℕ) (field : Field) (after : List ℕ) (answer : Option ℕ) → 0 < length bytes → length bytes ≤ total → Ok (field, after) ≡ field_at before bytes → outcome unfit (total - length bytes) (fields_after total before bytes) ≡ answer → outcome (unfit_with unfit (total - length bytes) field) (total - length after) (fields_after total field after) ≡ answer
check_field total unfit before bytes field after answer some within found so_far =
    let place : total - length after ≡ total - length bytes + length (field_text field) =
    omega (arith, length-begins before bytes field after (field_at_sound before bytes field after (sym found)))
    in
    rw place (sym (outcome_more unfit (total - length bytes) field (fields_after total field after)))
    ∙ ap (outcome unfit (total - length bytes)) (sym (fields_after_field total before bytes field after some (sym found)))
    ∙ so_far

place_of-fault_at : (place : ℕ) (fault : Fault) → place_of (fault_at place fault) ≡ place
place_of-fault_at place NoEquals = refl
place_of-fault_at place BadTag = refl
place_of-fault_at place BadDataLength = refl
place_of-fault_at place NoEnd = refl
place_of-fault_at place EmptyValue = refl

pub check_fault : (total : ℕ) (unfit : Option ℕ) (before : Field) (bytes : List ℕ) (fault : Fault) (answer : Option ℕ) → 0 < length bytes → Err fault ≡ field_at before bytes → outcome unfit (total - length bytes) (fields_after total before bytes) ≡ answer → answer ≡ Some (total - length bytes)
check_fault total unfit before bytes fault answer some found so_far =
    sym so_far ∙ ap (outcome unfit (total - length bytes)) (fields_after_fault total before bytes fault some (sym found))
    ∙ ap (λ (n : ℕ). Some n) (place_of-fault_at (total - length bytes) fault)

outcome_end : (unfit : Option ℕ) (place : ℕ) → outcome unfit place (Ok []) ≡ unfit
outcome_end None place = refl
outcome_end (Some at) place = refl

pub check_end : (total : ℕ) (unfit : Option ℕ) (place : ℕ) (before : Field) (bytes : List ℕ) (answer : Option ℕ) → length bytes ≡ 0 → outcome unfit place (fields_after total before bytes) ≡ answer → answer ≡ unfit
check_end total unfit place before bytes answer none so_far =
    let empty : bytes ≡ [] = nil_from_length bytes none in
    sym so_far ∙ ap (λ (bs : List ℕ). outcome unfit place (fields_after total before bs)) empty
    ∙ ap (outcome unfit place) (fields_after_none total before) ∙ outcome_end unfit place
