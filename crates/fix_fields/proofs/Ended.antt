-- How the text of fields begins and ends.
use Rattle.std.proofs.Common.{◌≡◌, ℕ, List, [], ◌∷◌, ◌++◌, codes, true, eqb, not, None, Result, Ok, Err, refl, sym, ap, ◌∙◌, subst, append_assoc, inl, inr}
use Rattle.std.specs.Prelude.{decimal, ◌≢◌}
use Rattle.std.specs.Fmt.{digits}
use Rattle.std.proofs.lemmas.Bool.{and_parts, cases_Bool, eqb-true}
use Rattle.std.proofs.lemmas.Option.{none-some}
use Rattle.fix_frame.specs.Frame.{IsBody}
use Rattle.fix_fields.specs.Body.{EndsWithSoh}
use Rattle.fix_fields.specs.Field.{Field, field_text, text_of}
use Rattle.fix_fields.specs.Fit.{is_fit_at, is_session_type, unfit_from, unfit_in, unfit_at}
use Rattle.fix_fields.specs.Reading.{fields_of}
use Rattle.fix_fields.specs.declared.error.FieldError.{FieldError}
use Rattle.fix_fields.proofs.WholeBody.{IsFields-from}

-- bytes behind which a field ends, and more fields, end with SOH
ends_behind : (front : List ℕ) (fields : List Field) → (middle : List ℕ) × (front ++ 1 ∷ text_of fields ≡ middle ++ 1 ∷ [])
ends_behind front [] = (front, refl)
ends_behind front (field ∷ fields) =
    let head = decimal field.tag ++ (61 ∷ field.value) in
    let more = ends_behind head fields in
    let regroup : front ++ 1 ∷ (field_text field ++ text_of fields) ≡ front ++ 1 ∷ (head ++ 1 ∷ text_of fields) =
    ap (λ (xs : List ℕ). front ++ 1 ∷ xs) (append_assoc head (1 ∷ []) (text_of fields)) in
    (front ++ 1 ∷ more.0, regroup ∙ ap (λ (xs : List ℕ). front ++ 1 ∷ xs) more.1 ∙ sym (append_assoc front (1 ∷ more.0) (1 ∷ [])))

text_ends : (field : Field) (fields : List Field) → EndsWithSoh (text_of (field ∷ fields))
text_ends field fields =
    let head = decimal field.tag ++ (61 ∷ field.value) in
    let more = ends_behind head fields in
    record { front = more.0; text = append_assoc head (1 ∷ []) (text_of fields) ∙ more.1 }

-- the tag of a message type
type_tag : decimal 35 ≡ codes "35"
unfolding digits
type_tag = refl

pub typed_texts_are_bodies : (type : Field) (fields : List Field) → type.tag ≡ 35 → IsBody (text_of (type ∷ fields))
typed_texts_are_bodies type fields is =
    let more = ends_behind type.value fields in
    let head = decimal type.tag ++ (61 ∷ type.value) in
    let begins : head ≡ codes "35" ++ (61 ∷ type.value) = ap (λ (xs : List ℕ). xs ++ (61 ∷ type.value)) (ap decimal is ∙ type_tag) in
    record {
      middle = more.0;
      text = append_assoc head (1 ∷ []) (text_of fields) ∙ ap (λ (xs : List ℕ). xs ++ 1 ∷ text_of fields) begins ∙ ap (λ (xs : List ℕ). codes "35=" ++ xs) more.1;
    }

ends_from : (body : List ℕ) (fields : List Field) → body ≡ text_of fields → body ≢ [] → EndsWithSoh body
ends_from body [] is some = absurd (some is)
ends_from body (field ∷ fields) is some = subst EndsWithSoh (sym is) (text_ends field fields)

pub readable_bodies_end : (body : List ℕ) (fields : List Field) → fields_of body ≡ Ok fields → body ≢ [] → EndsWithSoh body
readable_bodies_end body fields read some = ends_from body fields (IsFields-from body fields read).text some

fit_first : (body : List ℕ) (fields : List Field) → body ≡ text_of fields → body ≢ [] → unfit_from 0 fields ≡ None → IsBody body
fit_first body [] is some fit = absurd (some is)
fit_first body (field ∷ fields) is some fit =
    elim (cases_Bool (is_fit_at 0 field)) [
      | inl good ↦
          let parts : (eqb field.tag 35 ≡ true) × (not (is_session_type field.value) ≡ true) = and_parts _ _ good in
          subst IsBody (sym is) (typed_texts_are_bodies field fields (eqb-true field.tag 35 parts.0))
      | inr bad ↦ absurd (none-some _ (sym (rw bad at fit)))
    ]

fit_read : (body : List ℕ) (read : Result (List Field) FieldError) → fields_of body ≡ read → body ≢ [] → unfit_in read ≡ None → IsBody body
fit_read body (Ok fields) is some fit = fit_first body fields (IsFields-from body fields is).text some fit
fit_read body (Err fault) is some fit = absurd (none-some _ (sym fit))

pub fit_bodies_are_bodies : (body : List ℕ) → unfit_at body ≡ None → IsBody body
fit_bodies_are_bodies [] fit = absurd (none-some _ (sym fit))
fit_bodies_are_bodies (b ∷ bs) fit = fit_read (b ∷ bs) (fields_of (b ∷ bs)) refl (λ none. absurd cc) fit
