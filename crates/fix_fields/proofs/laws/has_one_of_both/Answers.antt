use Rattle.std.proofs.Common.{◌≡◌, ℕ, ◌⊎◌, inl, inr, List, Result, Ok, Err, refl}
use Rattle.fix_fields.specs.Field.{Field}
use Rattle.fix_fields.specs.Laws.{HasFields, HasFault}
use Rattle.fix_fields.specs.Reading.{fields_of}
use Rattle.fix_fields.specs.declared.error.FieldError.{FieldError}
use Rattle.fix_fields.proofs.Faults.{fields_of-fault, IsFirstFault-from}
use Rattle.fix_fields.proofs.WholeBody.{fields_of-from, IsFields-from}
use Rattle.fix_fields.proofs.laws.has_one_of_both.Goals as goal

one_of : (body : List ℕ) (read : Result (List Field) FieldError) → fields_of body ≡ read → HasFields body ⊎ HasFault body
one_of body (Ok fields) e = inl (fields, IsFields-from body fields e)
one_of body (Err fault) e = inr (fault, IsFirstFault-from body fault e)

apart : (fields : List Field) (fault : FieldError) (read : Result (List Field) FieldError) → read ≡ Ok fields → read ≡ Err fault → ⊥
apart fields fault read e f = cc (e, f)

pub returns : goal.returns
returns c = λ body. (
  one_of body (fields_of body) refl,
  λ both. apart both.0.0 both.1.0 (fields_of body) (fields_of-from body both.0.0 both.0.1) (fields_of-fault body both.1.0 both.1.1),
)
