use Rattle.std.proofs.Common.{◌≡◌, List, Result, Ok, Err}
use Rattle.fix_fields.specs.Field.{Field}
use Rattle.fix_fields.specs.Reading.{fields_of}
use Rattle.fix_fields.specs.declared.error.FieldError.{FieldError}
use Rattle.fix_fields.proofs.Faults.{fields_of-fault}
use Rattle.fix_fields.proofs.WholeBody.{fields_of-from}
use Rattle.fix_fields.proofs.laws.has_no_two.Goals as goal

same_fields : (a b : List Field) (read : Result (List Field) FieldError) → read ≡ Ok a → read ≡ Ok b → a ≡ b
same_fields a b read e f = cc (e, f)

same_fault : (a b : FieldError) (read : Result (List Field) FieldError) → read ≡ Err a → read ≡ Err b → a ≡ b
same_fault a b read e f = cc (e, f)

pub returns : goal.returns
returns c = (
  λ body a b p q. same_fields a b (fields_of body) (fields_of-from body a p) (fields_of-from body b q),
  λ body a b p q. same_fault a b (fields_of body) (fields_of-fault body a p) (fields_of-fault body b q),
)
