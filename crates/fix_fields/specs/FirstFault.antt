-- The first fault of a body, as a relation.
use Rattle.std.specs.Prelude.{◌≡◌, ℕ, ◌<◌, List, ◌++◌, length, Err}
use Rattle.fix_fields.specs.Field.{Field, no_field, text_of, last_of}
use Rattle.fix_fields.specs.Body.{MayFollow, AllAfter}
use Rattle.fix_fields.specs.Reading.{field_at, fault_at}
use Rattle.fix_fields.specs.declared.error.FieldError.{FieldError}
use Rattle.fix_fields.specs.declared.reading.Fault.{Fault}

-- the body is lawful fields, and behind them something with this fault and its place
pub record IsFirstFault (body : List ℕ) (fault : FieldError) : Type 0 where
  pub fields : List Field
  pub rest : List ℕ
  pub kind : Fault
  pub text : body ≡ text_of fields ++ rest
  pub lawful : AllAfter MayFollow no_field fields
  pub more : 0 < length rest
  pub here : field_at (last_of no_field fields) rest ≡ Err kind
  pub place : fault ≡ fault_at (length (text_of fields)) kind
