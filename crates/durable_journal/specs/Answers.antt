-- What the session machine answers a message with, as the body of a record.
use Rattle.std.specs.Prelude.{◌≡◌, ℕ, ◌<◌, ◌^◌, List, Some, Ok}
use Rattle.fix_fields.specs.Field.{Field}
use Rattle.fix_fields.specs.Reading.{fields_of, first_value}
use Rattle.session_core.specs.Replies.{reject_for, test_answer, low_text, no_number_text}
use Rattle.session_core.specs.declared.acts.Admin.TheVariants.{Logout}
use Rattle.durable_journal.specs.Records.{IsPlainAdmin}

-- a message whose fields can be read, with a type among them and a number of 32 bits
pub record IsMessage (body : List ℕ) (fields : List Field) (n : ℕ) : Type 0 where
  pub kind : List ℕ
  pub are_read : fields_of body ≡ Ok fields
  pub typed : first_value 35 fields ≡ Some kind
  pub small : n < 2 ^ 32

-- a Reject of such a message, the answer to it as a TestRequest, and the two Logouts with a text
pub record AnswersArePlain : Type 0 where
  pub reject : (body : List ℕ) (fields : List Field) (n tag reason : ℕ) → IsMessage body fields n → tag < 2 ^ 32 → reason < 2 ^ 8 → IsPlainAdmin (reject_for n fields tag reason)
  pub test : (body : List ℕ) (fields : List Field) (n : ℕ) → IsMessage body fields n → IsPlainAdmin (test_answer n fields)
  pub low : (expected got : ℕ) → expected < 2 ^ 64 → got < 2 ^ 64 → IsPlainAdmin (Logout (Some (low_text expected got)))
  pub no_number : IsPlainAdmin (Logout (Some no_number_text))
