-- What holds of the definitions.
use Rattle.std.specs.Prelude.{◌≡◌, ◌≢◌, ◌↔◌, ◌⊎◌, ℕ, ◌^◌, ◌<◌, ◌≤◌, false, List, [], ◌∷◌, None, Some, Ok, Err, decimal}
use Rattle.fix_frame.specs.Frame.{IsBody}
use Rattle.gate_io.specs.declared.clocks.TheConstants.{LAST_MOMENT}
use Rattle.fix_fields.specs.declared.calendar.TheConstants.{LAST_DAY}
use Rattle.fix_fields.specs.declared.number.TheConstants.{MOST_NUMBER}
use Rattle.fix_fields.specs.Body.{IsFields, EndsWithSoh}
use Rattle.fix_fields.specs.Calendar.{Date, IsDate, day_number}
use Rattle.fix_fields.specs.Field.{Field, text_of, has_soh}
use Rattle.fix_fields.specs.FirstFault.{IsFirstFault}
use Rattle.fix_fields.specs.Fit.{unfit_at}
use Rattle.fix_fields.specs.Number.{number_of}
use Rattle.fix_fields.specs.Reading.{fields_of}
use Rattle.fix_fields.specs.Stamp.{date_of_day, moment_of, stamp_of, IsStamp}
use Rattle.fix_fields.specs.declared.error.FieldError.{FieldError}

-- the reading of a body gives the fields whose texts it is
abbrev pub ReadsAsSpelled : Type 0
ReadsAsSpelled = (body : List ℕ) (fields : List Field) → (fields_of body ≡ Ok fields) ↔ IsFields body fields

-- and the fault behind the lawful fields at its front
abbrev pub FaultsAsFirst : Type 0
FaultsAsFirst = (body : List ℕ) (fault : FieldError) → (fields_of body ≡ Err fault) ↔ IsFirstFault body fault

abbrev pub HasFields : List ℕ → Type 0
HasFields body = (fields : List Field) × IsFields body fields

abbrev pub HasFault : List ℕ → Type 0
HasFault body = (fault : FieldError) × IsFirstFault body fault

-- each body has a list of fields or a first fault, and never both
abbrev pub HasOneOfBoth : Type 0
HasOneOfBoth = (body : List ℕ) → (HasFields body ⊎ HasFault body) × ¬ (HasFields body × HasFault body)

-- no body has two lists of fields, nor two first faults
abbrev pub HasNoTwo : Type 0
HasNoTwo =
    ((body : List ℕ) (a b : List Field) → IsFields body a → IsFields body b → a ≡ b)
    × ((body : List ℕ) (a b : FieldError) → IsFirstFault body a → IsFirstFault body b → a ≡ b)

-- a text is read as a moment just where it is a timestamp of it
abbrev pub StampsAsSpelled : Type 0
StampsAsSpelled = (text : List ℕ) (ms : ℕ) → (moment_of text ≡ Some ms) ↔ IsStamp text ms

-- no timestamp is behind the last moment
abbrev pub MomentsHaveABound : Type 0
MomentsHaveABound = (text : List ℕ) (ms : ℕ) → moment_of text ≡ Some ms → ms ≤ LAST_MOMENT

-- what is written for a moment is read as it
abbrev pub StampsReadAgain : Type 0
StampsReadAgain = (ms : ℕ) → ms ≤ LAST_MOMENT → moment_of (stamp_of ms) ≡ Some ms

-- counting off years and months undoes counting days, both ways
abbrev pub CountsBothWays : Type 0
CountsBothWays =
    ((date : Date) → IsDate date → date_of_day (day_number date) ≡ date)
    × ((day : ℕ) → day ≤ LAST_DAY → IsDate (date_of_day day) × (day_number (date_of_day day) ≡ day))

-- what std writes for a number of 32 bits is read as it
abbrev pub NumbersReadAgain : Type 0
NumbersReadAgain = (n : ℕ) → n ≤ MOST_NUMBER → number_of (decimal n) ≡ Some n

-- the text of a number and of a moment may be the value of any field: it has no SOH
abbrev pub TextsArePlain : Type 0
TextsArePlain =
    ((n : ℕ) → n < 2 ^ 64 → has_soh (decimal n) ≡ false)
    × ((ms : ℕ) → has_soh (stamp_of ms) ≡ false)

-- fields of which the first is a message type are, as text, the body of a frame
abbrev pub TypedTextsAreBodies : Type 0
TypedTextsAreBodies = (type : Field) (fields : List Field) → type.tag ≡ 35 → IsBody (text_of (type ∷ fields))

-- a body with bytes that can be read ends with SOH
abbrev pub ReadableBodiesEnd : Type 0
ReadableBodiesEnd = (body : List ℕ) (fields : List Field) → fields_of body ≡ Ok fields → body ≢ [] → EndsWithSoh body

-- a body that is fit is the body of a frame
abbrev pub FitBodiesAreBodies : Type 0
FitBodiesAreBodies = (body : List ℕ) → unfit_at body ≡ None → IsBody body
