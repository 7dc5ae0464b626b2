-- No message ends a connection since nothing came.
use Rattle.std.proofs.Common.{◌≡◌, ℕ, Bool, true, false, List, Option, Some, Result, Ok, Err, refl}
use Rattle.fix_fields.specs.Field.{Field}
use Rattle.session_core.specs.Receive.{receive}
use Rattle.session_core.specs.State.{State}
use Rattle.session_core.specs.declared.causes.Cause.{Cause}
use Rattle.session_core.specs.declared.causes.Cause.TheVariants.{BadLogon, CompId, Duplicate, End, LoggedOut, LowNumber, NoNumber, NoSuchSession, NotLogon, ReadFault, Silent, SlowConsumer, WriteFault}
use Rattle.session_desk.specs.Steps.{greeting}
use Rattle.session_desk.specs.declared.routes.Routes.{Routes}
use Rattle.switchboard.specs.Board.{Board}
use Rattle.headline.proofs.Causes as outside
use Rattle.headline.specs.Ends.{is_from_outside}

-- nothing came
abbrev pub is_silent : Cause → Bool
is_silent (Silent since) = true
is_silent End = false
is_silent ReadFault = false
is_silent WriteFault = false
is_silent (SlowConsumer waiting) = false
is_silent NotLogon = false
is_silent NoSuchSession = false
is_silent (Duplicate connection) = false
is_silent (BadLogon tag) = false
is_silent NoNumber = false
is_silent (LowNumber expected got) = false
is_silent (CompId tag) = false
is_silent LoggedOut = false

abbrev pub IsInnerErr : {A : Type 0} → Result A Cause → Type 0
IsInnerErr (Ok a) = Unit {0}
IsInnerErr (Err cause) = is_silent cause ≡ false

-- a silence comes from outside
not_silent : (cause : Cause) → is_from_outside cause ≡ false → is_silent cause ≡ false
not_silent (Silent since) inner = inner
not_silent End inner = refl
not_silent ReadFault inner = refl
not_silent WriteFault inner = refl
not_silent (SlowConsumer waiting) inner = refl
not_silent NotLogon inner = refl
not_silent NoSuchSession inner = refl
not_silent (Duplicate connection) inner = refl
not_silent (BadLogon tag) inner = refl
not_silent NoNumber inner = refl
not_silent (LowNumber expected got) inner = refl
not_silent (CompId tag) inner = refl
not_silent LoggedOut inner = refl

inner_err : {A : Type 0} (result : Result A Cause) → outside.IsInnerErr result → IsInnerErr result
inner_err (Ok a) inner = tt
inner_err (Err cause) inner = not_silent cause inner

pub message_inner : (state : State) (body : List ℕ) (at : ℕ) (cause : Cause) → (receive state body at).end ≡ Some cause → is_silent cause ≡ false
message_inner state body at cause ends = not_silent cause (outside.message_inner state body at cause ends)

-- nor does a first message that is refused
pub greeting_inner : (board : Board) (routes : Routes) (fields : Option (List Field)) → IsInnerErr (greeting board routes fields)
greeting_inner board routes fields = inner_err (greeting board routes fields) (outside.greeting_inner board routes fields)
