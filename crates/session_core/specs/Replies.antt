-- What a session message on a bound session asks for, from its fields and its number (FIX 4.4, volume 2, "Test
-- Request", "Resend Request", "Sequence Reset", "Reject").
use Rattle.std.specs.Prelude.{ℕ, ◌+◌, ◌++◌, nat_le, nat_lt, List, length, codes, decimal, Option, None, Some, Result, Ok, Err, is_none, if◌then◌else◌}
use Rattle.std.specs.Option.{option_and_then}
use Rattle.fix_fields.specs.Field.{Field}
use Rattle.fix_fields.specs.Number.{number_of}
use Rattle.fix_fields.specs.Reading.{first_value}
use Rattle.session_core.specs.Said.{type_of, new_seq_no_of}
use Rattle.session_core.specs.declared.acts.Act.{Act}
use Rattle.session_core.specs.declared.acts.Act.TheVariants.{Send, Resend}
use Rattle.session_core.specs.declared.acts.Admin.{Admin}
use Rattle.session_core.specs.declared.acts.Admin.TheVariants.{Heartbeat, Reject}
use Rattle.session_core.specs.declared.replies.TheConstants.{LONGEST_TEST}
use Rattle.session_core.specs.declared.tasks.Task.{Task}
use Rattle.session_core.specs.declared.tasks.Task.TheVariants.{Do, Fill}

-- the Reject of message n for this field: 1 a required field is missing, 5 a value is out of range, 6 its format is
-- wrong, 9 a CompID isn't the session's
abbrev pub reject_for : ℕ → List Field → ℕ → ℕ → Admin
reject_for n fields tag reason = Reject n tag (type_of fields) reason

-- a TestRequest is answered with its TestReqID (112), which has at most 256 bytes
abbrev pub test_answer_of : ℕ → List Field → Option (List ℕ) → Admin
test_answer_of n fields None = reject_for n fields 112 1
test_answer_of n fields (Some test) = if nat_le (length test) LONGEST_TEST then Heartbeat (Some test) else reject_for n fields 112 5

unfoldable pub test_answer : ℕ → List Field → Admin
test_answer n fields = test_answer_of n fields (first_value 112 fields)

-- the number that the field is, in any range
unfoldable pub number_in : ℕ → List Field → Option ℕ
number_in tag fields = option_and_then number_of (first_value tag fields)

abbrev pub range_answer : ℕ → List Field → Option ℕ → Option ℕ → Act
range_answer n fields None last = Send (reject_for n fields 7 6)
range_answer n fields (Some begin) None = Send (reject_for n fields 16 6)
range_answer n fields (Some begin) (Some last) = Resend begin last

-- a ResendRequest: BeginSeqNo (7) and EndSeqNo (16) are there, and are numbers
unfoldable pub resend_answer : ℕ → List Field → Act
resend_answer n fields =
    if is_none (first_value 7 fields) then Send (reject_for n fields 7 1)
    else (if is_none (first_value 16 fields) then Send (reject_for n fields 16 1)
    else range_answer n fields (number_in 7 fields) (number_in 16 fields))

-- NewSeqNo (36) of message n, from this number on, or the Reject
abbrev pub from_least : ℕ → ℕ → List Field → Option ℕ → Result ℕ Admin
from_least least n fields None = Err (reject_for n fields 36 6)
from_least least n fields (Some to) = if nat_lt to least then Err (reject_for n fields 36 5) else Ok to

unfoldable pub new_number : ℕ → ℕ → List Field → Result ℕ Admin
new_number least n fields =
    if is_none (first_value 36 fields) then Err (reject_for n fields 36 1) else from_least least n fields (new_seq_no_of fields)

-- a gap fill goes on to its NewSeqNo, which is above its own number
abbrev pub fill_or_reject : Result ℕ Admin → Task
fill_or_reject (Ok to) = Fill to
fill_or_reject (Err reject) = Do (Send reject)

unfoldable pub gap_fill : ℕ → List Field → Task
gap_fill n fields = fill_or_reject (new_number (n + 1) n fields)

-- the text of the Logout that answers a low number
unfoldable pub low_text : ℕ → ℕ → List ℕ
low_text expected got =
    codes "MsgSeqNum too low, expecting " ++ decimal expected ++ codes " but received " ++ decimal got

-- the text of the Logout that answers a message without a number
unfoldable pub no_number_text : List ℕ
no_number_text = codes "MsgSeqNum missing"
