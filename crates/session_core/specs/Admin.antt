-- The bodies of the session messages that are sent (FIX 4.4, volume 2, "Session Protocol", the messages' fields).
use Rattle.std.specs.Prelude.{ℕ, ◌++◌, List, Bool, true, false, ◌||◌, if◌then◌else◌, codes, decimal, length, nat_eq, nat_le, take, Option, None, Some}
use Rattle.std.specs.Cmp.Lexicographic.{pointwise}
use Rattle.fix_fields.specs.Field.{tagged_text}
use Rattle.session_core.specs.declared.acts.Admin.{Admin}
use Rattle.session_core.specs.declared.acts.Admin.TheVariants.{Logon, Heartbeat, TestRequest, ResendRequest, Reject, Logout}
use Rattle.session_core.specs.declared.admin_text.TheConstants.{LONGEST_KIND}

-- Logon: no encryption, HeartBtInt (108), and ResetSeqNumFlag (141) where the numbers begin again
unfoldable pub logon_text : ℕ → Bool → List ℕ
logon_text heart reset =
    let head = tagged_text (codes "35") (codes "A") ++ tagged_text (codes "98") (codes "0") ++ tagged_text (codes "108") (decimal heart) in
    if reset then head ++ tagged_text (codes "141") (codes "Y") else head

-- Heartbeat: the TestReqID (112) where it answers a TestRequest
unfoldable pub heartbeat_text : Option (List ℕ) → List ℕ
heartbeat_text None = tagged_text (codes "35") (codes "0")
heartbeat_text (Some test) = tagged_text (codes "35") (codes "0") ++ tagged_text (codes "112") test

-- TestRequest: its own number is its TestReqID
unfoldable pub test_request_text : ℕ → List ℕ
test_request_text number = tagged_text (codes "35") (codes "1") ++ tagged_text (codes "112") (decimal number)

-- ResendRequest: the first and the last number that are asked for
unfoldable pub resend_request_text : ℕ → ℕ → List ℕ
resend_request_text begin last =
    tagged_text (codes "35") (codes "2") ++ tagged_text (codes "7") (decimal begin) ++ tagged_text (codes "16") (decimal last)

-- Reject: the number of the rejected message, the field, the message's type unless that is long, and the reason
unfoldable pub reject_text : ℕ → ℕ → List ℕ → ℕ → List ℕ
reject_text seq tag kind reason =
    let head = tagged_text (codes "35") (codes "3") ++ tagged_text (codes "45") (decimal seq) ++ tagged_text (codes "371") (decimal tag) in
    (if nat_le (length kind) LONGEST_KIND then head ++ tagged_text (codes "372") kind else head) ++ tagged_text (codes "373") (decimal reason)

-- Logout: its text, if it has one
unfoldable pub logout_text : Option (List ℕ) → List ℕ
logout_text None = tagged_text (codes "35") (codes "5")
logout_text (Some text) = tagged_text (codes "35") (codes "5") ++ tagged_text (codes "58") text

-- the body of a session message that is sent with this number
abbrev pub admin_text : Admin → ℕ → List ℕ
admin_text (Logon heart reset) number = logon_text heart reset
admin_text (Heartbeat test) number = heartbeat_text test
admin_text TestRequest number = test_request_text number
admin_text (ResendRequest begin last) number = resend_request_text begin last
admin_text (Reject seq tag kind reason) number = reject_text seq tag kind reason
admin_text (Logout text) number = logout_text text

-- A body of what the clock alone sends: the bare Heartbeat's, or one that begins as a TestRequest's.
abbrev pub is_tick_text : List ℕ → Bool
is_tick_text body = pointwise nat_eq body (tagged_text (codes "35") (codes "0")) || pointwise nat_eq (take 5 body) (tagged_text (codes "35") (codes "1"))

-- each session message but a Reject
abbrev pub is_session_entry : Admin → Bool
is_session_entry (Logon heart reset) = true
is_session_entry (Heartbeat test) = true
is_session_entry TestRequest = true
is_session_entry (ResendRequest begin last) = true
is_session_entry (Reject seq tag kind reason) = false
is_session_entry (Logout text) = true
