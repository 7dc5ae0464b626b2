-- What makes a record one.
use Rattle.std.specs.Prelude.{◌≡◌, ◌≢◌, ℕ, ◌<◌, ◌≤◌, ◌^◌, false, List, [], length, None, Some, Ok}
use Rattle.gate_io.specs.declared.clocks.TheConstants.{LAST_MOMENT}
use Rattle.fix_frame.specs.declared.layout.TheConstants.{LONGEST_FRAME}
use Rattle.fix_frame.specs.Frame.{IsBody, frame_of}
use Rattle.fix_fields.specs.Field.{Field, has_soh}
use Rattle.fix_fields.specs.Fit.{unfit_at}
use Rattle.fix_fields.specs.Reading.{fields_of}
use Rattle.fix_fields.specs.declared.limits.TheConstants.{LONGEST_APPLICATION_BODY}
use Rattle.session_core.specs.Admin.{admin_text}
use Rattle.session_core.specs.declared.acts.Admin as admins
use Rattle.session_core.specs.declared.acts.Admin.TheVariants.{Logon, Heartbeat, TestRequest, ResendRequest, Reject, Logout}
use Rattle.lease_core.specs.Steps.{IsLibrary}
use Rattle.lease_core.specs.declared.limits.TheConstants.{MOST_LIBRARIES}
use Rattle.lease_core.specs.declared.entry.Entry.{Entry}
use Rattle.lease_core.specs.declared.entry.Entry.TheVariants.{Arrive, Admin, Plan, Granted, Refused, Send, Release, Timeout, Hold}
use Rattle.lease_core.specs.declared.entry.Why.{Why}
use Rattle.lease_core.specs.declared.entry.Why.TheVariants.{UnknownSession, OtherOwner, Reserved, LeasesSpent, MissingMessages}
use Rattle.lease_core.specs.declared.record.Record.{Record}
use Rattle.durable_journal.specs.declared.limits.TheConstants.{LAST_EXPECTED, LONGEST_TEXT}

abbrev pub IsMoment : ℕ → Type 0
IsMoment at = at ≤ LAST_MOMENT

-- the cause of a refusal that a journal may have
abbrev pub IsLawfulWhy : Why → Type 0
IsLawfulWhy (UnknownSession s) = ⊥
IsLawfulWhy (OtherOwner owner lease) = IsLibrary owner
IsLawfulWhy (Reserved heir until) = IsLibrary heir × IsMoment until
IsLawfulWhy (LeasesSpent lease) = Unit {0}
IsLawfulWhy (MissingMessages asked logged) = Unit {0}

-- libraries are from 1 to 16, an heir is one or 0, and what a session waits until is a moment
abbrev pub HasLawfulNumbers : Entry → Type 0
HasLawfulNumbers (Granted library nr lease from start) = IsLibrary library
HasLawfulNumbers (Refused library nr why) = IsLibrary library × IsLawfulWhy why
HasLawfulNumbers (Send lease library ordinal number) = IsLibrary library
HasLawfulNumbers (Release lease library count heir) = IsLibrary library × (heir ≤ MOST_LIBRARIES)
HasLawfulNumbers (Timeout lease library count) = IsLibrary library
HasLawfulNumbers (Hold lease until) = IsMoment until
HasLawfulNumbers _ = Unit {0}

-- the body of an application message that came: a frame's, whose fields can be read
pub record IsInboundBody (body : List ℕ) : Type 0 where
  pub fields : List Field
  pub are_read : fields_of body ≡ Ok fields
  pub is_body : IsBody body
  pub short : length (frame_of body) ≤ LONGEST_FRAME

-- the body of a message that a library sent
pub record IsSentBody (body : List ℕ) : Type 0 where
  pub fit : unfit_at body ≡ None
  pub short : length body ≤ LONGEST_APPLICATION_BODY

-- a text that may be the value of a field
pub record IsPlain (text : List ℕ) : Type 0 where
  pub some : text ≢ []
  pub no_soh : has_soh text ≡ false

-- such a text that a session may send
pub record IsShortText (text : List ℕ) : Type 0 where
  pub plain : IsPlain text
  pub short : length text ≤ LONGEST_TEXT

-- a session message whose numbers are in their types; a Heartbeat's or Logout's text, if it has one, is
-- such a short one, and a Reject's type is plain, of any length
abbrev pub IsPlainAdmin : admins.Admin → Type 0
IsPlainAdmin (Logon heart reset) = heart < 2 ^ 32
IsPlainAdmin (Heartbeat None) = Unit {0}
IsPlainAdmin (Heartbeat (Some test)) = IsShortText test
IsPlainAdmin TestRequest = Unit {0}
IsPlainAdmin (ResendRequest begin last) = (begin < 2 ^ 32) × (last < 2 ^ 32)
IsPlainAdmin (Reject seq tag kind reason) = (seq < 2 ^ 32) × (tag < 2 ^ 32) × IsPlain kind × (reason < 2 ^ 8)
IsPlainAdmin (Logout None) = Unit {0}
IsPlainAdmin (Logout (Some text)) = IsShortText text

-- the body of a session message that was sent under this number
pub record IsAdminBody (number : ℕ) (body : List ℕ) : Type 0 where
  pub admin : admins.Admin
  pub plain : IsPlainAdmin admin
  pub text : body ≡ admin_text admin number

-- neither moment nor body
pub record HasNone (at : ℕ) (body : List ℕ) : Type 0 where
  pub no_moment : at ≡ 0
  pub no_body : body ≡ []

-- the moment and the body that an entry of this kind has in its record; 0 and no bytes where it has none
abbrev pub HasParts : Entry → ℕ → List ℕ → Type 0
HasParts (Arrive pos) at body = (at ≡ 0) × IsInboundBody body
HasParts (Admin number) at body = IsMoment at × IsAdminBody number body
HasParts (Plan begin last own) at body = IsMoment at × (own ≡ at) × (body ≡ [])
HasParts (Send lease library ordinal number) at body = IsMoment at × IsSentBody body
HasParts _ at body = HasNone at body

-- the record is one of the format's table
pub record IsRecord (r : Record) : Type 0 where
  pub expected_from : 1 ≤ r.expected
  pub expected_to : r.expected ≤ LAST_EXPECTED
  pub numbers : HasLawfulNumbers r.entry
  pub parts : HasParts r.entry r.at r.body
