-- The body of a message as it is written: its type, the rest of the header, and then the rest of its entry, or that of a gap fill.
use Rattle.std.specs.Prelude.{ℕ, false, ◌==◌, if◌then◌else◌, min, List, [], ◌∷◌, ◌++◌, codes, decimal, Option, Some, None, unwrap_or, IsSome}
use Rattle.fix_fields.specs.Field.{field_text}
use Rattle.fix_fields.specs.Stamp.{stamp_of}
use Rattle.gate_io.specs.declared.clocks.TheConstants.{LAST_MOMENT}
use Rattle.message_log.specs.declared.entry.OutEntry.{OutEntry}
use Rattle.message_log.specs.Series.{entry_at}
use Rattle.resend_plan.specs.declared.item.Names2.{Names2}
use Rattle.resend_plan.specs.declared.item.WireItem.{WireItem}
use Rattle.resend_plan.specs.declared.item.WireItem.TheVariants.{New, Again, GapFill}

-- a body up to the end of its first field, which is its type; 1 is the code of SOH
abbrev pub type_field : List ℕ → List ℕ
type_field [] = []
type_field (b ∷ bytes) = if b == 1 then b ∷ [] else b ∷ type_field bytes

-- what lies behind the first field of a body
abbrev pub behind_type : List ℕ → List ℕ
behind_type [] = []
behind_type (b ∷ bytes) = if b == 1 then bytes else behind_type bytes

-- the text of a field with this tag and value
abbrev pub field_of : ℕ → List ℕ → List ℕ
field_of tag value = field_text (record { tag = tag; value = value })

-- a moment as a UTCTimestamp: a later one than the last is taken as that one
unfoldable pub stamp : ℕ → List ℕ
stamp at = stamp_of (min at LAST_MOMENT)

-- the texts that a connection keeps: sender and target as they are written, and a moment
pub record Kept : Type 0 where
  pub parties : List ℕ
  pub stamp : List ℕ

-- SendingTime (52) alone, or between PossDupFlag (43) and OrigSendingTime (122)
unfoldable pub times : ℕ → Option ℕ → List ℕ
times at None = field_of 52 (stamp at)
times at (Some original) = field_of 43 (codes "Y") ++ field_of 52 (stamp at) ++ field_of 122 (stamp original)

-- SenderCompID (49) and TargetCompID (56), and behind them the tag of MsgSeqNum (34); 61 is the code of `=`
unfoldable pub parties : Names2 → List ℕ
parties names = field_of 49 names.us ++ field_of 56 names.them ++ (decimal 34 ++ (61 ∷ []))

-- type, SenderCompID (49), TargetCompID (56) and MsgSeqNum (34)
unfoldable pub header : Names2 → List ℕ → ℕ → List ℕ
header names kind number =
    kind ++ field_of 49 names.us ++ field_of 56 names.them ++ field_of 34 (decimal number)

-- and then the times, and the rest
abbrev pub message : Names2 → List ℕ → ℕ → List ℕ → List ℕ → List ℕ
message names kind number times rest = header names kind number ++ times ++ rest

-- the type field of a SequenceReset, `35=4` and SOH
abbrev pub reset_type : List ℕ
reset_type = codes "35=4" ++ 1 ∷ []

-- an entry that stands for none
abbrev pub no_entry : OutEntry
no_entry = record { at = 0; admin = false; body = [] }

abbrev pub entry_of : List (List OutEntry) → ℕ → ℕ → OutEntry
entry_of log series number = unwrap_or (entry_at log series number) no_entry

-- the item is a gap fill, or names an entry of the log
abbrev pub NamesEntry : List (List OutEntry) → WireItem → Type 0
NamesEntry log (New series number) = IsSome (entry_at log series number)
NamesEntry log (Again series number at) = IsSome (entry_at log series number)
NamesEntry log (GapFill series number to at) = Unit {0}

-- A new message has its entry's moment. One that is sent again has the moment of its sending, and its entry's as the original one.
-- A gap fill is a SequenceReset (35=4) with GapFillFlag (123) and NewSeqNo (36), and has one moment as both.
unfoldable pub body_of : Names2 → List (List OutEntry) → WireItem → List ℕ
body_of names log (New series number) =
    let entry = entry_of log series number in
    message names (type_field entry.body) number (times entry.at None) (behind_type entry.body)
body_of names log (Again series number at) =
    let entry = entry_of log series number in
    message names (type_field entry.body) number (times at (Some entry.at)) (behind_type entry.body)
body_of names log (GapFill series number to at) =
    message names reset_type number (times at (Some at)) (field_of 123 (codes "Y") ++ field_of 36 (decimal to))
