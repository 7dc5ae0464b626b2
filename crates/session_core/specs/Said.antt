-- What the fields of a message say. A field is told by its first occurrence in the body.
use Rattle.std.specs.Prelude.{ℕ, nat_le, nat_eq, Bool, false, ◌&&◌, List, [], Option, None, Some, unwrap_or, if◌then◌else◌}
use Rattle.std.specs.Option.{option_map_or}
use Rattle.std.specs.Cmp.Lexicographic.{pointwise}
use Rattle.fix_fields.specs.Field.{Field}
use Rattle.fix_fields.specs.Number.{number_of}
use Rattle.fix_fields.specs.Reading.{first_value}
use Rattle.seq_gaps.specs.declared.offered.TheConstants.{MAX_NUMBER}
use Rattle.session_core.specs.declared.names.Names.{Names}
use Rattle.session_core.specs.declared.said.TheConstants.{LONGEST_HEARTBEAT}

-- the field has this value
abbrev pub has_value : ℕ → List ℕ → List Field → Bool
has_value tag value fields = option_map_or (λ found. pointwise nat_eq found value) (first_value tag fields) false

-- SenderCompID (49) is the counterparty's name and TargetCompID (56) the gateway's
abbrev pub has_names : Names → List Field → Bool
has_names names fields = has_value 49 names.them fields && has_value 56 names.us fields

-- the number that these bytes are, if it is in the range
abbrev pub number_between : ℕ → ℕ → Option (List ℕ) → Option ℕ
number_between least most None = None
number_between least most (Some bytes) = option_map_or (λ n. if nat_le least n && nat_le n most then Some n else None) (number_of bytes) None

-- HeartBtInt (108) in seconds, at most a day
unfoldable pub heart_of : List Field → Option ℕ
heart_of fields = number_between 0 LONGEST_HEARTBEAT (first_value 108 fields)

-- MsgSeqNum (34)
unfoldable pub seq_num_of : List Field → Option ℕ
seq_num_of fields = number_between 1 MAX_NUMBER (first_value 34 fields)

-- NewSeqNo (36)
unfoldable pub new_seq_no_of : List Field → Option ℕ
new_seq_no_of fields = number_between 1 MAX_NUMBER (first_value 36 fields)

-- MsgType (35)
abbrev pub type_of : List Field → List ℕ
type_of fields = unwrap_or (first_value 35 fields) []
