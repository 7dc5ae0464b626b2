-- The first message of an unbound connection (FIX 4.4, volume 2, "Logon").
use Rattle.std.specs.Prelude.{ℕ, ◌≤◌, ◌==◌, Bool, false, not, ◌||◌, List, codes, Option, None, Some, Result, Ok, Err, is_none, if◌then◌else◌, position}
use Rattle.std.specs.Option.{option_map_or}
use Rattle.fix_fields.specs.Field.{Field}
use Rattle.fix_fields.specs.Reading.{first_value}
use Rattle.seq_gaps.specs.Line.{IsNumber}
use Rattle.session_core.specs.Said.{has_value, has_names, heart_of, seq_num_of}
use Rattle.session_core.specs.declared.causes.Cause.{Cause}
use Rattle.session_core.specs.declared.causes.Cause.TheVariants.{NotLogon, NoSuchSession, BadLogon, NoNumber, CompId}
use Rattle.session_core.specs.declared.names.Names.{Names}
use Rattle.session_core.specs.declared.routing.Terms.{Terms}
use Rattle.session_core.specs.declared.said.TheConstants.{LONGEST_HEARTBEAT}

-- a message that passes this test goes on to the next, and one that doesn't ends the connection by this cause
abbrev pub demand : {A : Type 0} → Bool → Cause → Result A Cause → Result A Cause
demand test cause next = if test then next else Err cause

abbrev pub demand_some : {A : Type 0} → Option ℕ → Cause → (ℕ → Result A Cause) → Result A Cause
demand_some None cause next = Err cause
demand_some (Some n) cause next = next n

-- ResetSeqNumFlag (141) asks that both sides begin again at 1
unfoldable pub asks_reset : List Field → Bool
asks_reset fields = has_value 141 (codes "Y") fields

-- ResetSeqNumFlag (141) is missing, N or Y
unfoldable pub has_lawful_reset : List Field → Bool
has_lawful_reset fields = is_none (first_value 141 fields) || has_value 141 (codes "N") fields || asks_reset fields

-- what a Logon with a session's names asks for, or the first field that refuses it
unfoldable pub terms_of : List Field → Result Terms Cause
terms_of fields =
    demand (has_value 98 (codes "0") fields) (BadLogon 98)
    (demand_some (heart_of fields) (BadLogon 108) (λ heart.
    demand (has_lawful_reset fields) (BadLogon 141)
    (demand_some (seq_num_of fields) NoNumber (λ number.
    demand (not (asks_reset fields) || number == 1) (BadLogon 34)
    (Ok (record { heart = heart; number = number; reset = asks_reset fields }))))))

-- ResetSeqNumFlag (141) is missing or N
unfoldable pub has_no_reset : List Field → Bool
has_no_reset fields = is_none (first_value 141 fields) || has_value 141 (codes "N") fields

-- HeartBtInt (108) is this number
unfoldable pub has_heart : ℕ → List Field → Bool
has_heart heart fields = option_map_or (λ found. found == heart) (heart_of fields) false

-- the MsgSeqNum of the Logon that answers the session's own with this HeartBtInt, or the first cause that refuses it
unfoldable pub answer_of : Names → ℕ → List Field → Result ℕ Cause
answer_of names heart fields =
    demand (has_value 35 (codes "A") fields) NotLogon
    (demand (has_value 49 names.them fields) (CompId 49)
    (demand (has_value 56 names.us fields) (CompId 56)
    (demand (has_value 98 (codes "0") fields) (BadLogon 98)
    (demand (has_heart heart fields) (BadLogon 108)
    (demand (has_no_reset fields) (BadLogon 141)
    (demand_some (seq_num_of fields) NoNumber (λ number. Ok number)))))))

-- an answer whose fields can't be read is no Logon
abbrev pub answer_in : Names → ℕ → Option (List Field) → Result ℕ Cause
answer_in names heart None = Err NotLogon
answer_in names heart (Some fields) = answer_of names heart fields

-- what holds of the terms
pub record AreTerms (terms : Terms) : Type 0 where
  pub heart : terms.heart ≤ LONGEST_HEARTBEAT
  pub number : IsNumber terms.number

-- the first session with the message's names, by its place
abbrev pub session_of : List Field → List Names → Option ℕ
session_of fields names = position (λ pair. has_names pair fields) names

-- the session, unless the Logon is refused
abbrev pub bound_to : ℕ → Result Terms Cause → Result ℕ Cause
bound_to s (Ok terms) = Ok s
bound_to s (Err cause) = Err cause

-- The first message of an unbound connection: the session to which the connection is bound, or the cause by which it
-- ends, the first in this order.
abbrev pub route : List Field → List Names → Result ℕ Cause
route fields names =
    demand (has_value 35 (codes "A") fields) NotLogon
    (demand_some (session_of fields names) NoSuchSession (λ s. bound_to s (terms_of fields)))
