-- How the bodies of session messages go on behind their message type (35).
use Rattle.std.specs.Prelude.{◌≡◌, ℕ, Bool, true, false, List, [], ◌∷◌, ◌++◌, length, nat_le, if◌then◌else◌, codes, decimal, Option, Some, None}
use Rattle.session_core.specs.declared.acts.Admin.{Admin}
use Rattle.session_core.specs.declared.acts.Admin.TheVariants.{Reject}
use Rattle.session_core.specs.Admin.{admin_text}
use Rattle.session_core.specs.declared.admin_text.TheConstants.{LONGEST_KIND}
use Rattle.durable_journal.specs.Records.{IsAdminBody}

-- there is one, and this holds of it
abbrev pub HoldsOfSome : {A : Type 0} → Option A → (A → Type 0) → Type 0
HoldsOfSome None P = ⊥
HoldsOfSome (Some x) P = P x

abbrev pub reset_rest : Bool → List ℕ
reset_rest true = codes "141=Y" ++ (1 ∷ [])
reset_rest false = []

abbrev pub logon_rest : ℕ → Bool → List ℕ
logon_rest heart reset = (codes "98=0" ++ (1 ∷ codes "108=")) ++ (decimal heart ++ (1 ∷ reset_rest reset))

-- a field with this text, where there is one
abbrev pub text_rest : List ℕ → Option (List ℕ) → List ℕ
text_rest tag None = []
text_rest tag (Some text) = tag ++ (text ++ (1 ∷ []))

abbrev pub resend_rest : ℕ → ℕ → List ℕ
resend_rest begin last = codes "7=" ++ (decimal begin ++ (1 ∷ (codes "16=" ++ (decimal last ++ (1 ∷ [])))))

abbrev pub reason_rest : ℕ → List ℕ
reason_rest reason = codes "373=" ++ (decimal reason ++ (1 ∷ []))

-- a long type isn't named
abbrev pub kind_rest : List ℕ → ℕ → List ℕ
kind_rest kind reason = if nat_le (length kind) LONGEST_KIND then codes "372=" ++ (kind ++ (1 ∷ reason_rest reason)) else reason_rest reason

abbrev pub reject_rest : ℕ → ℕ → List ℕ → ℕ → List ℕ
reject_rest seq tag kind reason = codes "45=" ++ (decimal seq ++ (1 ∷ (codes "371=" ++ (decimal tag ++ (1 ∷ kind_rest kind reason)))))

-- the body is the text of this session message, if it's that of any
abbrev pub IsTextOf : List ℕ → Option Admin → Type 0
IsTextOf body found = (number : ℕ) → IsAdminBody number body → HoldsOfSome found (λ admin. body ≡ admin_text admin number)

-- the session message has the text of this Reject
abbrev pub NamesReject : ℕ → ℕ → List ℕ → ℕ → Admin → Type 0
NamesReject seq tag kind reason admin = (number : ℕ) → admin_text (Reject seq tag kind reason) number ≡ admin_text admin number

-- a Reject of the one type has the text of a Reject of the other
abbrev pub IsNamedAs : List ℕ → List ℕ → Type 0
IsNamedAs kind other = (reason : ℕ) → kind_rest other reason ≡ kind_rest kind reason
