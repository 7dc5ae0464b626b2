-- The one session message of which a body may be.
use Rattle.std.proofs.Common.{◌≡◌, ◌≢◌, ℕ, ◌+◌, ◌<◌, ◌≤◌, ◌^◌, Bool, true, false, cond, List, [], ◌∷◌, ◌++◌, length, take, drop, get_or, Option, Some, None, refl, sym, ap, subst, ◌∙◌, arith, append_assoc, length-append}
use Rattle.std.specs.Prelude.{codes, decimal, nat_le, nat_eq, Result, Ok, Err, IfOk}
use Rattle.std.specs.Cmp.Lexicographic.{pointwise}
use Rattle.std.proofs.lemmas.Bool.Decides.{nat_tests}
use Rattle.std.proofs.lemmas.List.{take_more, take_all, take_at, drop_at, drop_more, take-append-drop}
use Rattle.fix_fields.specs.Field.{has_soh}
use Rattle.session_core.specs.declared.acts.Admin.{Admin}
use Rattle.session_core.specs.declared.acts.Admin.TheVariants.{Logon, Heartbeat, TestRequest, ResendRequest, Reject, Logout}
use Rattle.durable_journal.specs.declared.admins.TheConstants.{LONG_KIND}
use Rattle.session_core.specs.declared.admin_text.TheConstants.{LONGEST_KIND}
use Rattle.session_core.specs.Admin.{admin_text, logon_text, heartbeat_text, test_request_text, resend_request_text, reject_text, logout_text}
use Rattle.durable_journal.specs.Records.{IsPlain, IsPlainAdmin, IsShortText}
use Rattle.durable_journal.specs.Admins.{HoldsOfSome, IsTextOf, logon_rest, text_rest, resend_rest, reject_rest, kind_rest, reason_rest, NamesReject, IsNamedAs}
use Rattle.durable_journal.proofs.Once.{Same}

-- ---- up to the next SOH

soh_inside : (a x : List ℕ) → has_soh (a ++ 1 ∷ x) ≡ true
soh_inside [] x = refl
soh_inside (c ∷ a) x = grind (arith, nat_tests, soh_inside a x)

pub soh_once : (a b x y : List ℕ) → has_soh a ≡ false → has_soh b ≡ false → a ++ 1 ∷ x ≡ b ++ 1 ∷ y → Same a b x y
soh_once [] [] x y na nb is = record { first = refl; rest = ap (drop 1) is }
soh_once [] (d ∷ b) x y na nb is = absurd (grind (arith, nat_tests, is, nb))
soh_once (c ∷ a) [] x y na nb is = absurd (grind (arith, nat_tests, is, na))
soh_once (c ∷ a) (d ∷ b) x y na nb is =
    let head : c ≡ d = grind (arith, is) in
    let tail : a ++ 1 ∷ x ≡ b ++ 1 ∷ y = ap (drop 1) is in
    let na' : has_soh a ≡ false = grind (arith, nat_tests, na) in
    let nb' : has_soh b ≡ false = grind (arith, nat_tests, nb) in
    let more = soh_once a b x y na' nb' tail in
    record { first = λ i. head i ∷ more.first i; rest = more.rest }

soh_more : (a : List ℕ) (c : ℕ) → has_soh a ≡ false → c ≢ 1 → has_soh (a ++ c ∷ []) ≡ false
soh_more [] c none other = grind (arith, nat_tests)
soh_more (d ∷ a) c none other =
    let rest : has_soh a ≡ false = grind (arith, nat_tests, none) in
    grind (arith, nat_tests, none, soh_more a c rest other)

pub soh_take_more : (bytes : List ℕ) (i : ℕ) → i < length bytes → has_soh (take i bytes) ≡ false → get_or bytes i 0 ≢ 1 → has_soh (take (i + 1) bytes) ≡ false
soh_take_more bytes i within none other = ap has_soh (take_more bytes i 0 within) ∙ soh_more (take i bytes) (get_or bytes i 0) none other

pub soh_nowhere : (bytes text more : List ℕ) → has_soh (take (length bytes) bytes) ≡ false → bytes ≡ text ++ 1 ∷ more → ⊥
soh_nowhere bytes text more none is =
    let all : has_soh bytes ≡ false = ap has_soh (sym (take_all (length bytes) bytes (omega arith))) ∙ none in
    absurd (grind (arith, all, ap has_soh is, soh_inside text more))

-- ---- behind the message type

abbrev pub kind_of : Admin → ℕ
kind_of (Logon heart reset) = 65
kind_of (Heartbeat test) = 48
kind_of TestRequest = 49
kind_of (ResendRequest begin last) = 50
kind_of (Reject seq tag kind reason) = 51
kind_of (Logout text) = 53

abbrev pub rest_of : Admin → ℕ → List ℕ
rest_of (Logon heart reset) number = logon_rest heart reset
rest_of (Heartbeat test) number = text_rest (codes "112=") test
rest_of TestRequest number = codes "112=" ++ (decimal number ++ (1 ∷ []))
rest_of (ResendRequest begin last) number = resend_rest begin last
rest_of (Reject seq tag kind reason) number = reject_rest seq tag kind reason
rest_of (Logout text) number = text_rest (codes "58=") text

abbrev reject_head : ℕ → ℕ → List ℕ
reject_head seq tag = (codes "35=" ++ (codes "3" ++ (1 ∷ []))) ++ ((codes "45=" ++ (decimal seq ++ (1 ∷ []))) ++ (codes "371=" ++ (decimal tag ++ (1 ∷ []))))

abbrev reject_cells : ℕ → ℕ → List ℕ → List ℕ
reject_cells seq tag more = 51 ∷ 53 ∷ 61 ∷ 51 ∷ 1 ∷ (codes "45=" ++ (decimal seq ++ (1 ∷ (codes "371=" ++ (decimal tag ++ (1 ∷ more))))))

behind_head : (seq tag : ℕ) (more : List ℕ) → reject_head seq tag ++ more ≡ reject_cells seq tag more
behind_head seq tag more =
    ap (λ (l : List ℕ). 51 ∷ 53 ∷ 61 ∷ 51 ∷ 1 ∷ l) (append_assoc (codes "45=" ++ (decimal seq ++ (1 ∷ []))) (codes "371=" ++ (decimal tag ++ (1 ∷ []))) more)
    ∙ ap (λ (l : List ℕ). 51 ∷ 53 ∷ 61 ∷ 51 ∷ 1 ∷ (codes "45=" ++ l)) (append_assoc (decimal seq) (1 ∷ []) ((codes "371=" ++ (decimal tag ++ (1 ∷ []))) ++ more))
    ∙ ap (λ (l : List ℕ). 51 ∷ 53 ∷ 61 ∷ 51 ∷ 1 ∷ (codes "45=" ++ (decimal seq ++ (1 ∷ (codes "371=" ++ l))))) (append_assoc (decimal tag) (1 ∷ []) more)

reject_either : (seq tag : ℕ) (kind : List ℕ) (reason : ℕ) (b : Bool) → cond b (reject_head seq tag ++ (codes "372=" ++ (kind ++ (1 ∷ [])))) (reject_head seq tag) ++ reason_rest reason ≡ reject_cells seq tag (cond b (codes "372=" ++ (kind ++ (1 ∷ reason_rest reason))) (reason_rest reason))
reject_either seq tag kind reason true =
    append_assoc (reject_head seq tag) (codes "372=" ++ (kind ++ (1 ∷ []))) (reason_rest reason)
    ∙ behind_head seq tag ((codes "372=" ++ (kind ++ (1 ∷ []))) ++ reason_rest reason)
    ∙ ap (λ (l : List ℕ). reject_cells seq tag (codes "372=" ++ l)) (append_assoc kind (1 ∷ []) (reason_rest reason))
reject_either seq tag kind reason false = behind_head seq tag (reason_rest reason)

reject_parts : (seq tag : ℕ) (kind : List ℕ) (reason : ℕ) → reject_text seq tag kind reason ≡ 51 ∷ 53 ∷ 61 ∷ 51 ∷ 1 ∷ reject_rest seq tag kind reason
unfolding reject_text
reject_parts seq tag kind reason = reject_either seq tag kind reason (nat_le (length kind) LONGEST_KIND)

pub parts : (admin : Admin) (number : ℕ) → admin_text admin number ≡ 51 ∷ 53 ∷ 61 ∷ kind_of admin ∷ 1 ∷ rest_of admin number
unfolding logon_text heartbeat_text test_request_text resend_request_text logout_text
parts (Logon heart true) number = ap (λ (l : List ℕ). codes "35=A" ++ (1 ∷ (codes "98=0" ++ (1 ∷ (codes "108=" ++ l))))) (append_assoc (decimal heart) (1 ∷ []) (codes "141=Y" ++ (1 ∷ [])))
parts (Logon heart false) number = refl
parts (Heartbeat None) number = refl
parts (Heartbeat (Some test)) number = refl
parts TestRequest number = refl
parts (ResendRequest begin last) number = ap (λ (l : List ℕ). codes "35=2" ++ (1 ∷ (codes "7=" ++ l))) (append_assoc (decimal begin) (1 ∷ []) (codes "16=" ++ (decimal last ++ (1 ∷ []))))
parts (Reject seq tag kind reason) number = reject_parts seq tag kind reason
parts (Logout None) number = refl
parts (Logout (Some text)) number = refl

-- a body with this message type, and what stands behind it
module _ (body rest : List ℕ) (kind : ℕ) (found : Option Admin) (text : body ≡ 51 ∷ 53 ∷ 61 ∷ kind ∷ 1 ∷ rest) where
  same : (admin : Admin) (number : ℕ) → body ≡ admin_text admin number → (kind_of admin ≡ kind) × (rest_of admin number ≡ rest)
  same admin number is =
      let cells : 51 ∷ 53 ∷ 61 ∷ kind_of admin ∷ 1 ∷ rest_of admin number ≡ 51 ∷ 53 ∷ 61 ∷ kind ∷ 1 ∷ rest = sym (parts admin number) ∙ sym is ∙ text in
      (ap (λ (l : List ℕ). get_or l 3 0) cells, ap (drop 5) cells)

  found_text : (admin : Admin) (number : ℕ) → body ≡ admin_text admin number → found ≡ Some admin → HoldsOfSome found (λ a. body ≡ admin_text a number)
  found_text admin number is e = subst (λ (o : Option Admin). HoldsOfSome o (λ a. body ≡ admin_text a number)) (sym e) is

  pub logon_arm : kind ≡ 65 → ((heart : ℕ) (reset : Bool) → heart < 2 ^ 32 → rest ≡ logon_rest heart reset → found ≡ Some (Logon heart reset)) → IsTextOf body found
  logon_arm k only number is = by_cases is.admin is.plain is.text
    where
      by_cases : (a : Admin) → IsPlainAdmin a → body ≡ admin_text a number → HoldsOfSome found (λ x. body ≡ admin_text x number)
      by_cases (Logon heart reset) plain t = found_text (Logon heart reset) number t (only heart reset plain (sym (same (Logon heart reset) number t).1))
      by_cases (Heartbeat test) plain t = absurd (omega (arith, k, (same (Heartbeat test) number t).0))
      by_cases TestRequest plain t = absurd (omega (arith, k, (same TestRequest number t).0))
      by_cases (ResendRequest begin last) plain t = absurd (omega (arith, k, (same (ResendRequest begin last) number t).0))
      by_cases (Reject seq tag kd reason) plain t = absurd (omega (arith, k, (same (Reject seq tag kd reason) number t).0))
      by_cases (Logout said) plain t = absurd (omega (arith, k, (same (Logout said) number t).0))

  pub heartbeat_arm : kind ≡ 48 → (rest ≡ [] → found ≡ Some (Heartbeat None)) → ((test : List ℕ) → IsShortText test → rest ≡ text_rest (codes "112=") (Some test) → found ≡ Some (Heartbeat (Some test))) → IsTextOf body found
  heartbeat_arm k none some number is = by_cases is.admin is.plain is.text
    where
      by_cases : (a : Admin) → IsPlainAdmin a → body ≡ admin_text a number → HoldsOfSome found (λ x. body ≡ admin_text x number)
      by_cases (Logon heart reset) plain t = absurd (omega (arith, k, (same (Logon heart reset) number t).0))
      by_cases (Heartbeat None) plain t = found_text (Heartbeat None) number t (none (sym (same (Heartbeat None) number t).1))
      by_cases (Heartbeat (Some test)) plain t = found_text (Heartbeat (Some test)) number t (some test plain (sym (same (Heartbeat (Some test)) number t).1))
      by_cases TestRequest plain t = absurd (omega (arith, k, (same TestRequest number t).0))
      by_cases (ResendRequest begin last) plain t = absurd (omega (arith, k, (same (ResendRequest begin last) number t).0))
      by_cases (Reject seq tag kd reason) plain t = absurd (omega (arith, k, (same (Reject seq tag kd reason) number t).0))
      by_cases (Logout said) plain t = absurd (omega (arith, k, (same (Logout said) number t).0))

  pub test_request_arm : kind ≡ 49 → found ≡ Some TestRequest → IsTextOf body found
  test_request_arm k only number is = by_cases is.admin is.plain is.text
    where
      by_cases : (a : Admin) → IsPlainAdmin a → body ≡ admin_text a number → HoldsOfSome found (λ x. body ≡ admin_text x number)
      by_cases (Logon heart reset) plain t = absurd (omega (arith, k, (same (Logon heart reset) number t).0))
      by_cases (Heartbeat test) plain t = absurd (omega (arith, k, (same (Heartbeat test) number t).0))
      by_cases TestRequest plain t = found_text TestRequest number t only
      by_cases (ResendRequest begin last) plain t = absurd (omega (arith, k, (same (ResendRequest begin last) number t).0))
      by_cases (Reject seq tag kd reason) plain t = absurd (omega (arith, k, (same (Reject seq tag kd reason) number t).0))
      by_cases (Logout said) plain t = absurd (omega (arith, k, (same (Logout said) number t).0))

  pub resend_arm : kind ≡ 50 → ((begin last : ℕ) → begin < 2 ^ 32 → last < 2 ^ 32 → rest ≡ resend_rest begin last → found ≡ Some (ResendRequest begin last)) → IsTextOf body found
  resend_arm k only number is = by_cases is.admin is.plain is.text
    where
      by_cases : (a : Admin) → IsPlainAdmin a → body ≡ admin_text a number → HoldsOfSome found (λ x. body ≡ admin_text x number)
      by_cases (Logon heart reset) plain t = absurd (omega (arith, k, (same (Logon heart reset) number t).0))
      by_cases (Heartbeat test) plain t = absurd (omega (arith, k, (same (Heartbeat test) number t).0))
      by_cases TestRequest plain t = absurd (omega (arith, k, (same TestRequest number t).0))
      by_cases (ResendRequest begin last) plain t = found_text (ResendRequest begin last) number t (only begin last plain.0 plain.1 (sym (same (ResendRequest begin last) number t).1))
      by_cases (Reject seq tag kd reason) plain t = absurd (omega (arith, k, (same (Reject seq tag kd reason) number t).0))
      by_cases (Logout said) plain t = absurd (omega (arith, k, (same (Logout said) number t).0))

  pub reject_arm : kind ≡ 51 → ((seq tag : ℕ) (kd : List ℕ) (reason : ℕ) → seq < 2 ^ 32 → tag < 2 ^ 32 → IsPlain kd → reason < 2 ^ 8 → rest ≡ reject_rest seq tag kd reason → HoldsOfSome found (NamesReject seq tag kd reason)) → IsTextOf body found
  reject_arm k only number is = by_cases is.admin is.plain is.text
    where
      named : (o : Option Admin) (seq tag : ℕ) (kd : List ℕ) (reason : ℕ) → body ≡ admin_text (Reject seq tag kd reason) number → HoldsOfSome o (NamesReject seq tag kd reason) → HoldsOfSome o (λ x. body ≡ admin_text x number)
      named None seq tag kd reason t names = names
      named (Some a) seq tag kd reason t names = t ∙ names number

      by_cases : (a : Admin) → IsPlainAdmin a → body ≡ admin_text a number → HoldsOfSome found (λ x. body ≡ admin_text x number)
      by_cases (Logon heart reset) plain t = absurd (omega (arith, k, (same (Logon heart reset) number t).0))
      by_cases (Heartbeat test) plain t = absurd (omega (arith, k, (same (Heartbeat test) number t).0))
      by_cases TestRequest plain t = absurd (omega (arith, k, (same TestRequest number t).0))
      by_cases (ResendRequest begin last) plain t = absurd (omega (arith, k, (same (ResendRequest begin last) number t).0))
      by_cases (Reject seq tag kd reason) plain t = named found seq tag kd reason t (only seq tag kd reason plain.0 plain.1 plain.2 plain.3 (sym (same (Reject seq tag kd reason) number t).1))
      by_cases (Logout said) plain t = absurd (omega (arith, k, (same (Logout said) number t).0))

  pub logout_arm : kind ≡ 53 → (rest ≡ [] → found ≡ Some (Logout None)) → ((said : List ℕ) → IsShortText said → rest ≡ text_rest (codes "58=") (Some said) → found ≡ Some (Logout (Some said))) → IsTextOf body found
  logout_arm k none some number is = by_cases is.admin is.plain is.text
    where
      by_cases : (a : Admin) → IsPlainAdmin a → body ≡ admin_text a number → HoldsOfSome found (λ x. body ≡ admin_text x number)
      by_cases (Logon heart reset) plain t = absurd (omega (arith, k, (same (Logon heart reset) number t).0))
      by_cases (Heartbeat test) plain t = absurd (omega (arith, k, (same (Heartbeat test) number t).0))
      by_cases TestRequest plain t = absurd (omega (arith, k, (same TestRequest number t).0))
      by_cases (ResendRequest begin last) plain t = absurd (omega (arith, k, (same (ResendRequest begin last) number t).0))
      by_cases (Reject seq tag kd reason) plain t = absurd (omega (arith, k, (same (Reject seq tag kd reason) number t).0))
      by_cases (Logout None) plain t = found_text (Logout None) number t (none (sym (same (Logout None) number t).1))
      by_cases (Logout (Some said)) plain t = found_text (Logout (Some said)) number t (some said plain (sym (same (Logout (Some said)) number t).1))

  pub other_arm : kind ≢ 65 → kind ≢ 48 → kind ≢ 49 → kind ≢ 50 → kind ≢ 51 → kind ≢ 53 → IsTextOf body found
  other_arm k1 k2 k3 k4 k5 k6 number is = by_cases is.admin is.text
    where
      by_cases : (a : Admin) → body ≡ admin_text a number → HoldsOfSome found (λ x. body ≡ admin_text x number)
      by_cases (Logon heart reset) t = absurd (k1 (sym (same (Logon heart reset) number t).0))
      by_cases (Heartbeat test) t = absurd (k2 (sym (same (Heartbeat test) number t).0))
      by_cases TestRequest t = absurd (k3 (sym (same TestRequest number t).0))
      by_cases (ResendRequest begin last) t = absurd (k4 (sym (same (ResendRequest begin last) number t).0))
      by_cases (Reject seq tag kd reason) t = absurd (k5 (sym (same (Reject seq tag kd reason) number t).0))
      by_cases (Logout said) t = absurd (k6 (sym (same (Logout said) number t).0))

-- a body without a message type at its front is of none
pub none_arm : (body : List ℕ) → ((kind : ℕ) (rest : List ℕ) → body ≡ 51 ∷ 53 ∷ 61 ∷ kind ∷ 1 ∷ rest → ⊥) → (found : Option Admin) → IsTextOf body found
none_arm body none found number is = absurd (none (kind_of is.admin) (rest_of is.admin number) (is.text ∙ parts is.admin number))

pub reject_names : (seq tag : ℕ) (kind : List ℕ) (reason : ℕ) (other : List ℕ) (given : ℕ) → kind_rest other given ≡ kind_rest kind reason → NamesReject seq tag kind reason (Reject seq tag other given)
reject_names seq tag kind reason other given is number =
    parts (Reject seq tag kind reason) number ∙ ap (λ (l : List ℕ). reject_cells seq tag l) (sym is) ∙ sym (parts (Reject seq tag other given) number)

pub reject_names_by : (seq tag : ℕ) (kind : List ℕ) (reason : ℕ) (seq' tag' : ℕ) (other : List ℕ) (given : ℕ) → seq' ≡ seq → tag' ≡ tag → kind_rest other given ≡ kind_rest kind reason → NamesReject seq tag kind reason (Reject seq' tag' other given)
reject_names_by seq tag kind reason seq' tag' other given es et is number =
    reject_names seq tag kind reason other given is number ∙ (λ i. admin_text (Reject (sym es i) (sym et i) other given) number)

-- ---- prefixes

pub prefix_long : (bytes prefix more : List ℕ) → bytes ≡ prefix ++ more → length prefix ≤ length bytes
prefix_long bytes prefix more is = omega (arith, ap (λ (l : List ℕ). length l) is, length-append prefix more)

pub prefix_taken : (bytes prefix more : List ℕ) → bytes ≡ prefix ++ more → take (length prefix) bytes ≡ prefix
prefix_taken bytes prefix more is = ap (take (length prefix)) is ∙ take_at prefix more (length prefix) refl

pub prefix_dropped : (bytes prefix more : List ℕ) → bytes ≡ prefix ++ more → drop (length prefix) bytes ≡ more
prefix_dropped bytes prefix more is = ap (drop (length prefix)) is ∙ drop_at prefix more (length prefix) refl

-- the type is named where its field's tag stands there
kind_either : (rest named kind : List ℕ) (reason : ℕ) (b : Bool) → rest ≡ codes "372=" ++ named → rest ≡ cond b (codes "372=" ++ (kind ++ (1 ∷ reason_rest reason))) (reason_rest reason) → named ≡ kind ++ (1 ∷ reason_rest reason)
kind_either rest named kind reason true is text = ap (drop 4) (sym is ∙ text)
kind_either rest named kind reason false is text =
    let third : get_or (codes "372=" ++ named) 2 0 ≡ get_or (reason_rest reason) 2 0 = ap (λ (l : List ℕ). get_or l 2 0) (sym is ∙ text) in
    absurd (omega (arith, third))

pub kind_named : (rest named kind : List ℕ) (reason : ℕ) → rest ≡ codes "372=" ++ named → rest ≡ kind_rest kind reason → named ≡ kind ++ (1 ∷ reason_rest reason)
kind_named rest named kind reason is text = kind_either rest named kind reason (nat_le (length kind) LONGEST_KIND) is text

unnamed_either : (rest kind : List ℕ) (reason : ℕ) (b : Bool) → ((more : List ℕ) → rest ≡ codes "372=" ++ more → ⊥) → rest ≡ cond b (codes "372=" ++ (kind ++ (1 ∷ reason_rest reason))) (reason_rest reason) → b ≡ false
unnamed_either rest kind reason true none text = absurd (none (kind ++ (1 ∷ reason_rest reason)) text)
unnamed_either rest kind reason false none text = refl

pub kind_unnamed : (rest kind : List ℕ) (reason : ℕ) → ((more : List ℕ) → rest ≡ codes "372=" ++ more → ⊥) → rest ≡ kind_rest kind reason → (rest ≡ reason_rest reason) × IsNamedAs kind LONG_KIND.now
kind_unnamed rest kind reason none text =
    let long : nat_le (length kind) LONGEST_KIND ≡ false = unnamed_either rest kind reason (nat_le (length kind) LONGEST_KIND) none text in (
      text ∙ ap (λ (b : Bool). cond b (codes "372=" ++ (kind ++ (1 ∷ reason_rest reason))) (reason_rest reason)) long,
      λ r. ap (λ (b : Bool). cond b (codes "372=" ++ (kind ++ (1 ∷ reason_rest r))) (reason_rest r)) (sym long),
    )

-- ---- the value before an SOH

pub value_only : (bytes : List ℕ) (i : ℕ) (text more : List ℕ) → i < length bytes → get_or bytes i 0 ≡ 1 → has_soh (take i bytes) ≡ false → has_soh text ≡ false → bytes ≡ text ++ 1 ∷ more → (take i bytes ≡ text) × (drop (i + 1) bytes ≡ more)
value_only bytes i text more within soh before none is =
    let split : take i bytes ++ 1 ∷ drop (i + 1) bytes ≡ bytes =
    ap (λ (n : ℕ). take i bytes ++ n ∷ drop (i + 1) bytes) (sym soh) ∙ ap (λ (l : List ℕ). take i bytes ++ l) (sym (drop_more bytes i 0 within)) ∙ take-append-drop i bytes in
    let same = soh_once (take i bytes) text (drop (i + 1) bytes) more before none (split ∙ is) in
    (same.first, same.rest)

-- ---- bytes that are compared

pub point_is : (a b : List ℕ) → pointwise nat_eq a b ≡ true → a ≡ b
point_is [] [] t = refl
point_is [] (y ∷ ys) t = absurd (grind (arith, t))
point_is (x ∷ xs) [] t = absurd (grind (arith, t))
point_is (x ∷ xs) (y ∷ ys) t =
    let head : x ≡ y = grind (arith, nat_tests, t) in
    let tail : pointwise nat_eq xs ys ≡ true = grind (arith, nat_tests, t) in
    let rest = point_is xs ys tail in
    λ i. head i ∷ rest i

pub point_same : (a : List ℕ) → pointwise nat_eq a a ≡ true
point_same [] = refl
point_same (x ∷ xs) = grind (arith, nat_tests, point_same xs)

pub point_by : (a b : List ℕ) → a ≡ b → pointwise nat_eq a b ≡ true
point_by a b is = subst (λ (l : List ℕ). pointwise nat_eq a l ≡ true) is (point_same a)

pub both_ok : {A E : Type 0} (r : Result A E) (P Q R : A → Type 0) → ((x : A) → P x → Q x → R x) → IfOk r P → IfOk r Q → IfOk r R
both_ok (Ok x) P Q R f p q = f x p q
both_ok (Err e) P Q R f p q = tt
