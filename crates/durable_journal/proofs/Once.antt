-- Records, batches and files are read in one way.
use Rattle.std.proofs.Common.{◌≡◌, ◌≢◌, ℕ, ◌≤◌, List, [], ◌∷◌, ◌++◌, length, drop, refl, sym, ap, subst, ◌∙◌, arith, append_assoc, length-append}
use Rattle.std.specs.Int.{to_be_bytes, w32}
use Rattle.std.specs.List.{AllByRecursion}
use Rattle.std.proofs.lemmas.List.{append-nil}
use Rattle.std.proofs.lemmas.Option.{same_Some}
use Rattle.lease_core.specs.declared.entry.Entry.{Entry}
use Rattle.lease_core.specs.declared.entry.Entry.TheVariants.{Arrive, Admin, Bind, Plan, Leave, Reset, Granted, Refused, Send, Release, Timeout, Hold, Lapse}
use Rattle.lease_core.specs.declared.record.Record.{Record}
use Rattle.durable_journal.specs.Numbers.{numbers_of, HasTypes, HasMoment}
use Rattle.durable_journal.specs.RecordText.{head_text, head_of, record_text, records_text}
use Rattle.durable_journal.specs.Records.{HasParts}
use Rattle.durable_journal.specs.Files.{IsLawful, IsBatch, batch_text, file_text}
use Rattle.durable_journal.proofs.Heads.{same_front, same_rest, once_32, head_once, length-head_text}
use Rattle.durable_journal.proofs.Likes.{like_by}

pub moment_of : (e : Entry) (at : ℕ) (body : List ℕ) → HasParts e at body → HasMoment at e
moment_of (Arrive pos) at body parts = tt
moment_of (Admin number) at body parts = tt
moment_of (Bind c) at body parts = tt
moment_of (Plan begin last own) at body parts = parts.1
moment_of (Leave c) at body parts = tt
moment_of (Granted library nr lease from start) at body parts = tt
moment_of (Refused library nr why) at body parts = tt
moment_of (Send lease library ordinal number) at body parts = tt
moment_of (Release lease library count heir) at body parts = tt
moment_of (Timeout lease library count) at body parts = tt
moment_of (Hold lease until) at body parts = tt
moment_of (Lapse lease) at body parts = tt
moment_of (Reset series) at body parts = tt

-- entries with the same numbers are one
entry_once : (a b : Entry) (at : ℕ) → HasTypes a → HasTypes b → HasMoment at a → HasMoment at b → numbers_of a ≡ numbers_of b → a ≡ b
entry_once a b at ta tb ma mb is = same_Some a b (sym (like_by (numbers_of b) at a ta ma is) ∙ like_by (numbers_of b) at b tb mb refl)

pub record Same {A B : Type 0} (a b : A) (x y : B) : Type 0 where
  pub first : a ≡ b
  pub rest : x ≡ y

pub length-record_text : (r : Record) → 59 ≤ length (record_text r)
length-record_text r = omega (arith, length-append (head_text (head_of r)) r.body, length-head_text (head_of r))

pub record_once : (r q : Record) (x y : List ℕ) → IsLawful r → IsLawful q → record_text r ++ x ≡ record_text q ++ y → Same r q x y
record_once r q x y lr lq is =
    let hr = head_text (head_of r) in
    let hq = head_text (head_of q) in
    let apart : hr ++ (r.body ++ x) ≡ hq ++ (q.body ++ y) = sym (append_assoc hr r.body x) ∙ is ∙ append_assoc hq q.body y in
    let long : length hr ≡ length hq = length-head_text (head_of r) ∙ sym (length-head_text (head_of q)) in
    let head : head_of r ≡ head_of q = head_once (head_of r) (head_of q) lr.head_types lq.head_types (same_front hr hq (r.body ++ x) (q.body ++ y) long apart) in
    let behind : r.body ++ x ≡ q.body ++ y = same_rest hr hq (r.body ++ x) (q.body ++ y) long apart in
    let len : length r.body ≡ length q.body = λ i. (head i).length in
    let body : r.body ≡ q.body = same_front r.body q.body x y len behind in
    let at : r.at ≡ q.at = λ i. (head i).at in
    let entry : r.entry ≡ q.entry = entry_once r.entry q.entry q.at lr.entry_types lq.entry_types (subst (λ (m : ℕ). HasMoment m r.entry) at (moment_of r.entry r.at r.body lr.record_is.parts)) (moment_of q.entry q.at q.body lq.record_is.parts) (λ i. (head i).numbers) in
    record {
      first = λ i. record { s = (head i).s; entry = entry i; at = at i; body = body i; expected = (head i).expected };
      rest = same_rest r.body q.body x y len behind;
    }

-- records behind others
pub record Behind (front all : List Record) (rest : List ℕ) : Type 0 where
  pub more : List Record
  pub is : all ≡ front ++ more
  pub text : rest ≡ records_text more
  pub lawful : AllByRecursion IsLawful more

none_front : (r : Record) (rest : List ℕ) → record_text r ++ rest ≡ [] → ⊥
none_front r rest is = let len = ap (λ (l : List ℕ). length l) is in omega (arith, len, length-append (record_text r) rest, length-record_text r)

pub records_behind : (front all : List Record) (rest : List ℕ) → AllByRecursion IsLawful front → AllByRecursion IsLawful all → records_text front ++ rest ≡ records_text all → Behind front all rest
records_behind [] all rest lf la is = record { more = all; is = refl; text = is; lawful = la }
records_behind (q ∷ front) [] rest lf la is = absurd (none_front q (records_text front ++ rest) (sym (append_assoc (record_text q) (records_text front) rest) ∙ is))
records_behind (q ∷ front) (r ∷ all) rest lf la is =
    let same = record_once q r (records_text front ++ rest) (records_text all) lf.0 la.0 (sym (append_assoc (record_text q) (records_text front) rest) ∙ is) in
    let more = records_behind front all rest lf.1 la.1 same.rest in
    record { more = more.more; is = λ i. sym same.first i ∷ more.is i; text = more.text; lawful = more.lawful }

nothing_behind : (more : List Record) → [] ≡ records_text more → more ≡ []
nothing_behind [] is = refl
nothing_behind (r ∷ more) is = absurd (none_front r (records_text more) (sym is))

pub records_once : (a b : List Record) → AllByRecursion IsLawful a → AllByRecursion IsLawful b → records_text a ≡ records_text b → a ≡ b
records_once a b la lb is =
    let behind = records_behind a b [] la lb (append-nil (records_text a) ∙ is) in
    sym (append-nil a) ∙ ap (λ (l : List Record). a ++ l) (sym (nothing_behind behind.more behind.text)) ∙ sym behind.is

pub batch_once : (a b : List Record) (x y : List ℕ) → IsBatch a → IsBatch b → batch_text a ++ x ≡ batch_text b ++ y → Same a b x y
batch_once a b x y ia ib is =
    let na = to_be_bytes w32 (length (records_text a)) in
    let nb = to_be_bytes w32 (length (records_text b)) in
    let apart : na ++ (records_text a ++ x) ≡ nb ++ (records_text b ++ y) = sym (append_assoc na (records_text a) x) ∙ is ∙ append_assoc nb (records_text b) y in
    let len : length (records_text a) ≡ length (records_text b) = once_32 (length (records_text a)) (length (records_text b)) ia.short ib.short (same_front na nb (records_text a ++ x) (records_text b ++ y) refl apart) in
    let behind : records_text a ++ x ≡ records_text b ++ y = same_rest na nb (records_text a ++ x) (records_text b ++ y) refl apart in
    record {
      first = records_once a b ia.lawful ib.lawful (same_front (records_text a) (records_text b) x y len behind);
      rest = same_rest (records_text a) (records_text b) x y len behind;
    }

-- batches behind others
pub record BatchesBehind (front all : List (List Record)) (gate : ℕ) (rest tail : List ℕ) : Type 0 where
  pub more : List (List Record)
  pub is : all ≡ front ++ more
  pub text : tail ≡ file_text more ++ gate ∷ rest
  pub each : AllByRecursion IsBatch more

cons_head : (m n : ℕ) (x y : List ℕ) → m ∷ x ≡ n ∷ y → m ≡ n
cons_head m n x y is = grind arith

pub cons_tail : (m n : ℕ) (x y : List ℕ) → m ∷ x ≡ n ∷ y → x ≡ y
cons_tail m n x y is = ap (drop 1) is

-- a file that begins as open gates with their batches goes on with further ones up to its closed gate
pub batches_behind : (front all : List (List Record)) (gate : ℕ) (rest tail : List ℕ) → gate ≢ 1 → AllByRecursion IsBatch front → AllByRecursion IsBatch all → file_text front ++ tail ≡ file_text all ++ gate ∷ rest → BatchesBehind front all gate rest tail
batches_behind [] all gate rest tail closed lf la is = record { more = all; is = refl; text = is; each = la }
batches_behind (b ∷ front) [] gate rest tail closed lf la is = absurd (closed (sym (cons_head 1 gate _ rest is)))
batches_behind (b ∷ front) (c ∷ all) gate rest tail closed lf la is =
    let apart : batch_text b ++ (file_text front ++ tail) ≡ batch_text c ++ (file_text all ++ gate ∷ rest) =
    sym (append_assoc (batch_text b) (file_text front) tail) ∙ cons_tail 1 1 ((batch_text b ++ file_text front) ++ tail) ((batch_text c ++ file_text all) ++ gate ∷ rest) is ∙ append_assoc (batch_text c) (file_text all) (gate ∷ rest) in
    let same = batch_once b c (file_text front ++ tail) (file_text all ++ gate ∷ rest) lf.0 la.0 apart in
    let more = batches_behind front all gate rest tail closed lf.1 la.1 same.rest in
    record { more = more.more; is = λ i. sym same.first i ∷ more.is i; text = more.text; each = more.each }
