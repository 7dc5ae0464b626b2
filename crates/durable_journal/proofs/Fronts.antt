-- What is read at the front of bytes is the one record that stands there.
use Rattle.std.proofs.Common.{◌≡◌, ℕ, ◌<◌, List, [], ◌∷◌, ◌++◌, length, refl, sym, ap, subst, ◌∙◌, arith, append_assoc, length-append}
use Rattle.std.specs.List.{AllByRecursion}
use Rattle.std.proofs.lemmas.Grind.{flat_map-append}
use Rattle.std.proofs.lemmas.List.{append-nil}
use Rattle.lease_core.specs.declared.entry.Entry.{Entry}
use Rattle.lease_core.specs.declared.record.Record.{Record}
use Rattle.durable_journal.specs.declared.head.Head.{Head}
use Rattle.durable_journal.specs.Numbers.{numbers_of, HasTypes, HasMoment}
use Rattle.durable_journal.specs.RecordText.{head_text, head_of, record_text, records_text, HeadHasTypes}
use Rattle.durable_journal.specs.Records.{IsRecord}
use Rattle.durable_journal.specs.Files.{IsLawful, AreRuns}
use Rattle.durable_journal.specs.Recovered.{ReadSoFar, IsFront, HasNoFront, GoesOn, GoesNowhere}
use Rattle.durable_journal.proofs.Heads.{same_front, same_rest, head_once, length-head_text}
use Rattle.durable_journal.proofs.Once.{Same, moment_of, length-record_text, record_once, records_behind}
use Rattle.durable_journal.proofs.Runs.{runs_front}

-- the record that is made of a head, an entry and a body
abbrev pub made : Head → Entry → List ℕ → Record
made h entry body = record { s = h.s; entry = entry; at = h.at; body = body; expected = h.expected }

made_head : (h : Head) (entry : Entry) (body : List ℕ) → length body ≡ h.length → numbers_of entry ≡ h.numbers → head_of (made h entry body) ≡ h
made_head h entry body len numbers = λ i. record { s = h.s; numbers = numbers i; at = h.at; expected = h.expected; length = len i }

pub front_found : (h : Head) (entry : Entry) (bytes rest0 body rest : List ℕ) → HeadHasTypes h → bytes ≡ head_text h ++ rest0 → rest0 ≡ body ++ rest → length body ≡ h.length → numbers_of entry ≡ h.numbers → HasTypes entry → IsRecord (made h entry body) → IsFront bytes (made h entry body) rest
front_found h entry bytes rest0 body rest types text split len numbers entry_types is = record {
  text = text ∙ ap (λ (l : List ℕ). head_text h ++ l) split ∙ sym (append_assoc (head_text h) body rest) ∙ ap (λ (k : Head). (head_text k ++ body) ++ rest) (sym (made_head h entry body len numbers));
  lawful = record { record_is = is; entry_types = entry_types; head_types = subst HeadHasTypes (sym (made_head h entry body len numbers)) types };
}

pub apart : (h : Head) (bytes rest0 : List ℕ) (r : Record) (rest : List ℕ) → HeadHasTypes h → bytes ≡ head_text h ++ rest0 → IsFront bytes r rest → Same (head_of r) h (r.body ++ rest) rest0
apart h bytes rest0 r rest types text front =
    let hr = head_text (head_of r) in
    let is : hr ++ (r.body ++ rest) ≡ head_text h ++ rest0 = sym (append_assoc hr r.body rest) ∙ sym front.text ∙ text in
    let long : length hr ≡ length (head_text h) = length-head_text (head_of r) ∙ sym (length-head_text h) in
    record {
      first = head_once (head_of r) h front.lawful.head_types types (same_front hr (head_text h) (r.body ++ rest) rest0 long is);
      rest = same_rest hr (head_text h) (r.body ++ rest) rest0 long is;
    }

pub none_short : (bytes : List ℕ) → length bytes < 59 → HasNoFront bytes
none_short bytes short r rest front = omega (arith, short, ap (λ (l : List ℕ). length l) front.text, length-append (record_text r) rest, length-record_text r)

pub none_cut : (h : Head) (bytes rest0 : List ℕ) → HeadHasTypes h → bytes ≡ head_text h ++ rest0 → length rest0 < h.length → HasNoFront bytes
none_cut h bytes rest0 types text cut r rest front =
    let same = apart h bytes rest0 r rest types text front in
    let long : length r.body ≡ h.length = λ i. (same.first i).length in
    let all : length (r.body ++ rest) ≡ length rest0 = ap (λ (l : List ℕ). length l) same.rest in
    omega (arith, cut, long, all, length-append r.body rest)

moment_at : (h : Head) (r : Record) → IsLawful r → head_of r ≡ h → HasMoment h.at r.entry
moment_at h r lawful same = subst (λ (k : Head). HasMoment k.at r.entry) same (moment_of r.entry r.at r.body lawful.record_is.parts)

pub none_like : (h : Head) (bytes rest0 : List ℕ) → HeadHasTypes h → bytes ≡ head_text h ++ rest0 → ((e : Entry) → HasTypes e → HasMoment h.at e → numbers_of e ≡ h.numbers → ⊥) → HasNoFront bytes
none_like h bytes rest0 types text none r rest front =
    let same = apart h bytes rest0 r rest types text front in
    none r.entry front.lawful.entry_types (moment_at h r front.lawful same.first) (λ i. (same.first i).numbers)

pub none_lawful : (h : Head) (entry : Entry) (bytes rest0 body rest1 : List ℕ) → HeadHasTypes h → bytes ≡ head_text h ++ rest0 → rest0 ≡ body ++ rest1 → length body ≡ h.length → ((e : Entry) → HasTypes e → HasMoment h.at e → numbers_of e ≡ h.numbers → entry ≡ e) → (IsRecord (made h entry body) → ⊥) → HasNoFront bytes
none_lawful h entry bytes rest0 body rest1 types text split len only not_one r rest front =
    let same = apart h bytes rest0 r rest types text front in
    let is_entry : entry ≡ r.entry = only r.entry front.lawful.entry_types (moment_at h r front.lawful same.first) (λ i. (same.first i).numbers) in
    let long : length r.body ≡ length body = (λ i. (same.first i).length) ∙ sym len in
    let is_body : r.body ≡ body = same_front r.body body rest rest1 long (same.rest ∙ split) in
    let is : r ≡ made h entry body = λ i. record { s = (same.first i).s; entry = sym is_entry i; at = (same.first i).at; body = is_body i; expected = (same.first i).expected } in
    not_one (subst IsRecord is front.lawful.record_is)

-- ---- many records

-- so many were read, and this is left
pub record ReadUpTo (bytes : List ℕ) (old now : ReadSoFar) (rest : List ℕ) : Type 0 where
  pub sofar : List Record
  pub text : bytes ≡ records_text sofar ++ rest
  pub lawful : AllByRecursion IsLawful sofar
  pub records : now.records ≡ old.records ++ sofar

pub read_none : (bytes : List ℕ) (old : ReadSoFar) → ReadUpTo bytes old old bytes
read_none bytes old = record { sofar = []; text = refl; lawful = tt; records = sym (append-nil old.records) }

lawful_more : (xs : List Record) (r : Record) → AllByRecursion IsLawful xs → IsLawful r → AllByRecursion IsLawful (xs ++ r ∷ [])
lawful_more [] r all one = (one, tt)
lawful_more (x ∷ xs) r all one = (all.0, lawful_more xs r all.1 one)

records_more : (xs : List Record) (r : Record) (rest : List ℕ) → records_text xs ++ (record_text r ++ rest) ≡ records_text (xs ++ r ∷ []) ++ rest
records_more xs r rest =
    sym (append_assoc (records_text xs) (record_text r) rest)
    ∙ ap (λ (l : List ℕ). (records_text xs ++ l) ++ rest) (sym (append-nil (record_text r)))
    ∙ ap (λ (l : List ℕ). l ++ rest) (sym (flat_map-append record_text xs (r ∷ [])))

pub read_more : (bytes : List ℕ) (old now new : ReadSoFar) (rest : List ℕ) (r : Record) (behind : List ℕ) → ReadUpTo bytes old now rest → IsFront rest r behind → new.records ≡ now.records ++ r ∷ [] → ReadUpTo bytes old new behind
read_more bytes old now new rest r behind read front taken = record {
  sofar = read.sofar ++ r ∷ [];
  text = read.text ∙ ap (λ (l : List ℕ). records_text read.sofar ++ l) front.text ∙ records_more read.sofar r behind;
  lawful = lawful_more read.sofar r read.lawful front.lawful;
  records = taken ∙ ap (λ (l : List Record). l ++ r ∷ []) read.records ∙ append_assoc old.records read.sofar (r ∷ []);
}

pub read_all : (bytes : List ℕ) (old now : ReadSoFar) (rest : List ℕ) → ReadUpTo bytes old now rest → rest ≡ [] → GoesOn bytes old now
read_all bytes old now rest read none = record {
  batch = read.sofar;
  text = read.text ∙ ap (λ (l : List ℕ). records_text read.sofar ++ l) none ∙ append-nil (records_text read.sofar);
  lawful = read.lawful;
  records = read.records;
}

pub stops_unread : (bytes : List ℕ) (old now : ReadSoFar) (rest : List ℕ) → ReadUpTo bytes old now rest → 0 < length rest → HasNoFront rest → GoesNowhere bytes old
stops_unread bytes old now rest read some none batch lawful is runs =
    let behind = records_behind read.sofar batch rest read.lawful lawful (sym read.text ∙ is) in
    by_cases behind.more behind.text behind.lawful
  where
    by_cases : (more : List Record) → rest ≡ records_text more → AllByRecursion IsLawful more → ⊥
    by_cases [] text all = omega (arith, some, ap (λ (l : List ℕ). length l) text)
    by_cases (q ∷ more) text all = none q (records_text more) (record { text = text; lawful = all.0 })

pub stops_refused : (bytes : List ℕ) (old now : ReadSoFar) (rest : List ℕ) (r : Record) (front_rest : List ℕ) → ReadUpTo bytes old now rest → IsFront rest r front_rest → (AreRuns old.sessions old.leases (now.records ++ r ∷ []) → ⊥) → GoesNowhere bytes old
stops_refused bytes old now rest r front_rest read front refused batch lawful is runs =
    let behind = records_behind read.sofar batch rest read.lawful lawful (sym read.text ∙ is) in
    by_cases behind.more behind.is behind.text behind.lawful
  where
    by_cases : (more : List Record) → batch ≡ read.sofar ++ more → rest ≡ records_text more → AllByRecursion IsLawful more → ⊥
    by_cases [] split text all = omega (arith, ap (λ (l : List ℕ). length l) front.text, ap (λ (l : List ℕ). length l) text, length-append (record_text r) front_rest, length-record_text r)
    by_cases (q ∷ more) split text all =
        let same = record_once r q front_rest (records_text more) front.lawful all.0 (sym front.text ∙ text) in
        let regrouped : old.records ++ batch ≡ (now.records ++ r ∷ []) ++ more =
        ap (λ (l : List Record). old.records ++ l) split
        ∙ sym (append_assoc old.records read.sofar (q ∷ more))
        ∙ ap (λ (l : List Record). l ++ (q ∷ more)) (sym read.records)
        ∙ ap (λ (x : Record). now.records ++ (x ∷ more)) (sym same.first)
        ∙ sym (append_assoc now.records (r ∷ []) more) in
        refused (runs_front old.sessions old.leases (now.records ++ r ∷ []) more (subst (AreRuns old.sessions old.leases) regrouped runs))

pub front_smaller : (rest : List ℕ) (r : Record) (behind : List ℕ) → IsFront rest r behind → length behind < length rest
front_smaller rest r behind front = omega (arith, ap (λ (l : List ℕ). length l) front.text, length-append (record_text r) behind, length-record_text r)
