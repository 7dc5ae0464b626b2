-- Each of the wrong reports is refuted by a law.
use Rattle.std.proofs.Common.{◌≡◌, ℕ, suc, zero, ◌+◌, ◌≤◌, inl, inr, List, [], ◌∷◌, length, take, drop, Some, refl, sym, ap, ◌∙◌, subst, arith, slice_get, slice_index, slice_index_or, Contains}
use Rattle.std.proofs.lemmas.Option.{none-some, same_Some, get_or_from_slice_get}
use Rattle.lease_core.specs.Holdings.{holdings_of}
use Rattle.lease_core.specs.State.{state_of}
use Rattle.lease_core.specs.declared.entry.Entry.{Entry}
use Rattle.lease_core.specs.declared.entry.Entry.TheVariants.{Arrive, Granted, Release}
use Rattle.lease_core.specs.declared.entry.Holding.{Holding}
use Rattle.journal_audit.specs.Called.{Called, Reading, readings, deeds_called, bodies_called}
use Rattle.journal_audit.specs.Journals.{Journal, JournalsAreLawful, no_journal, IsLawful, AreLawful}
use Rattle.journal_audit.specs.Shown.{Shown, shown_in, OfEachRight, ReadsArePrefixes, DeedsAreOwn, BodiesAreOwn, IsPrefix, own_deeds, bodies_sent, read_from}
use Rattle.journal_audit.specs.Wrong.{IsRefuted, Shows, SkipsAMessage, ReadsTwice, ReadsAnother, ReadsForAnother, ReadsUngranted, ReadsTooLate, ReadsOfNone, SendsUntold, SendsOutOfOrder, SendsOneMore, SendsAnother, SendsForAnother, GivesBackWhatRuns, GivesBackUntold, HandsToAnother, CountsAnother, GivesBackAnother}

none_one : {A : Type 0} (x : A) (xs : List A) → [] ≡ x ∷ xs → ⊥
none_one x xs same = (cc)

one_none : {A : Type 0} (x : A) (xs : List A) → x ∷ xs ≡ [] → ⊥
one_none x xs same = (cc)

-- Reads.

-- the one lease that was granted
record IsTheLease (library lease from : ℕ) : Type 0 where
  pub library_is : library ≡ 1
  pub lease_is : lease ≡ 1
  pub from_is : from ≡ 0

granted_once : (library nr lease from start : ℕ) → Contains (Granted 1 1 1 0 0 ∷ Arrive 0 ∷ Arrive 1 ∷ []) (Granted library nr lease from start) → IsTheLease library lease from
granted_once library nr lease from start (zero, within, is) = record { library_is = cc; lease_is = cc; from_is = cc }
granted_once library nr lease from start (suc zero, within, is) = absurd (cc)
granted_once library nr lease from start (suc (suc zero), within, is) = absurd (cc)
granted_once library nr lease from start (suc (suc (suc k)), within, is) = absurd (omega arith)

-- what session 0 shows of a read by a lease
record ReadShown (es : List Entry) (inbound : List (List ℕ)) (lease : ℕ) (read : List Reading) : Type 0 where
  pub holding : Holding
  pub session : Journal
  pub held : Contains session.holdings holding
  pub entries_are : session.entries ≡ es
  pub lease_is : holding.lease ≡ lease
  pub nr : ℕ
  pub granted : Contains es (Granted holding.library nr lease holding.from holding.start)
  pub within : holding.from + length read ≤ holding.end
  pub are : read ≡ read_from holding.library holding.from (take (length read) (drop holding.from inbound))

read_shown : (shown : Shown) (es : List Entry) (inbound outbound : List (List ℕ)) (calls : List Called) → ReadsArePrefixes shown → Shows shown es inbound outbound calls → (lease : ℕ) (r : Reading) (rs : List Reading) → readings 0 lease calls ≡ r ∷ rs
    → (one : ReadShown es inbound lease (r ∷ rs)) × (slice_get shown.sessions 0 ≡ Some one.session)
read_shown shown es inbound outbound calls reads shows lease r rs are =
    let all : readings 0 lease shown.calls ≡ r ∷ rs = ap (λ (cs : List Called). readings 0 lease cs) shows.calls_are ∙ are in
    elim (reads 0 lease) [
      | inl none ↦ absurd (none_one r rs (sym none ∙ all))
      | inr some ↦ (
          let read = subst (λ (xs : List Reading). IsPrefix some.session lease xs) all some.is_prefix in
          let same : some.session ≡ shows.session = same_Some some.session shows.session (sym some.at ∙ shows.at) in
          let entries_are : some.session.entries ≡ es = ap (λ (j : Journal). j.entries) same ∙ shows.entries_are in
          let inbound_is : some.session.inbound ≡ inbound = ap (λ (j : Journal). j.inbound) same ∙ shows.inbound_is in (
            record {
              holding = read.holding;
              session = some.session;
              held = read.held;
              entries_are = entries_are;
              lease_is = read.lease_is;
              nr = read.nr;
              granted = subst (λ (xs : List Entry). Contains xs (Granted read.holding.library read.nr lease read.holding.from read.holding.start)) entries_are read.granted;
              within = read.within;
              are = read.are ∙ ap (λ (xs : List (List ℕ)). read_from read.holding.library read.holding.from (take (length (r ∷ rs)) (drop read.holding.from xs))) inbound_is;
            },
            some.at,
          ))
    ]

-- by the one lease, the messages are those of the log from the first one on
from_first : (inbound : List (List ℕ)) (lease : ℕ) (read : List Reading) → ReadShown (Granted 1 1 1 0 0 ∷ Arrive 0 ∷ Arrive 1 ∷ []) inbound lease read → read ≡ read_from 1 0 (take (length read) inbound)
from_first inbound lease read one =
    let is = granted_once one.holding.library one.nr lease one.holding.from one.holding.start one.granted in
    one.are
    ∙ ap (λ (l : ℕ). read_from l one.holding.from (take (length read) (drop one.holding.from inbound))) is.library_is
    ∙ ap (λ (n : ℕ). read_from 1 n (take (length read) (drop n inbound))) is.from_is

abbrev pos_at : ℕ → List Reading → ℕ
pos_at k read = (slice_index_or read k (record { library = 0; pos = 9; body = [] })).pos

abbrev library_first : List Reading → ℕ
library_first read = (slice_index_or read 0 (record { library = 0; pos = 9; body = [] })).library

abbrev type_first : List Reading → ℕ
type_first read = slice_index (slice_index_or read 0 (record { library = 0; pos = 9; body = [] })).body 3

pub skips : OfEachRight ReadsArePrefixes → IsRefuted SkipsAMessage
skips reads text verdict wrong =
    let one = (read_shown (shown_in text) _ _ _ _ (reads text verdict) wrong 1 _ _ refl).0 in
    let same : ◌≡◌ {A = ℕ} 1 0 = ap (pos_at 0) (from_first _ 1 _ one) in
    omega (arith, same)

pub reads_twice : OfEachRight ReadsArePrefixes → IsRefuted ReadsTwice
reads_twice reads text verdict wrong =
    let one = (read_shown (shown_in text) _ _ _ _ (reads text verdict) wrong 1 _ _ refl).0 in
    let same : ◌≡◌ {A = ℕ} 0 1 = ap (pos_at 1) (from_first _ 1 _ one) in
    omega (arith, same)

pub reads_another : OfEachRight ReadsArePrefixes → IsRefuted ReadsAnother
reads_another reads text verdict wrong =
    let one = (read_shown (shown_in text) _ _ _ _ (reads text verdict) wrong 1 _ _ refl).0 in
    let same : ◌≡◌ {A = ℕ} 70 68 = ap type_first (from_first _ 1 _ one) in
    omega (arith, same)

pub reads_for_another : OfEachRight ReadsArePrefixes → IsRefuted ReadsForAnother
reads_for_another reads text verdict wrong =
    let one = (read_shown (shown_in text) _ _ _ _ (reads text verdict) wrong 1 _ _ refl).0 in
    let same : ◌≡◌ {A = ℕ} 2 1 = ap library_first (from_first _ 1 _ one) in
    omega (arith, same)

pub reads_ungranted : OfEachRight ReadsArePrefixes → IsRefuted ReadsUngranted
reads_ungranted reads text verdict wrong =
    let one = (read_shown (shown_in text) _ _ _ _ (reads text verdict) wrong 2 _ _ refl).0 in
    let same : ◌≡◌ {A = ℕ} 2 1 = (granted_once one.holding.library one.nr 2 one.holding.from one.holding.start one.granted).lease_is in
    omega (arith, same)

lawful_first : (js : List Journal) (session : Journal) → AreLawful js → slice_get js 0 ≡ Some session → IsLawful session
lawful_first [] session lawful at = absurd (none-some session at)
lawful_first (j ∷ js) session lawful at = subst (λ (x : Journal). IsLawful x) (same_Some j session at) lawful.0

abbrev given_back_first : List Entry
given_back_first = Granted 1 1 1 0 0 ∷ Release 1 1 0 0 ∷ Arrive 0 ∷ []

ended_holding : (h : Holding) → Contains (holdings_of given_back_first) h → h.lease ≡ 1 → h.end ≡ 0
unfolding state_of
ended_holding h (zero, within, is) lease = absurd (let same = ap (λ (x : Holding). x.lease) is in omega arith)
ended_holding h (suc zero, within, is) lease = sym (ap (λ (x : Holding). x.end) is)
ended_holding h (suc (suc zero), within, is) lease = absurd (let same = ap (λ (x : Holding). x.lease) is in omega arith)
ended_holding h (suc (suc (suc k)), within, is) lease = absurd (omega arith)

pub reads_too_late : JournalsAreLawful → OfEachRight ReadsArePrefixes → IsRefuted ReadsTooLate
reads_too_late lawful reads text verdict wrong =
    let found = read_shown (shown_in text) _ _ _ _ (reads text verdict) wrong 1 _ _ refl in
    let one = found.0 in
    let holdings : one.session.holdings ≡ holdings_of given_back_first = (lawful_first (shown_in text).sessions one.session (lawful text verdict) found.1).holdings ∙ ap holdings_of one.entries_are in
    let end = ended_holding one.holding (subst (λ (hs : List Holding). Contains hs one.holding) holdings one.held) one.lease_is in
    let within : one.holding.from + 1 ≤ one.holding.end = one.within in
    omega arith

pub reads_of_none : OfEachRight ReadsArePrefixes → IsRefuted ReadsOfNone
reads_of_none reads text verdict wrong =
    elim (reads text verdict 0 1) [
      | inl none ↦ one_none _ _ (sym (ap (λ (cs : List Called). readings 0 1 cs) wrong.calls_are) ∙ none)
      | inr some ↦ none-some some.session (sym (ap (λ (js : List Journal). slice_get js 0) wrong.none) ∙ some.at)
    ]

-- Sends and releases.

deeds_shown : (shown : Shown) (es : List Entry) (inbound outbound : List (List ℕ)) (calls : List Called) → DeedsAreOwn shown → Shows shown es inbound outbound calls → (library : ℕ) → deeds_called library 0 calls ≡ own_deeds library es
deeds_shown shown es inbound outbound calls deeds shows library =
    sym (ap (λ (cs : List Called). deeds_called library 0 cs) shows.calls_are)
    ∙ deeds library 0
    ∙ ap (λ (j : Journal). own_deeds library j.entries) (get_or_from_slice_get shown.sessions 0 shows.session no_journal shows.at)
    ∙ ap (λ (xs : List Entry). own_deeds library xs) shows.entries_are

bodies_shown : (shown : Shown) (es : List Entry) (inbound outbound : List (List ℕ)) (calls : List Called) → BodiesAreOwn shown → Shows shown es inbound outbound calls → (library : ℕ)
    → bodies_called library 0 calls ≡ bodies_sent library (record { entries = es; holdings = []; inbound = []; outbound = outbound })
bodies_shown shown es inbound outbound calls bodies shows library =
    sym (ap (λ (cs : List Called). bodies_called library 0 cs) shows.calls_are)
    ∙ bodies library 0
    ∙ ap (λ (j : Journal). bodies_sent library j) (get_or_from_slice_get shown.sessions 0 shows.session no_journal shows.at)
    ∙ ap (λ (xs : List Entry). bodies_sent library (record { entries = xs; holdings = []; inbound = []; outbound = shows.session.outbound })) shows.entries_are
    ∙ ap (λ (xs : List (List ℕ)). bodies_sent library (record { entries = es; holdings = []; inbound = []; outbound = xs })) shows.outbound_is

pub sends_untold : OfEachRight DeedsAreOwn → IsRefuted SendsUntold
sends_untold deeds text verdict wrong = none_one _ _ (deeds_shown (shown_in text) _ _ _ _ (deeds text verdict) wrong 1)

pub sends_out_of_order : OfEachRight DeedsAreOwn → IsRefuted SendsOutOfOrder
sends_out_of_order deeds text verdict wrong = (let same = deeds_shown (shown_in text) _ _ _ _ (deeds text verdict) wrong 1 in absurd (cc))

pub sends_one_more : OfEachRight DeedsAreOwn → IsRefuted SendsOneMore
sends_one_more deeds text verdict wrong = (let same = deeds_shown (shown_in text) _ _ _ _ (deeds text verdict) wrong 1 in absurd (cc))

pub sends_another : OfEachRight BodiesAreOwn → IsRefuted SendsAnother
sends_another bodies text verdict wrong =
    let same : ◌≡◌ {A = ℕ} 71 70 = ap (λ (xs : List (List ℕ)). slice_index (slice_index_or xs 1 []) 3) (bodies_shown (shown_in text) _ _ _ _ (bodies text verdict) wrong 1) in
    omega (arith, same)

pub sends_for_another : OfEachRight DeedsAreOwn → IsRefuted SendsForAnother
sends_for_another deeds text verdict wrong = none_one _ _ (deeds_shown (shown_in text) _ _ _ _ (deeds text verdict) wrong 1)

pub gives_back_what_runs : OfEachRight DeedsAreOwn → IsRefuted GivesBackWhatRuns
gives_back_what_runs deeds text verdict wrong = one_none _ _ (deeds_shown (shown_in text) _ _ _ _ (deeds text verdict) wrong 1)

pub gives_back_untold : OfEachRight DeedsAreOwn → IsRefuted GivesBackUntold
gives_back_untold deeds text verdict wrong = none_one _ _ (deeds_shown (shown_in text) _ _ _ _ (deeds text verdict) wrong 1)

pub hands_to_another : OfEachRight DeedsAreOwn → IsRefuted HandsToAnother
hands_to_another deeds text verdict wrong = (let same = deeds_shown (shown_in text) _ _ _ _ (deeds text verdict) wrong 1 in absurd (cc))

pub counts_another : OfEachRight DeedsAreOwn → IsRefuted CountsAnother
counts_another deeds text verdict wrong = (let same = deeds_shown (shown_in text) _ _ _ _ (deeds text verdict) wrong 1 in absurd (cc))

pub gives_back_another : OfEachRight DeedsAreOwn → IsRefuted GivesBackAnother
gives_back_another deeds text verdict wrong = (let same = deeds_shown (shown_in text) _ _ _ _ (deeds text verdict) wrong 1 in absurd (cc))
