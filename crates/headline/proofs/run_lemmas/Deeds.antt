-- What a library's calls say that it did is what its leases do, and what the lines tell of it.
use Rattle.std.proofs.Common.{◌≡◌, ◌≢◌, ◌⊎◌, inl, inr, ℕ, zero, suc, ◌+◌, ◌-◌, ◌<◌, Bool, true, false, List, [], ◌∷◌, ◌++◌, length, Option, None, Some, Ok, Err, refl, ap, subst, sym, ◌∙◌, arith}
use Rattle.std.proofs.lemmas.Bool.{cases_eq, eq-eqb, ne_eqb}
use Rattle.std.proofs.lemmas.Grind.{flat_map-append}
use Rattle.std.proofs.lemmas.List.{append-nil, append_assoc}
use Rattle.std.proofs.lemmas.List.Elements.{All-cons, All-contains, All-nil, All-weaker}
use Rattle.std.proofs.lemmas.Option.{slice_get_within}
use Rattle.std.specs.List.{All}
use Rattle.std.specs.Prelude.{◌==◌, if◌then◌else◌, slice_get}
use Rattle.lease_core.specs.Deeds.{deeds_by as deeds_in_line, deeds_told_of, end_by as end_in_line, sends_by as sends_in_line}
use Rattle.lease_core.specs.Lines.{IsShown}
use Rattle.lease_core.specs.declared.lease.Deed.{Deed as Told}
use Rattle.lease_core.specs.declared.lease.Ending.{Ending}
use Rattle.lease_core.specs.declared.lease.Ending.TheVariants.{GivenBack, Running, TakenBack}
use Rattle.lease_core.specs.declared.lease.Line.{Line}
use Rattle.lease_core.specs.declared.word.Word.{Word}
use Rattle.lease_words.specs.Leases.{AreBelow, Each, FitsEnding, IsKept, OthersRest, Stands}
use Rattle.lease_words.specs.declared.item.Sent.{Sent}
use Rattle.lease_words.specs.declared.view.LibraryLease.{LibraryLease}
use Rattle.lease_words.specs.declared.view.LibrarySession.{LibrarySession}
use Rattle.library_api.specs.Calls.{Call, Deed, after_call, asks, beats, deeds_by, deeds_in, deeds_of, did_give, did_send, end_by, gives_back, hand_refused, is_done, meets, polls, release_refused, send_refused, sends, sends_by}
use Rattle.library_api.specs.Known.{Known}
use Rattle.library_api.specs.declared.refusal.Released.{Released}
use Rattle.headline.specs.runs.Deeds.{AreRising, IsKnownWord, deed_kept, deeds_in_lines, deeds_kept, own_deed, own_deeds}
use Rattle.headline.specs.runs.Lives.{AreKept, IsInVain, IsKeptAs, IsReportedAs}
use Rattle.run_report.specs.declared.calls.Call.{Call as Kept}
use Rattle.run_report.specs.declared.calls.Call.TheVariants as calls

-- what a kept call did
deed_of : (s : ℕ) (k : Known) (call : Call) (kept : List Kept) → IsKeptAs k call kept → deeds_kept s kept ≡ deeds_in s k call
deed_of s k (asks t from taken answer) kept is = ap (deeds_kept s) is
deed_of s k (polls o) kept is = ap (deeds_kept s) is
deed_of s k (sends t taken body items) kept is = ap (deeds_kept s) is ∙ append-nil (deeds_in s k (sends t taken body items))
deed_of s k (send_refused t taken why) kept is = ap (deeds_kept s) is.1
deed_of s k (gives_back t heir owner) kept is = elim is [
  | inl nobody ↦ ap (deeds_kept s) nobody.1 ∙ append-nil (deeds_in s k (gives_back t 0 owner)) ∙ ap (λ n. deeds_in s k (gives_back t n owner)) (sym nobody.0)
  | inr handed ↦ ap (deeds_kept s) handed ∙ append-nil (deeds_in s k (gives_back t heir owner))
]
deed_of s k (release_refused t why) kept is = ap (deeds_kept s) is
deed_of s k (hand_refused t why) kept is = ap (deeds_kept s) is.1
deed_of s k beats kept is = ap (deeds_kept s) is
deed_of s k (is_done finished taken answer) kept is = absurd is
deed_of s k (meets ends) kept is = ap (deeds_kept s) is

-- a call in vain did nothing
neither : (idle full : Bool) → idle ≡ false → full ≡ false → (idle ≡ true) ⊎ (full ≡ true) → ⊥
neither idle full not_idle not_full vain = elim vain [
  | inl is ↦ (let clash : false ≡ true = sym not_idle ∙ is in absurd (cc))
  | inr is ↦ (let clash : false ≡ true = sym not_full ∙ is in absurd (cc))
]

sent_in_vain : (t : ℕ) (body : List ℕ) (sent : Sent) → IsInVain (calls.Send t body (Ok sent)) → ⊥
sent_in_vain t body sent vain = neither false false refl refl vain

released_in_vain : (t : ℕ) (released : Released) → IsInVain (calls.Release t (Ok released)) → ⊥
released_in_vain t released vain = neither false false refl refl vain

handed_in_vain : (t heir : ℕ) (released : Released) → IsInVain (calls.Hand t heir (Ok released)) → ⊥
handed_in_vain t heir released vain = neither false false refl refl vain

vain_deed : (s : ℕ) (one : Kept) → IsInVain one → deeds_kept s (one ∷ []) ≡ []
vain_deed s (calls.Send t body (Ok sent)) vain = absurd (sent_in_vain t body sent vain)
vain_deed s (calls.Send t body (Err why)) vain = refl
vain_deed s (calls.Request t from answer) vain = refl
vain_deed s (calls.Poll event) vain = refl
vain_deed s (calls.Release t (Ok released)) vain = absurd (released_in_vain t released vain)
vain_deed s (calls.Release t (Err why)) vain = refl
vain_deed s (calls.Hand t heir (Ok released)) vain = absurd (handed_in_vain t heir released vain)
vain_deed s (calls.Hand t heir (Err why)) vain = refl
vain_deed s calls.Beat vain = refl

reported_deed : (s : ℕ) (k : Known) (call : Call) (kept : List Kept) → IsReportedAs k call kept → deeds_kept s kept ≡ deeds_in s k call
reported_deed s k call kept is = elim is [
  | inl own ↦ deed_of s k call kept own
  | inr beside ↦ elim beside [
    | inl out ↦ ap (deeds_kept s) out.none ∙ (sym (vain_deed s out.one out.vain) ∙ deed_of s k call (out.one ∷ []) out.is)
    | inr ends ↦ ap (deeds_kept s) ends.none ∙ sym (ap (deeds_in s k) ends.is)
  ]
]

pub deeds_told : (s : ℕ) (k : Known) (made : List Call) (kept : List Kept) → AreKept IsReportedAs k made kept → deeds_kept s kept ≡ deeds_of s k made
deeds_told s k [] kept none = ap (deeds_kept s) none
deeds_told s k (call ∷ made) kept are =
    ap (deeds_kept s) are.2 ∙ (flat_map-append (deed_kept s) are.0 are.1
    ∙ (ap (λ front. front ++ deeds_kept s are.1) (reported_deed s k call are.0 are.3) ∙ ap (λ back. deeds_in s k call ++ back) (deeds_told s (after_call k call) made are.1 are.4)))

-- a word that a seat knows is shown where all that it saw are
each_all : {A : Type 0} (P : A → Type 0) (xs : List A) → Each P xs → All P xs
each_all P [] each = All-nil P
each_all P (x ∷ xs) each = All-cons P x xs each.0 (each_all P xs each.1)

known_shown : (lines : List Line) (known : LibrarySession) → Each (IsShown lines) known.words → (w : Word) → IsKnownWord known w → IsShown lines w
known_shown lines known shown w is = elim is [
  | inl opening ↦ inl opening
  | inr has ↦ All-contains (IsShown lines) known.words w (each_all (IsShown lines) known.words shown) has
]

pub all_shown : (lines : List Line) (known : LibrarySession) (words : List Word) → Each (IsShown lines) known.words → All (IsKnownWord known) words → All (IsShown lines) words
all_shown lines known words shown all = All-weaker (IsKnownWord known) (IsShown lines) (known_shown lines known shown) words all

-- what a line tells of a library, and what the first lines do
abbrev line_deeds : ℕ → ℕ → Option Line → List Deed
line_deeds library lease None = []
line_deeds library lease (Some l) = if l.library == library then own_deeds (deeds_in_line lease l) else []

abbrev first_deeds : ℕ → List Line → ℕ → List Deed
first_deeds library lines zero = []
first_deeds library lines (suc m) = first_deeds library lines m ++ line_deeds library (suc m) (slice_get lines m)

own_append : (xs ys : List Told) → own_deeds (xs ++ ys) ≡ own_deeds xs ++ own_deeds ys
own_append xs ys = flat_map-append own_deed xs ys

own_if : (is : Bool) (xs : List Told) → own_deeds (if is then xs else []) ≡ (if is then own_deeds xs else [])
own_if true xs = refl
own_if false xs = refl

-- all lines, from one of them on
told_on : (library n : ℕ) (lines ls : List Line) → ((j : ℕ) → slice_get lines (n + j) ≡ slice_get ls j) → first_deeds library lines n ++ own_deeds (deeds_told_of library (suc n) ls) ≡ first_deeds library lines (n + length ls)
told_on library n lines [] at =
    let none : n ≡ n + 0 = omega arith in
    append-nil (first_deeds library lines n) ∙ ap (first_deeds library lines) none
told_on library n lines (l ∷ ls) at =
    let first : n ≡ n + 0 = omega arith in
    let here : slice_get lines n ≡ Some l = ap (slice_get lines) first ∙ at 0 in
    let next : suc n + 1 ≡ suc (suc n) = omega arith in
    let further : suc n + length ls ≡ n + suc (length ls) = omega arith in
    let chosen = if l.library == library then deeds_in_line (suc n) l else [] in
    let rest = own_deeds (deeds_told_of library (suc n + 1) ls) in
    let one : own_deeds chosen ≡ line_deeds library (suc n) (slice_get lines n) = own_if (l.library == library) (deeds_in_line (suc n) l) ∙ ap (line_deeds library (suc n)) (sym here) in
    ap (λ deeds. first_deeds library lines n ++ deeds) (own_append chosen (deeds_told_of library (suc n + 1) ls))
    ∙ sym (append_assoc (first_deeds library lines n) (own_deeds chosen) rest)
    ∙ ap (λ deeds. (first_deeds library lines n ++ deeds) ++ rest) one
    ∙ ap (λ k. first_deeds library lines (suc n) ++ own_deeds (deeds_told_of library k ls)) next
    ∙ told_on library (suc n) lines ls (λ j. (let same : suc n + j ≡ n + suc j = omega arith in ap (slice_get lines) same ∙ at (suc j)))
    ∙ ap (first_deeds library lines) further

-- a lease's sends, and its end
own_sends : (lease library n : ℕ) → own_deeds (sends_in_line lease library n) ≡ sends_by lease n
own_sends lease library zero = refl
own_sends lease library (suc n) = own_append (sends_in_line lease library n) _ ∙ ap (λ deeds. deeds ++ did_send lease (suc n) ∷ []) (own_sends lease library n)

ended_so : (h : LibraryLease) (lease library count : ℕ) (is ending : Ending) → lease ≡ h.lease → count ≡ h.count → FitsEnding is ending → own_deeds (end_in_line lease library count ending) ≡ end_by h is
ended_so h lease library count Running ending at same fits = elim fits [
  | inl runs ↦ ap (λ e. own_deeds (end_in_line lease library count e)) runs
  | inr lost ↦ ap (λ e. own_deeds (end_in_line lease library count e)) lost
]
ended_so h lease library count TakenBack ending at same fits = ap (λ e. own_deeds (end_in_line lease library count e)) fits
ended_so h lease library count (GivenBack heir) ending at same fits =
    ap (λ e. own_deeds (end_in_line lease library count e)) fits ∙ (λ i. did_give (at i) (same i) heir ∷ [])

line_done : (library lease : ℕ) (l : Line) (h : LibraryLease) → lease ≡ h.lease → l.library ≡ library → l.sends ≡ h.count → FitsEnding h.ending l.ending
    → line_deeds library lease (Some l) ≡ sends_by h.lease h.count ++ end_by h h.ending
line_done library lease l h at whose count fits =
    ap (λ (b : Bool). if b then own_deeds (deeds_in_line lease l) else []) (eq-eqb l.library library whose)
    ∙ own_append (sends_in_line lease l.library l.sends) (end_in_line lease l.library l.sends l.ending)
    ∙ (λ i. own_sends lease l.library l.sends i ++ ended_so h lease l.library l.sends h.ending l.ending at count fits i)
    ∙ (λ i. sends_by (at i) (count i) ++ end_by h h.ending)

-- a line at rest tells nothing
nothing_ended : (lease library count : ℕ) (ending : Ending) → IsKept ending → own_deeds (end_in_line lease library count ending) ≡ []
nothing_ended lease library count Running kept = refl
nothing_ended lease library count TakenBack kept = refl
nothing_ended lease library count (GivenBack heir) kept = absurd kept

abbrev RestsWhere : ℕ → Option Line → Type 0
RestsWhere library o = (l : Line) → o ≡ Some l → l.library ≡ library → (l.sends ≡ 0) × IsKept l.ending

line_rests : (library lease : ℕ) (o : Option Line) → RestsWhere library o → line_deeds library lease o ≡ []
line_rests library lease None rests = refl
line_rests library lease (Some l) rests = elim (cases_eq l.library library) [
  | inl same ↦ (
      let at_rest = rests l refl same in
      ap (λ (b : Bool). if b then own_deeds (deeds_in_line lease l) else []) (eq-eqb l.library library same)
      ∙ own_append (sends_in_line lease l.library l.sends) (end_in_line lease l.library l.sends l.ending)
      ∙ ap (λ n. own_deeds (sends_in_line lease l.library n) ++ own_deeds (end_in_line lease l.library l.sends l.ending)) at_rest.0
      ∙ nothing_ended lease l.library l.sends l.ending at_rest.1)
  | inr other ↦ ap (λ (b : Bool). if b then own_deeds (deeds_in_line lease l) else []) (ne_eqb l.library library other)
]

-- these leases are below, and so none is this one
all_lower : (low high : ℕ) (hs : List LibraryLease) → low < high → AreBelow low hs → AreBelow high hs
all_lower low high [] less below = tt
all_lower low high (h ∷ hs) less below = (let one = below.0 in omega arith, all_lower low high hs less below.1)

none_is : (low at : ℕ) (hs : List LibraryLease) → low < suc at → AreBelow low hs → Each (λ (h : LibraryLease). h.lease ≢ at) hs
none_is low at [] less below = tt
none_is low at (h ∷ hs) less below = ((λ same. (let one = below.0 in omega arith)), none_is low at hs less below.1)

-- among the first lines those of the library that aren't of these leases are at rest
abbrev FirstRest : ℕ → List Line → ℕ → List LibraryLease → Type 0
FirstRest library lines m leases = (k : ℕ) (l : Line) → k < m → slice_get lines k ≡ Some l → l.library ≡ library → Each (λ (h : LibraryLease). h.lease ≢ suc k) leases → (l.sends ≡ 0) × IsKept l.ending

first_done : (library : ℕ) (lines : List Line) (m : ℕ) (leases : List LibraryLease) → AreBelow (suc m) leases → AreRising leases → Each (Stands 0 lines library) leases → FirstRest library lines m leases
    → first_deeds library lines m ≡ deeds_by leases
first_done library lines zero [] below rising stand rest = refl
first_done library lines zero (h ∷ hs) below rising stand rest = absurd (let low = below.0 in let above = stand.0.above in omega arith)
first_done library lines (suc m) [] below rising stand rest =
    (λ i. first_done library lines m [] tt tt tt (λ k l less. rest k l (omega arith)) i ++ line_rests library (suc m) (slice_get lines m) (λ l at whose. rest m l (omega arith) at whose tt) i)
first_done library lines (suc m) (h ∷ hs) below rising stand rest = elim (cases_eq h.lease (suc m)) [
  | inl same ↦ (
      let own = stand.0 in
      let place : m ≡ h.lease - 1 = omega arith in
      let at : slice_get lines m ≡ Some own.line = ap (slice_get lines) place ∙ own.at in
      let earlier = first_done library lines m hs (subst (λ n. AreBelow n hs) same rising.0) rising.1 stand.1 (λ k l less found whose none. rest k l (omega arith) found whose ((λ is. omega arith), none)) in
      (λ i. earlier i ++ (ap (line_deeds library (suc m)) at ∙ line_done library (suc m) own.line h (sym same) own.whose own.count own.ending) i))
  | inr other ↦ (
      let low = below.0 in
      let less : h.lease < suc m = omega arith in
      let earlier = first_done library lines m (h ∷ hs) (less, all_lower h.lease (suc m) hs less rising.0) rising stand (λ k l less. rest k l (omega arith)) in
      let none = line_rests library (suc m) (slice_get lines m) (λ l at whose. rest m l (omega arith) at whose (other, none_is h.lease (suc m) hs (omega arith) rising.0)) in
      (λ i. earlier i ++ none i) ∙ append-nil (deeds_by (h ∷ hs)))
]

-- a lease that stands in the lines is one of them
all_within : (lines : List Line) (library : ℕ) (leases : List LibraryLease) → Each (Stands 0 lines library) leases → AreBelow (suc (length lines)) leases
all_within lines library [] stand = tt
all_within lines library (h ∷ hs) stand =
    (let one = stand.0 in let less = slice_get_within lines (h.lease - 1) one.line one.at in let above = one.above in omega arith, all_within lines library hs stand.1)

pub lines_tell : (library : ℕ) (lines : List Line) (leases : List LibraryLease) → AreRising leases → Each (Stands 0 lines library) leases → OthersRest 0 lines library leases → deeds_in_lines library lines ≡ deeds_by leases
lines_tell library lines leases rising stand rest =
    let all : 0 + length lines ≡ length lines = omega arith in
    told_on library 0 lines lines (λ j. (let same : 0 + j ≡ j = omega arith in ap (slice_get lines) same)) ∙ ap (first_deeds library lines) all
    ∙ first_done library lines (length lines) leases (all_within lines library leases stand) rising stand (λ k l less found whose none. rest k l found (omega arith) whose none)
