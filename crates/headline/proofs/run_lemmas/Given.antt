-- What a library gave back by its calls is what its leases say.
use Rattle.std.proofs.Common.{◌≡◌, inl, inr, ℕ, zero, suc, ◌-◌, ◌<◌, Bool, true, List, [], ◌∷◌, ◌++◌, get_or, Some, Ok, Err, refl, subst, sym, ◌∙◌, arith}
use Rattle.std.proofs.lemmas.Bool.{eq-eqb}
use Rattle.std.proofs.lemmas.List.Elements.{All-append, All-cons, All-nil, Contains-append_cases, Contains-append_left, Contains-append_right}
use Rattle.std.specs.List.{All, Contains}
use Rattle.std.specs.Prelude.{◌==◌, if◌then◌else◌, slice_get}
use Rattle.lease_core.specs.declared.lease.Ending.{Ending}
use Rattle.lease_core.specs.declared.lease.Ending.TheVariants.{GivenBack, Running, TakenBack}
use Rattle.lease_core.specs.declared.lease.Line.{Line}
use Rattle.lease_words.specs.Leases.{Each, FitsEnding, Stands}
use Rattle.lease_words.specs.declared.view.LibraryLease.{LibraryLease}
use Rattle.library_api.specs.Calls.{Call, Deed, after_call, asks, beats, deeds_by, deeds_in, deeds_of, did_give, did_send, end_by, gives_back, hand_refused, is_done, meets, polls, release_refused, send_refused, sends, sends_by}
use Rattle.library_api.specs.Known.{Known, held, sends_made}
use Rattle.headline.specs.runs.Lives.{AreKept, IsKeptAs, IsReportedAs}
use Rattle.headline.specs.runs.Reports.{IsGivenBack}
use Rattle.run_report.specs.declared.calls.Call.{Call as Kept}
use Rattle.run_report.specs.declared.calls.Call.TheVariants as calls

-- a fact of what a kept call gave back, of its session
abbrev pub OnGiven : (ℕ → Deed → Type 0) → Kept → Type 0
OnGiven D (calls.Release s (Ok released)) = D s (did_give released.lease released.count 0)
OnGiven D (calls.Hand s heir (Ok released)) = D s (did_give released.lease released.count heir)
OnGiven D (calls.Release s (Err why)) = Unit {0}
OnGiven D (calls.Hand s heir (Err why)) = Unit {0}
OnGiven D (calls.Poll event) = Unit {0}
OnGiven D (calls.Send s body answer) = Unit {0}
OnGiven D (calls.Request s from answer) = Unit {0}
OnGiven D calls.Beat = Unit {0}

given_more : (D E : ℕ → Deed → Type 0) → ((s : ℕ) (deed : Deed) → D s deed → E s deed) → (call : Kept) → OnGiven D call → OnGiven E call
given_more D E more (calls.Release s (Ok released)) is = more s (did_give released.lease released.count 0) is
given_more D E more (calls.Hand s heir (Ok released)) is = more s (did_give released.lease released.count heir) is
given_more D E more (calls.Release s (Err why)) is = tt
given_more D E more (calls.Hand s heir (Err why)) is = tt
given_more D E more (calls.Poll event) is = tt
given_more D E more (calls.Send s body answer) is = tt
given_more D E more (calls.Request s from answer) is = tt
given_more D E more calls.Beat is = tt

all_more : (D E : ℕ → Deed → Type 0) → ((s : ℕ) (deed : Deed) → D s deed → E s deed) → (kept : List Kept) → All (OnGiven D) kept → All (OnGiven E) kept
all_more D E more kept all i d within = given_more D E more (get_or kept i d) (all i d within)

one_given : (D : ℕ → Deed → Type 0) (one : Kept) (kept : List Kept) → kept ≡ one ∷ [] → OnGiven D one → All (OnGiven D) kept
one_given D one kept is given = subst (All (OnGiven D)) (sym is) (All-cons (OnGiven D) one [] given (All-nil (OnGiven D)))

-- one call: what it answered that it gave back
abbrev DidIn : Known → Call → ℕ → Deed → Type 0
DidIn k call s deed = Contains (deeds_in s k call) deed

chosen : (test : Bool) (deed : Deed) → test ≡ true → Contains (if test then deed ∷ [] else []) deed
chosen test deed is = subst (λ (b : Bool). Contains (if b then deed ∷ [] else []) deed) (sym is) (0, omega arith, refl)

call_gave : (k : Known) (call : Call) (kept : List Kept) → IsKeptAs k call kept → All (OnGiven (DidIn k call)) kept
call_gave k (asks s from taken answer) kept is = one_given (DidIn k (asks s from taken answer)) _ kept is tt
call_gave k (polls o) kept is = one_given (DidIn k (polls o)) _ kept is tt
call_gave k (sends s taken body items) kept is = one_given (DidIn k (sends s taken body items)) _ kept is tt
call_gave k (send_refused s taken why) kept is = one_given (DidIn k (send_refused s taken why)) _ kept is.1 tt
call_gave k (gives_back s heir owner) kept is =
    let deed = did_give (held k s) (sends_made k s) heir in
    let has : Contains (deeds_in s k (gives_back s heir owner)) deed = chosen (s == s) deed (eq-eqb s s refl) in
    elim is [
      | inl nobody ↦ one_given (DidIn k (gives_back s heir owner)) _ kept nobody.1 (subst (λ n. Contains (deeds_in s k (gives_back s heir owner)) (did_give (held k s) (sends_made k s) n)) nobody.0 has)
      | inr handed ↦ one_given (DidIn k (gives_back s heir owner)) _ kept handed has
    ]
call_gave k (release_refused s why) kept is = one_given (DidIn k (release_refused s why)) _ kept is tt
call_gave k (hand_refused s why) kept is = one_given (DidIn k (hand_refused s why)) _ kept is.1 tt
call_gave k beats kept is = one_given (DidIn k beats) _ kept is tt
call_gave k (is_done finished taken answer) kept is = absurd is
call_gave k (meets ends) kept is = subst (All (OnGiven (DidIn k (meets ends)))) (sym is) (All-nil (OnGiven (DidIn k (meets ends))))

reported_gave : (k : Known) (call : Call) (kept : List Kept) → IsReportedAs k call kept → All (OnGiven (DidIn k call)) kept
reported_gave k call kept is = elim is [
  | inl own ↦ call_gave k call kept own
  | inr beside ↦ elim beside [
    | inl out ↦ subst (All (OnGiven (DidIn k call))) (sym out.none) (All-nil (OnGiven (DidIn k call)))
    | inr ends ↦ subst (All (OnGiven (DidIn k call))) (sym ends.none) (All-nil (OnGiven (DidIn k call)))
  ]
]

abbrev pub DidBy : Known → List Call → ℕ → Deed → Type 0
DidBy k made s deed = Contains (deeds_of s k made) deed

pub calls_gave : (k : Known) (made : List Call) (kept : List Kept) → AreKept IsReportedAs k made kept → All (OnGiven (DidBy k made)) kept
calls_gave k [] kept none = subst (All (OnGiven (DidBy k []))) (sym none) (All-nil (OnGiven (DidBy k [])))
calls_gave k (call ∷ made) kept are =
    let D = DidBy k (call ∷ made) in
    subst (All (OnGiven D)) (sym are.2) (All-append (OnGiven D) are.0 are.1
    (all_more (DidIn k call) D (λ s deed has. Contains-append_left (deeds_in s k call) (deeds_of s (after_call k call) made) deed has) are.0 (reported_gave k call are.0 are.3))
    (all_more (DidBy (after_call k call) made) D (λ s deed has. Contains-append_right (deeds_in s k call) (deeds_of s (after_call k call) made) deed has) are.1
    (calls_gave (after_call k call) made are.1 are.4)))

-- a send is no giving back
no_give : (lease n : ℕ) (other count heir : ℕ) → Contains (sends_by lease n) (did_give other count heir) → ⊥
no_give lease zero other count heir has = omega (arith, has.1)
no_give lease (suc n) other count heir has = elim (Contains-append_cases (sends_by lease n) (did_send lease (suc n) ∷ []) (did_give other count heir) has) [
  | inl earlier ↦ no_give lease n other count heir earlier
  | inr last ↦ no_last lease (suc n) other count heir last.0 last.1 last.2
] where
  no_last : (lease n other count heir i : ℕ) → i < 1 → get_or (did_send lease n ∷ []) i (did_give other count heir) ≡ did_give other count heir → ⊥
  no_last lease n other count heir zero within same = absurd cc
  no_last lease n other count heir (suc i) within same = omega arith

module _ (base : ℕ) (lines : List Line) (library : ℕ) where
  ended_by : (h : LibraryLease) (ending : Ending) → h.ending ≡ ending → Stands base lines library h → (lease count heir : ℕ) → Contains (end_by h ending) (did_give lease count heir) → IsGivenBack lines library lease count heir
  ended_by h Running is stands lease count heir has = absurd (omega (arith, has.1))
  ended_by h TakenBack is stands lease count heir has = absurd (omega (arith, has.1))
  ended_by h (GivenBack other) is stands lease count heir (zero, within, same) =
      let at : h.lease ≡ lease = cc in
      let sends : h.count ≡ count = cc in
      let whom : other ≡ heir = cc in
      record {
        line = stands.line;
        at = subst (λ n. slice_get lines (n - 1) ≡ Some stands.line) at stands.at;
        whose = stands.whose;
        sends = stands.count ∙ sends;
        ended = subst (λ n. stands.line.ending ≡ GivenBack n) whom (subst (λ e. FitsEnding e stands.line.ending) is stands.ending);
      }
  ended_by h (GivenBack other) is stands lease count heir (suc i, within, same) = absurd (omega arith)

  pub gave_so : (leases : List LibraryLease) → Each (Stands base lines library) leases → (lease count heir : ℕ) → Contains (deeds_by leases) (did_give lease count heir) → IsGivenBack lines library lease count heir
  gave_so [] stand lease count heir has = absurd (omega (arith, has.1))
  gave_so (h ∷ hs) stand lease count heir has = elim (Contains-append_cases (deeds_by hs) (sends_by h.lease h.count ++ end_by h h.ending) (did_give lease count heir) has) [
    | inl earlier ↦ gave_so hs stand.1 lease count heir earlier
    | inr here ↦ elim (Contains-append_cases (sends_by h.lease h.count) (end_by h h.ending) (did_give lease count heir) here) [
      | inl sent ↦ absurd (no_give h.lease h.count lease count heir sent)
      | inr ended ↦ ended_by h h.ending refl stand.0 lease count heir ended
    ]
  ]
