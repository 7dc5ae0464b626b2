-- The messages of a lease that polls gave come behind its grant.
use Rattle.std.proofs.Common.{◌≡◌, inl, inr, ℕ, suc, ◌⊎◌, ◌==◌, Bool, true, false, List, [], ◌∷◌, ◌++◌, None, Some, refl, ap, subst, ◌∙◌, arith}
use Rattle.std.proofs.lemmas.Bool.{eqb-true}
use Rattle.std.proofs.lemmas.List.Elements.{All-cons, All-head, All-nil, All-tail}
use Rattle.std.specs.List.{All, Contains}
use Rattle.std.specs.Prelude.{◌&&◌, if◌then◌else◌}
use Rattle.lease_core.specs.declared.messages.Notice.{Notice}
use Rattle.lease_core.specs.declared.messages.Notice.TheVariants as notices
use Rattle.library_api.specs.Reads.{AreInOrder, ComesNext, concerns, granted_from, is_of, next_after, read_by, start_of}
use Rattle.library_api.specs.declared.event.Event.{Event}
use Rattle.library_api.specs.declared.event.Event.TheVariants as events
use Rattle.headline.specs.runs.Reports.{HandsOn, OnNotice, position_kept, positions_kept}
use Rattle.run_report.specs.declared.calls.Call.{Call as Kept}
use Rattle.run_report.specs.declared.calls.Call.TheVariants as calls

module _ (s lease : ℕ) where
  -- a grant of the lease, which says where the replay begins
  pub record HasGrant (ns : List Notice) : Type 0 where
    pub nr : ℕ
    pub from : ℕ
    pub start : ℕ
    pub has : Contains ns (notices.Granted nr s lease from start)
    pub first : granted_from s lease ns ≡ from

  abbrev pub IsBeside : Notice → Type 0
  IsBeside n = concerns s lease n ≡ false

  both_true : (a b : Bool) → (a && b) ≡ true → (a ≡ true) × (b ≡ true)
  both_true true true is = (refl, refl)
  both_true true false is = absurd cc
  both_true false true is = absurd cc
  both_true false false is = absurd cc

  same_both : (t other : ℕ) → is_of s lease t other ≡ true → (t ≡ s) × (other ≡ lease)
  same_both t other is = (let both = both_true (t == s) (other == lease) is in (eqb-true t s both.0, eqb-true other lease both.1))

  -- the first notice that concerns a lease is its grant
  granted_here : (n : Notice) (ns : List Notice) (is : Bool) → concerns s lease n ≡ is → ComesNext is None n → (next_after is None n ≡ None → HasGrant ns ⊎ All IsBeside ns) → HasGrant (n ∷ ns) ⊎ All IsBeside (n ∷ ns)
  granted_here n ns false is comes later = elim (later refl) [
    | inl grant ↦ inl (record {
      nr = grant.nr;
      from = grant.from;
      start = grant.start;
      has = (suc grant.has.0, (let within = grant.has.1 in omega arith), grant.has.2);
      first = ap (λ (b : Bool). if b then start_of n else granted_from s lease ns) is ∙ grant.first;
    })
    | inr beside ↦ inr (All-cons IsBeside n ns is beside)
  ]
  granted_here (notices.Granted nr t other from start) ns true is comes later =
      let same = same_both t other is in
      inl (record {
        nr = nr;
        from = from;
        start = start;
        has = (0, omega arith, λ i. notices.Granted nr (same.0 i) (same.1 i) from start);
        first = ap (λ (b : Bool). if b then from else granted_from s lease ns) is;
      })
  granted_here (notices.Refused nr t why) ns true is comes later = absurd (let never : false ≡ true = is in cc)
  granted_here (notices.Message t other pos bytes) ns true is comes later = absurd (let never : None ≡ Some pos = comes in cc)

  pub first_grant : (ns : List Notice) → AreInOrder s lease None ns → HasGrant ns ⊎ All IsBeside ns
  first_grant [] in_order = inr (All-nil IsBeside)
  first_grant (n ∷ ns) in_order =
      granted_here n ns (concerns s lease n) refl in_order.0 (λ none. first_grant ns (subst (λ next. AreInOrder s lease next ns) none in_order.1))

  event_beside : (event : Event) → OnNotice IsBeside event → read_by s lease event ≡ []
  event_beside (events.Message t other pos bytes) beside = ap (λ (b : Bool). if b then pos ∷ [] else []) beside
  event_beside (events.Granted nr t other from start) beside = refl
  event_beside (events.Refused nr t why) beside = refl
  event_beside events.Nothing beside = refl
  event_beside (events.NotYet t pos published) beside = refl
  event_beside (events.Stale t other pos) beside = refl
  event_beside (events.LeaseLost t other seen) beside = refl

  call_beside : (call : Kept) → HandsOn IsBeside call → position_kept s lease call ≡ []
  call_beside (calls.Poll event) beside = event_beside event beside
  call_beside (calls.Send t body answer) beside = refl
  call_beside (calls.Request t from answer) beside = refl
  call_beside (calls.Release t answer) beside = refl
  call_beside (calls.Hand t heir answer) beside = refl
  call_beside calls.Beat beside = refl

  -- where no notice concerns the lease none of its messages is given
  pub none_given : (kept : List Kept) → All (HandsOn IsBeside) kept → positions_kept s lease kept ≡ []
  none_given [] all = refl
  none_given (call ∷ kept) all =
      ap (λ first. first ++ positions_kept s lease kept) (call_beside call (All-head (HandsOn IsBeside) call kept all)) ∙ none_given kept (All-tail (HandsOn IsBeside) call kept all)
