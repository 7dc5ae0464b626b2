-- What holds behind every lawful journal.
use Rattle.std.proofs.Common.{◌≡◌, ◌≢◌, ℕ, ◌+◌, ◌<◌, ◌≤◌, inl, inr, Bool, true, false, cond, eqb, ltb, List, [], ◌∷◌, ◌++◌, length, Option, Some, None, refl, sym, ap, ◌∙◌, subst, arith}
use Rattle.std.specs.Option.{option_or}
use Rattle.std.proofs.lemmas.List.{length_push}
use Rattle.std.proofs.lemmas.Bool.{eq-eqb, lt-ltb, cases_lt, false≢true}
use Rattle.lease_core.specs.declared.entry.Entry.{Entry}
use Rattle.lease_core.specs.declared.entry.Why.{Why}
use Rattle.lease_core.specs.declared.entry.Why.TheVariants.{OtherOwner, LeasesSpent}
use Rattle.lease_core.specs.declared.entry.Holding.{Holding}
use Rattle.lease_core.specs.declared.lease.Ending.{Ending}
use Rattle.lease_core.specs.declared.lease.Ending.TheVariants.{Running, GivenBack, TakenBack}
use Rattle.lease_core.specs.declared.lease.Lease.{Lease}
use Rattle.lease_core.specs.State.{State, state_after, opening, with_last, last_or, lease_with_send, lease_with_ending, one_more, holding_with_end, holding_with_send, engine_from, no_lease, last_lease, owner_in, owner_of, lease_of}
use Rattle.lease_core.specs.declared.event.Event.{Event}
use Rattle.lease_core.specs.declared.event.Event.TheVariants.{Arrives, AdminSent, Binds, Plans, Leaves, Resets, Requests, Sends, Releases, TimesOut, Holds, Lapses}
use Rattle.lease_core.specs.Steps.{step, request_entry, why_owned, why_reserved, why_spent, why_missing, why_refused, CanHappen, IsActive, IsLibrary}
use Rattle.lease_core.specs.Runs.{IsNext}
use Rattle.lease_core.specs.Holdings.{AreAdjoining}
use Rattle.lease_core.specs.Laws.{OnlyLastRuns}
use Rattle.lease_core.proofs.Lasts.{last_or_push, length-with_last, last_or-with_last}
use Rattle.lease_core.proofs.Spans.{adjoin_grow, adjoin_count, adjoin_push}

-- the last span is the present owner's
pub record IsHeldBy (leases : List Lease) (h : Holding) : Type 0 where
  pub library : h.library ≡ owner_in (last_lease leases).ending (last_lease leases).library
  pub sends : 0 < owner_in (last_lease leases).ending (last_lease leases).library → h.sends ≡ (last_lease leases).sends

pub record Lawful (limit : ℕ) (s : State) : Type 0 where
  pub adjoining : AreAdjoining s.holdings s.inbound
  pub held : IsHeldBy s.leases (last_or (engine_from 0) s.holdings)
  pub one_runs : OnlyLastRuns s.leases
  pub few : length s.leases ≤ limit
  pub named : 0 < length s.leases → IsLibrary (last_lease s.leases).library
  pub numbered : 0 < length s.series
  pub begun : 0 < length s.holdings

pub first_lawful : (limit : ℕ) → Lawful limit opening
first_lawful limit = record {
  adjoining = (record { starts = refl; forward = omega arith; turn = refl }, refl);
  held = record { library = refl; sends = λ h. absurd (omega arith) };
  one_runs = tt;
  few = omega arith;
  named = λ h. absurd (omega arith);
  numbered = omega arith;
  begun = omega arith;
}

-- a library's lease is among the leases
pub some_lease : (leases : List Lease) → 0 < owner_in (last_lease leases).ending (last_lease leases).library → 0 < length leases
some_lease [] h = absurd (omega arith)
some_lease (l ∷ ls) h = omega arith

pub owner_running : (ending : Ending) (library : ℕ) → 0 < owner_in ending library → ending ≡ Running
owner_running Running library h = refl
owner_running (GivenBack heir) library h = absurd (omega arith)
owner_running TakenBack library h = absurd (omega arith)

running_owner : (ending : Ending) (library : ℕ) → owner_in ending library ≡ 0 → 0 < library → ending ≡ Running → ⊥
running_owner Running library none some is = omega arith
running_owner (GivenBack heir) library none some is = cc
running_owner TakenBack library none some is = cc

only_with_last : (f : Lease → Lease) (leases : List Lease) → OnlyLastRuns leases → OnlyLastRuns (with_last f leases)
only_with_last f [] o = tt
only_with_last f (l ∷ []) o = (inl refl, tt)
only_with_last f (l ∷ k ∷ ks) o = (inr (elim o.0 [ inl none ↦ absurd (omega (arith, ap length none)) | inr ended ↦ ended ]), only_with_last f (k ∷ ks) o.1)

only_push : (leases : List Lease) (d l : Lease) → OnlyLastRuns leases → (0 < length leases → (last_or d leases).ending ≡ Running → ⊥) → OnlyLastRuns (leases ++ l ∷ [])
only_push [] d l o ended = (inl refl, tt)
only_push (k ∷ []) d l o ended = (inr (ended (omega arith)), (inl refl, tt))
only_push (k ∷ j ∷ js) d l o ended = (inr (elim o.0 [ inl none ↦ absurd (omega (arith, ap length none)) | inr over ↦ over ]), only_push (j ∷ js) k l o.1 (λ _. ended (omega arith)))

-- the entry changes neither leases nor holdings nor the inbound log
keeps : (limit : ℕ) (s : State) (series : List ℕ) (reserved : Option (ℕ × ℕ)) (bound : Option ℕ) (latest : Option Entry) → 0 < length series → Lawful limit s → Lawful limit (record { leases = s.leases; holdings = s.holdings; inbound = s.inbound; series = series; reserved = reserved; bound = bound; latest = latest })
keeps limit s series reserved bound latest some l = record { adjoining = l.adjoining; held = l.held; one_runs = l.one_runs; few = l.few; named = l.named; numbered = some; begun = l.begun }

arrives : (limit : ℕ) (s : State) → Lawful limit s → Lawful limit (state_after s (step limit s Arrives))
arrives limit s l =
    let last = last_or-with_last (holding_with_end (s.inbound + 1)) (engine_from 0) s.holdings l.begun in record {
      adjoining = adjoin_grow s.holdings s.inbound (s.inbound + 1) (omega arith) l.adjoining;
      held = record { library = ap (λ h. h.library) last ∙ l.held.library; sends = λ active. ap (λ h. h.sends) last ∙ l.held.sends active };
      one_runs = l.one_runs;
      few = l.few;
      named = l.named;
      numbered = l.numbered;
      begun = omega (arith, length-with_last (holding_with_end (s.inbound + 1)) s.holdings, l.begun);
    }

sends : (limit : ℕ) (s : State) → IsActive s → Lawful limit s → Lawful limit (state_after s (step limit s Sends))
sends limit s active l =
    let some = some_lease s.leases active in
    let last = last_or-with_last holding_with_send (engine_from 0) s.holdings l.begun in
    let lease = last_or-with_last lease_with_send no_lease s.leases some in record {
      adjoining = adjoin_count s.holdings s.inbound l.adjoining;
      held = record { library = ap (λ h. h.library) last ∙ l.held.library ∙ ap (λ k. owner_in k.ending k.library) (sym lease); sends = λ _. ap (λ h. h.sends) last ∙ ap (λ n. n + 1) (l.held.sends active) ∙ ap (λ k. k.sends) (sym lease) };
      one_runs = only_with_last lease_with_send s.leases l.one_runs;
      few = omega (arith, length-with_last lease_with_send s.leases, l.few);
      named = λ _. subst (λ k. IsLibrary k.library) (sym lease) (l.named some);
      numbered = omega (arith, length-with_last one_more s.series, l.numbered);
      begun = omega (arith, length-with_last holding_with_send s.holdings, l.begun);
    }

ends : (limit : ℕ) (s : State) (ending : Ending) (reserved : Option (ℕ × ℕ)) (latest : Option Entry) → owner_in ending (last_lease s.leases).library ≡ 0 → IsActive s → Lawful limit s → Lawful limit (record { leases = with_last (lease_with_ending ending) s.leases; holdings = s.holdings ++ engine_from s.inbound ∷ []; inbound = s.inbound; series = s.series; reserved = reserved; bound = s.bound; latest = latest })
ends limit s ending reserved latest over active l =
    let some = some_lease s.leases active in
    let last = last_or_push (engine_from 0) s.holdings (engine_from s.inbound) in
    let lease = last_or-with_last (lease_with_ending ending) no_lease s.leases some in
    let free = ap (λ k. owner_in k.ending k.library) lease ∙ over in record {
      adjoining = adjoin_push s.holdings (engine_from 0) s.inbound (engine_from s.inbound) refl (omega arith) (record { from_engine = λ none. absurd (omega (arith, l.held.library)); from_library = λ _. refl }) l.adjoining;
      held = record { library = ap (λ h. h.library) last ∙ sym free; sends = λ now. absurd (omega (arith, free, now)) };
      one_runs = only_with_last (lease_with_ending ending) s.leases l.one_runs;
      few = omega (arith, length-with_last (lease_with_ending ending) s.leases, l.few);
      named = λ _. subst (λ k. IsLibrary k.library) (sym lease) (l.named some);
      numbered = l.numbered;
      begun = omega (arith, length_push s.holdings (engine_from s.inbound));
    }

-- what was tested before a grant
pub record IsFree (limit : ℕ) (s : State) : Type 0 where
  pub none : owner_of s ≡ 0
  pub left : lease_of s ≢ limit

none_of : {T : Type 0} (p q : Option T) → option_or p q ≡ None → (p ≡ None) × (q ≡ None)
none_of None q h = (refl, h)
none_of (Some x) q h = absurd cc

test_none : (b : Bool) (why : Why) → cond b (Some why) None ≡ None → b ≡ false
test_none true why h = absurd cc
test_none false why h = refl

pub granted_free : (limit : ℕ) (s : State) (library from : ℕ) → why_refused limit s library from ≡ None → IsFree limit s
unfolding why_refused
granted_free limit s library from h =
    let first = none_of (why_owned s) (option_or (why_reserved s.reserved library) (option_or (why_spent limit s) (why_missing s from))) h in
    let second = none_of (why_reserved s.reserved library) (option_or (why_spent limit s) (why_missing s from)) first.1 in
    let third = none_of (why_spent limit s) (why_missing s from) second.1 in record {
      none = elim (cases_lt 0 (owner_of s)) [
        | inl some ↦ absurd (false≢true (sym (test_none (ltb 0 (owner_of s)) (OtherOwner (owner_of s) (lease_of s)) first.0) ∙ lt-ltb 0 (owner_of s) some))
        | inr none ↦ omega (arith, none)
      ];
      left = λ same. false≢true (sym (test_none (eqb (lease_of s) limit) (LeasesSpent (lease_of s)) third.0) ∙ eq-eqb (lease_of s) limit same);
    }

grants : (limit : ℕ) (s : State) (library nr from : ℕ) (latest : Option Entry) → IsLibrary library → IsFree limit s → Lawful limit s → Lawful limit (record {
  leases = s.leases ++ record { library = library; from = from; start = s.inbound; sends = 0; ending = Running } ∷ [];
  holdings = s.holdings ++ record { library = library; lease = lease_of s + 1; from = from; start = s.inbound; end = s.inbound; sends = 0 } ∷ [];
  inbound = s.inbound;
  series = s.series;
  reserved = None;
  bound = s.bound;
  latest = latest;
})
grants limit s library nr from latest is free l =
    let new_lease : Lease = record { library = library; from = from; start = s.inbound; sends = 0; ending = Running } in
    let new_span : Holding = record { library = library; lease = lease_of s + 1; from = from; start = s.inbound; end = s.inbound; sends = 0 } in
    let lease = last_or_push no_lease s.leases new_lease in
    let last = last_or_push (engine_from 0) s.holdings new_span in record {
      adjoining = adjoin_push s.holdings (engine_from 0) s.inbound new_span refl (omega arith) (record { from_engine = λ _. omega (arith, is.from_one); from_library = λ some. absurd (omega (arith, l.held.library, free.none, some)) }) l.adjoining;
      held = record { library = ap (λ h. h.library) last ∙ ap (λ k. owner_in k.ending k.library) (sym lease); sends = λ _. ap (λ h. h.sends) last ∙ ap (λ k. k.sends) (sym lease) };
      one_runs = only_push s.leases no_lease new_lease l.one_runs (λ some. running_owner _ _ free.none (omega (arith, (l.named some).from_one)));
      few = let other = free.left in omega (arith, length_push s.leases new_lease, l.few, other);
      named = λ _. subst (λ k. IsLibrary k.library) (sym lease) is;
      numbered = l.numbered;
      begun = omega (arith, length_push s.holdings new_span);
    }

requests : (limit : ℕ) (s : State) (library nr from : ℕ) → IsLibrary library → Lawful limit s → (why : Option Why) → why_refused limit s library from ≡ why → Lawful limit (state_after s (request_entry s library nr from why))
requests limit s library nr from is l None h = grants limit s library nr from _ is (granted_free limit s library from h) l
requests limit s library nr from is l (Some why) h = keeps limit s s.series s.reserved s.bound _ l.numbered l

happens : (limit : ℕ) (s : State) (event : Event) → CanHappen s event → Lawful limit s → Lawful limit (state_after s (step limit s event))
happens limit s Arrives can l = arrives limit s l
happens limit s AdminSent can l = keeps limit s _ s.reserved s.bound _ (omega (arith, length-with_last one_more s.series, l.numbered)) l
happens limit s (Binds c) can l = keeps limit s s.series s.reserved (Some c) _ l.numbered l
happens limit s (Plans begin last at) can l = keeps limit s s.series s.reserved s.bound _ l.numbered l
happens limit s (Leaves c) can l = keeps limit s s.series s.reserved None _ l.numbered l
happens limit s Resets can l = keeps limit s _ s.reserved s.bound _ (omega (arith, length_push s.series 0)) l
happens limit s (Requests library nr from) can l = requests limit s library nr from can l (why_refused limit s library from) refl
happens limit s Sends can l = sends limit s can l
happens limit s (Releases heir) can l = ends limit s (GivenBack heir) s.reserved _ refl can.0 l
happens limit s TimesOut can l = ends limit s TakenBack s.reserved _ refl can l
happens limit s (Holds until) can l = keeps limit s s.series _ s.bound _ l.numbered l
happens limit s Lapses can l = keeps limit s s.series None s.bound _ l.numbered l

pub lawful_next : (limit : ℕ) (s : State) (e : Entry) → Lawful limit s → IsNext limit s e → Lawful limit (state_after s e)
lawful_next limit s e l next = subst (λ x. Lawful limit (state_after s x)) (sym next.is_step.entry) (happens limit s next.is_step.event next.is_step.can_happen l)
