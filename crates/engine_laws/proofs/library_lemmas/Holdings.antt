-- The holdings of a lawful journal as it goes on: each of a library stays below whose end something lies, and the last one is the present owner's.
use Rattle.std.proofs.Common.{◌≡◌, ℕ, zero, suc, ◌+◌, ◌<◌, ◌≤◌, Bool, true, not, List, [], ◌∷◌, ◌++◌, length, Option, None, Some, refl, sym, ap, subst, ◌∙◌, arith}
use Rattle.std.proofs.lemmas.List.{append-nil, append_assoc, length_push}
use Rattle.std.proofs.lemmas.List.Elements.{All-cons, All-contains, All-nil, Contains-append_left}
use Rattle.std.specs.List.{All, Contains}
use Rattle.std.specs.Prelude.{fold}
use Rattle.lease_core.specs.Holdings.{Adjoin, AreAdjoining, holdings_of}
use Rattle.lease_core.specs.Laws.{EntriesDecide, HoldingsAdjoin, RunsGoOnOver}
use Rattle.lease_core.specs.Runs.{IsRun, IsRunFrom, IsStep}
use Rattle.lease_core.specs.State.{State, engine_from, holding_with_end, holding_with_send, holdings_after, last_lease, last_or, lease_of, lease_with_ending, lease_with_send, no_lease, opening, owner_in, owner_of, state_after, state_of, with_last}
use Rattle.lease_core.specs.Steps.{request_entry, step, why_refused}
use Rattle.lease_core.specs.declared.entry.Entry.{Entry}
use Rattle.lease_core.specs.declared.entry.Entry.TheVariants.{Admin, Arrive, Bind, Granted, Hold, Lapse, Leave, Plan, Refused, Release, Reset, Send, Timeout}
use Rattle.lease_core.specs.declared.entry.Holding.{Holding}
use Rattle.lease_core.specs.declared.entry.Why.{Why}
use Rattle.lease_core.specs.declared.event.Event.{Event}
use Rattle.lease_core.specs.declared.event.Event.TheVariants.{AdminSent, Arrives, Binds, Holds, Lapses, Leaves, Plans, Releases, Requests, Resets, Sends, TimesOut}
use Rattle.lease_core.specs.declared.lease.Ending.{Ending}
use Rattle.lease_core.specs.declared.lease.Ending.TheVariants.{GivenBack, TakenBack}
use Rattle.lease_core.specs.declared.lease.Lease.{Lease}
use Rattle.engine_laws.specs.libraries.Spans.{IsBelowEnd}

-- it ends within a log of this length
abbrev EndsBy : ℕ → Holding → Type 0
EndsBy end h = h.end ≤ end

goes_forward : (start : ℕ) (engine : Bool) (hs : List Holding) (end : ℕ) → Adjoin start engine hs end → start ≤ end
goes_forward start engine [] end is = omega arith
goes_forward start engine (h ∷ hs) end is = (let rest = goes_forward h.end (not engine) hs end is.1 in let forward = is.0.forward in let starts = is.0.starts in omega arith)

each_within : (start : ℕ) (engine : Bool) (hs : List Holding) (end : ℕ) → Adjoin start engine hs end → All (EndsBy end) hs
each_within start engine [] end is = All-nil (EndsBy end)
each_within start engine (h ∷ hs) end is = All-cons (EndsBy end) h hs (goes_forward h.end (not engine) hs end is.1) (each_within h.end (not engine) hs end is.1)

all_within : (hs : List Holding) (end : ℕ) → AreAdjoining hs end → All (EndsBy end) hs
all_within [] end is = absurd is
all_within (h ∷ hs) end is = each_within 0 true (h ∷ hs) end is

-- the last one is one of them, and ends where they do
last_ends : (start : ℕ) (engine : Bool) (d h : Holding) (hs : List Holding) (end : ℕ) → Adjoin start engine (h ∷ hs) end → (last_or d (h ∷ hs)).end ≡ end
last_ends start engine d h [] end is = is.1
last_ends start engine d h (k ∷ ks) end is = last_ends h.end (not engine) h k ks end is.1

last_there : {T : Type 0} (d x : T) (xs : List T) → Contains (x ∷ xs) (last_or d (x ∷ xs))
last_there d x [] = (0, omega arith, refl)
last_there d x (y ∷ ys) = (let rest = last_there x y ys in (suc rest.0, omega arith, rest.2))

last_held : (d : Holding) (hs : List Holding) (end : ℕ) → AreAdjoining hs end → Contains hs (last_or d hs) × ((last_or d hs).end ≡ end)
last_held d [] end is = absurd is
last_held d (h ∷ hs) end is = (last_there d h hs, last_ends 0 true d h hs end is)

-- what the last of a list is once that is changed, or one more is put behind it
last_as : {T A : Type 0} (g : T → A) (f : T → T) → ((x : T) → g (f x) ≡ g x) → (d : T) (xs : List T) → g (last_or d (with_last f xs)) ≡ g (last_or d xs)
last_as g f same d [] = refl
last_as g f same d (x ∷ []) = same x
last_as g f same d (x ∷ y ∷ ys) = last_as g f same x (y ∷ ys)

last_pushed : {T : Type 0} (d : T) (xs : List T) (x : T) → last_or d (xs ++ x ∷ []) ≡ x
last_pushed d [] x = refl
last_pushed d (y ∷ ys) x = last_pushed y ys x

long_changed : {T : Type 0} (f : T → T) (xs : List T) → length (with_last f xs) ≡ length xs
long_changed f [] = refl
long_changed f (x ∷ []) = refl
long_changed f (x ∷ y ∷ ys) = ap (λ n. suc n) (long_changed f (y ∷ ys))

-- what is so of one of a list is so of what becomes of it as the last one changes
in_changed : {T : Type 0} (P : T → Type 0) (f : T → T) (xs : List T) → ((x : T) → Contains xs x → P x → P (f x)) → (x : T) → Contains xs x → P x → (y : T) × (Contains (with_last f xs) y × P y)
in_changed P f [] stays x has is = absurd (let none = has.1 in omega arith)
in_changed P f (z ∷ []) stays x (zero, within, same) is = (f z, ((0, omega arith, refl), stays z (0, omega arith, refl) (subst P (sym same) is)))
in_changed P f (z ∷ []) stays x (suc i, within, same) is = absurd (omega arith)
in_changed P f (z ∷ w ∷ ws) stays x (zero, within, same) is = (z, ((0, omega arith, refl), subst P (sym same) is))
in_changed P f (z ∷ w ∷ ws) stays x (suc i, within, same) is =
    let rest = in_changed P f (w ∷ ws) (λ y has. stays y (suc has.0, (let small = has.1 in omega arith), has.2)) x (i, omega arith, same) is in
    let there = rest.1.0 in
    (rest.0, ((suc there.0, (let small = there.1 in omega arith), there.2), rest.1.1))

-- the library holds it by the lease, and the position lies below its end
abbrev IsOf : ℕ → ℕ → ℕ → Holding → Type 0
IsOf library lease pos h = (h.library ≡ library) × ((h.lease ≡ lease) × (pos < h.end))

module _ (library lease pos inbound : ℕ) (hs : List Holding) (ends : All (EndsBy inbound) hs) (h : Holding) (has : Contains hs h) (is : IsOf library lease pos h) where
  stays_one : (e : Entry) → (k : Holding) × (Contains (holdings_after hs inbound e) k × IsOf library lease pos k)
  stays_one (Arrive at) =
      in_changed (IsOf library lease pos) (holding_with_end (inbound + 1)) hs
      (λ k there of. (of.0, (of.1.0, (let by : k.end ≤ inbound = All-contains (EndsBy inbound) hs k ends there in let below = of.1.1 in omega arith)))) h has is
  stays_one (Send l p ordinal number) = in_changed (IsOf library lease pos) holding_with_send hs (λ k there of. (of.0, (of.1.0, of.1.1))) h has is
  stays_one (Granted p nr l from start) = (h, (Contains-append_left hs (record { library = p; lease = l; from = from; start = start; end = start; sends = 0 } ∷ []) h has, is))
  stays_one (Release l p count heir) = (h, (Contains-append_left hs (engine_from inbound ∷ []) h has, is))
  stays_one (Timeout l p count) = (h, (Contains-append_left hs (engine_from inbound ∷ []) h has, is))
  stays_one (Admin number) = (h, (has, is))
  stays_one (Bind c) = (h, (has, is))
  stays_one (Plan begin last at) = (h, (has, is))
  stays_one (Leave c) = (h, (has, is))
  stays_one (Reset series) = (h, (has, is))
  stays_one (Refused p nr why) = (h, (has, is))
  stays_one (Hold l until) = (h, (has, is))
  stays_one (Lapse l) = (h, (has, is))

-- the last holding is the present owner's, by the last lease
record IsOwners (st : State) : Type 0 where
  library_is : (last_or (engine_from 0) st.holdings).library ≡ owner_of st
  lease_is : 0 < owner_of st → (last_or (engine_from 0) st.holdings).lease ≡ lease_of st

-- a request is granted by the next lease
by_why : (st : State) (why : Option Why) (p n f library nr lease from start : ℕ) → Granted library nr lease from start ≡ request_entry st p n f why → (library ≡ p) × (lease ≡ lease_of st + 1)
by_why st None p n f library nr lease from start is = (cc, cc)
by_why st (Some why) p n f library nr lease from start is = absurd cc

next_lease : (limit : ℕ) (st : State) (event : Event) (library nr lease from start : ℕ) → Granted library nr lease from start ≡ step limit st event → lease ≡ lease_of st + 1
next_lease limit st (Requests p n f) library nr lease from start is = (by_why st (why_refused limit st p f) p n f library nr lease from start is).1
next_lease limit st Arrives library nr lease from start is = absurd cc
next_lease limit st AdminSent library nr lease from start is = absurd cc
next_lease limit st (Binds c) library nr lease from start is = absurd cc
next_lease limit st (Plans begin last at) library nr lease from start is = absurd cc
next_lease limit st (Leaves c) library nr lease from start is = absurd cc
next_lease limit st Resets library nr lease from start is = absurd cc
next_lease limit st Sends library nr lease from start is = absurd cc
next_lease limit st (Releases heir) library nr lease from start is = absurd cc
next_lease limit st TimesOut library nr lease from start is = absurd cc
next_lease limit st (Holds until) library nr lease from start is = absurd cc
next_lease limit st Lapses library nr lease from start is = absurd cc

-- nobody has a session whose last lease has ended
none_owns : (ending : Ending) → ((library : ℕ) → owner_in ending library ≡ 0) → (d l : Lease) (ls : List Lease)
    → owner_in (last_or d (with_last (lease_with_ending ending) (l ∷ ls))).ending (last_or d (with_last (lease_with_ending ending) (l ∷ ls))).library ≡ 0
none_owns ending none d l [] = none l.library
none_owns ending none d l (k ∷ ks) = none_owns ending none l k ks

ended_owner : (ending : Ending) → ((library : ℕ) → owner_in ending library ≡ 0) → (leases : List Lease) → owner_in (last_lease (with_last (lease_with_ending ending) leases)).ending (last_lease (with_last (lease_with_ending ending) leases)).library ≡ 0
ended_owner ending none [] = refl
ended_owner ending none (l ∷ ls) = none_owns ending none no_lease l ls

-- the engine has what a lease that ended leaves
engine_owns : (st : State) (leases : List Lease) (e : Entry) → (state_after st e).leases ≡ leases → (state_after st e).holdings ≡ st.holdings ++ engine_from st.inbound ∷ [] → owner_in (last_lease leases).ending (last_lease leases).library ≡ 0 → IsOwners (state_after st e)
engine_owns st leases e leases_are holdings_are none =
    let nobody : owner_of (state_after st e) ≡ 0 = ap (λ (ls : List Lease). owner_in (last_lease ls).ending (last_lease ls).library) leases_are ∙ none in
    let last : (last_or (engine_from 0) (state_after st e).holdings).library ≡ 0 =
    ap (λ (hs : List Holding). (last_or (engine_from 0) hs).library) holdings_are ∙ ap (λ (h : Holding). h.library) (last_pushed (engine_from 0) st.holdings (engine_from st.inbound)) in
    record { library_is = last ∙ sym nobody; lease_is = λ some. absurd (omega arith) }

owners_one : (limit : ℕ) (st : State) (e : Entry) → IsStep limit st e → IsOwners st → IsOwners (state_after st e)
owners_one limit st (Arrive pos) is was = record {
  library_is = last_as (λ (h : Holding). h.library) (holding_with_end (st.inbound + 1)) (λ h. refl) (engine_from 0) st.holdings ∙ was.library_is;
  lease_is = λ some. last_as (λ (h : Holding). h.lease) (holding_with_end (st.inbound + 1)) (λ h. refl) (engine_from 0) st.holdings ∙ was.lease_is some;
}
owners_one limit st (Send l p ordinal number) is was =
    let owner : owner_of (state_after st (Send l p ordinal number)) ≡ owner_of st = last_as (λ (x : Lease). owner_in x.ending x.library) lease_with_send (λ x. refl) no_lease st.leases in
    record {
      library_is = last_as (λ (h : Holding). h.library) holding_with_send (λ h. refl) (engine_from 0) st.holdings ∙ was.library_is ∙ sym owner;
      lease_is = λ some. last_as (λ (h : Holding). h.lease) holding_with_send (λ h. refl) (engine_from 0) st.holdings ∙ was.lease_is (subst (λ n. 0 < n) owner some) ∙ sym (long_changed lease_with_send st.leases);
    }
owners_one limit st (Granted p nr l from start) is was =
    let given : Lease = record { library = p; from = from; start = start; sends = 0; ending = Rattle.lease_core.specs.declared.lease.Ending.TheVariants.Running } in
    let holds : Holding = record { library = p; lease = l; from = from; start = start; end = start; sends = 0 } in
    let last = last_pushed (engine_from 0) st.holdings holds in
    let next : l ≡ lease_of st + 1 = next_lease limit st is.event p nr l from start is.entry in
    record {
      library_is = ap (λ (h : Holding). h.library) last ∙ sym (ap (λ (x : Lease). owner_in x.ending x.library) (last_pushed no_lease st.leases given));
      lease_is = λ some. ap (λ (h : Holding). h.lease) last ∙ next ∙ sym (length_push st.leases given);
    }
owners_one limit st (Release l p count heir) is was =
    engine_owns st (with_last (lease_with_ending (GivenBack heir)) st.leases) (Release l p count heir) refl refl (ended_owner (GivenBack heir) (λ library. refl) st.leases)
owners_one limit st (Timeout l p count) is was =
    engine_owns st (with_last (lease_with_ending TakenBack) st.leases) (Timeout l p count) refl refl (ended_owner TakenBack (λ library. refl) st.leases)
owners_one limit st (Admin number) is was = record { library_is = was.library_is; lease_is = was.lease_is }
owners_one limit st (Bind c) is was = record { library_is = was.library_is; lease_is = was.lease_is }
owners_one limit st (Plan begin last at) is was = record { library_is = was.library_is; lease_is = was.lease_is }
owners_one limit st (Leave c) is was = record { library_is = was.library_is; lease_is = was.lease_is }
owners_one limit st (Reset series) is was = record { library_is = was.library_is; lease_is = was.lease_is }
owners_one limit st (Refused p nr why) is was = record { library_is = was.library_is; lease_is = was.lease_is }
owners_one limit st (Hold l until) is was = record { library_is = was.library_is; lease_is = was.lease_is }
owners_one limit st (Lapse l) is was = record { library_is = was.library_is; lease_is = was.lease_is }

owners_over : (limit : ℕ) (es : List Entry) (st : State) → IsRunFrom limit st es → IsOwners st → IsOwners (fold state_after st es)
owners_over limit [] st run is = is
owners_over limit (e ∷ es) st run is = owners_over limit es (state_after st e) run.1 (owners_one limit st e run.0.is_step is)

owners_of : (limit : ℕ) (entries : List Entry) → IsRun limit entries → IsOwners (state_of entries)
unfolding state_of IsRun
owners_of limit entries run = owners_over limit entries opening run (record { library_is = refl; lease_is = λ some. absurd (omega arith) })

-- what the laws of journals say
pub record JournalLaws : Type 0 where
  pub adjoin : HoldingsAdjoin
  pub one : EntriesDecide
  pub runs : RunsGoOnOver

module _ (laws : JournalLaws) (limit : ℕ) where
  -- with one entry more
  below_one : (library lease pos : ℕ) (entries : List Entry) (e : Entry) → IsRun limit entries → IsBelowEnd entries library lease pos → IsBelowEnd (entries ++ e ∷ []) library lease pos
  below_one library lease pos entries e run is =
      let st = state_of entries in
      let there = stays_one library lease pos st.inbound st.holdings (all_within st.holdings st.inbound (laws.adjoin limit entries run)) is.holding is.held (is.library_is, (is.lease_is, is.below)) e in
      let holdings : holdings_of (entries ++ e ∷ []) ≡ holdings_after st.holdings st.inbound e = ap (λ (s : State). s.holdings) (laws.one entries e) in
      record {
        holding = there.0;
        held = subst (λ (hs : List Holding). Contains hs there.0) (sym holdings) there.1.0;
        library_is = there.1.1.0;
        lease_is = there.1.1.1.0;
        below = there.1.1.1.1;
      }

  -- and with a list of entries more
  pub below_further : (library lease pos : ℕ) (entries more : List Entry) → IsRun limit (entries ++ more) → IsBelowEnd entries library lease pos → IsBelowEnd (entries ++ more) library lease pos
  below_further library lease pos entries [] run is = subst (λ es. IsBelowEnd es library lease pos) (sym (append-nil entries)) is
  below_further library lease pos entries (e ∷ more) run is =
      let apart : (entries ++ e ∷ []) ++ more ≡ entries ++ (e ∷ more) = append_assoc entries (e ∷ []) more in
      let first : IsRun limit entries = ((laws.runs limit entries (e ∷ more)).0 run).0 in
      subst (λ es. IsBelowEnd es library lease pos) apart (below_further library lease pos (entries ++ e ∷ []) more (subst (IsRun limit) (sym apart) run) (below_one library lease pos entries e first is))

  -- a library that has a session holds its whole log so far by the last lease
  pub owned_below : (entries : List Entry) (library pos : ℕ) → IsRun limit entries → owner_of (state_of entries) ≡ library → 1 ≤ library → pos < (state_of entries).inbound → IsBelowEnd entries library (lease_of (state_of entries)) pos
  owned_below entries library pos run owned from_one below =
      let st = state_of entries in
      let owners = owners_of limit entries run in
      let last = last_held (engine_from 0) st.holdings st.inbound (laws.adjoin limit entries run) in
      record {
        holding = last_or (engine_from 0) st.holdings;
        held = last.0;
        library_is = owners.library_is ∙ owned;
        lease_is = owners.lease_is (omega arith);
        below = (let ends = last.1 in omega arith);
      }
