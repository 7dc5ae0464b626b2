-- What the entries of a run say of its leases: whose they are, how they're numbered, and from where on each reads.
use Rattle.std.proofs.Common.{◌≡◌, ℕ, suc, zero, ◌+◌, ◌-◌, ◌<◌, ◌==◌, if◌then◌else◌, Bool, true, false, List, [], ◌∷◌, ◌++◌, length, fold, Option, Some, None, refl, sym, ap, ◌∙◌, subst, arith, append_assoc, append-nil, slice_get, Contains}
use Rattle.std.proofs.lemmas.Bool.{ne_eqb}
use Rattle.std.proofs.lemmas.List.{length_push}
use Rattle.std.proofs.lemmas.Option.{same_Some, none-some}
use Rattle.lease_core.specs.Runs.{IsRun, IsRunFrom}
use Rattle.lease_core.specs.State.{State, state_of, state_after, opening, last_lease, last_or, lease_of, no_lease, with_last, engine_from, holdings_after, holding_with_end, holding_with_send, lease_with_send, lease_with_ending}
use Rattle.lease_core.specs.Steps.{IsLibrary, CanHappen, step, request_entry, why_refused}
use Rattle.lease_core.specs.declared.entry.Entry.{Entry}
use Rattle.lease_core.specs.declared.entry.Entry.TheVariants as entries
use Rattle.lease_core.specs.declared.entry.Holding.{Holding}
use Rattle.lease_core.specs.declared.entry.Why.{Why}
use Rattle.lease_core.specs.declared.event.Event.{Event}
use Rattle.lease_core.specs.declared.event.Event.TheVariants as events
use Rattle.lease_core.specs.declared.lease.Ending.TheVariants.{GivenBack, TakenBack}
use Rattle.lease_core.specs.declared.lease.Lease.{Lease}
use Rattle.journal_audit.specs.Sessions.{reader_of}
use Rattle.journal_audit.specs.declared.session.Reader.{Reader}
use Rattle.journal_audit.specs.declared.session.TheConstants.{LIBRARY_PLACES}
use Rattle.journal_audit.proofs.Told.{readers_of}

-- a lease, as its grant gives it
pub record Grant : Type 0 where
  pub library : ℕ
  pub lease : ℕ
  pub from : ℕ
  pub start : ℕ

abbrev granted_in : Entry → List Grant
granted_in (entries.Granted library nr lease from start) = record { library = library; lease = lease; from = from; start = start } ∷ []
granted_in _ = []

abbrev pub grants_in : List Entry → List Grant
grants_in [] = []
grants_in (e ∷ es) = granted_in e ++ grants_in es

abbrev pub grant_of : Holding → Grant
grant_of h = record { library = h.library; lease = h.lease; from = h.from; start = h.start }

-- the libraries' holdings, as their grants give them
abbrev pub spans : List Holding → List Grant
spans [] = []
spans (h ∷ hs) = if h.library == 0 then spans hs else grant_of h ∷ spans hs

-- What an entry is, behind those that came to a state.

abbrev IsTaken : Entry → Type 0
IsTaken (entries.Granted library nr lease from start) = 0 < library
IsTaken _ = Unit {0}

abbrev IsNumbered : ℕ → Entry → Type 0
IsNumbered n (entries.Granted library nr lease from start) = lease ≡ n + 1
IsNumbered n _ = Unit {0}

abbrev pub IsWithin : ℕ → Entry → Type 0
IsWithin places (entries.Send lease library ordinal number) = library < places
IsWithin places (entries.Release lease library count heir) = library < places
IsWithin places _ = Unit {0}

abbrev AreTaken : List Entry → Type 0
AreTaken [] = Unit {0}
AreTaken (e ∷ es) = IsTaken e × AreTaken es

abbrev pub AreWithin : ℕ → List Entry → Type 0
AreWithin places [] = Unit {0}
AreWithin places (e ∷ es) = IsWithin places e × AreWithin places es

abbrev AreNumbered : ℕ → List Grant → Type 0
AreNumbered n [] = Unit {0}
AreNumbered n (g ∷ gs) = (g.lease ≡ n + 1) × AreNumbered (n + 1) gs

-- the last lease is one of the libraries'
abbrev IsKnown : State → Type 0
IsKnown s = (last_lease s.leases).library < LIBRARY_PLACES

record NextFacts (s : State) (e : Entry) : Type 0 where
  pub taken : IsTaken e
  pub numbered : IsNumbered (lease_of s) e
  pub within : IsWithin LIBRARY_PLACES e
  pub known : IsKnown (state_after s e)
  pub count : lease_of (state_after s e) ≡ lease_of s + length (granted_in e)

-- The last lease.

library_changed : (f : Lease → Lease) → ((l : Lease) → (f l).library ≡ l.library) → (d : Lease) (ls : List Lease) → (last_or d (with_last f ls)).library ≡ (last_or d ls).library
library_changed f same d [] = refl
library_changed f same d (x ∷ []) = same x
library_changed f same d (x ∷ (y ∷ ys)) = library_changed f same x (y ∷ ys)

length_changed : {A : Type 0} (f : A → A) (xs : List A) → length (with_last f xs) ≡ length xs
length_changed f [] = refl
length_changed f (x ∷ []) = refl
length_changed f (x ∷ (y ∷ ys)) = ap suc (length_changed f (y ∷ ys))

last_pushed : (d : Lease) (ls : List Lease) (l : Lease) → last_or d (ls ++ l ∷ []) ≡ l
last_pushed d [] l = refl
last_pushed d (x ∷ xs) l = last_pushed x xs l

still_known : (f : Lease → Lease) (s : State) → ((l : Lease) → (f l).library ≡ l.library) → IsKnown s → (last_lease (with_last f s.leases)).library < LIBRARY_PLACES
still_known f s same known = subst (λ (n : ℕ). n < LIBRARY_PLACES) (sym (library_changed f same no_lease s.leases)) known

none_more : (n : ℕ) → n ≡ n + 0
none_more n = omega arith

same_count : (f : Lease → Lease) (s : State) → length (with_last f s.leases) ≡ lease_of s + 0
same_count f s = length_changed f s.leases ∙ none_more (lease_of s)

request_facts : (s : State) (library nr from : ℕ) (why : Option Why) → IsLibrary library → IsKnown s → NextFacts s (request_entry s library nr from why)
request_facts s library nr from None is known =
    let lease : Lease = record { library = library; from = from; start = s.inbound; sends = 0; ending = no_lease.ending } in
    let first = is.from_one in
    let last = is.to_last in
    let few : library < LIBRARY_PLACES = omega arith in
    record {
      taken = omega arith;
      numbered = refl;
      within = tt;
      known = subst (λ (l : Lease). l.library < LIBRARY_PLACES) (sym (last_pushed no_lease s.leases lease)) few;
      count = length_push s.leases lease;
    }
request_facts s library nr from (Some why) is known = record { taken = tt; numbered = tt; within = tt; known = known; count = none_more (lease_of s) }

event_facts : (limit : ℕ) (s : State) (event : Event) → CanHappen s event → IsKnown s → NextFacts s (step limit s event)
event_facts limit s events.Arrives can known = record { taken = tt; numbered = tt; within = tt; known = known; count = none_more (lease_of s) }
event_facts limit s events.AdminSent can known = record { taken = tt; numbered = tt; within = tt; known = known; count = none_more (lease_of s) }
event_facts limit s (events.Binds c) can known = record { taken = tt; numbered = tt; within = tt; known = known; count = none_more (lease_of s) }
event_facts limit s (events.Plans begin last at) can known = record { taken = tt; numbered = tt; within = tt; known = known; count = none_more (lease_of s) }
event_facts limit s (events.Leaves c) can known = record { taken = tt; numbered = tt; within = tt; known = known; count = none_more (lease_of s) }
event_facts limit s events.Resets can known = record { taken = tt; numbered = tt; within = tt; known = known; count = none_more (lease_of s) }
event_facts limit s (events.Requests library nr from) can known = request_facts s library nr from (why_refused limit s library from) can known
event_facts limit s events.Sends can known = record { taken = tt; numbered = tt; within = known; known = still_known lease_with_send s (λ l. refl) known; count = same_count lease_with_send s }
event_facts limit s (events.Releases heir) can known = record { taken = tt; numbered = tt; within = known; known = still_known (lease_with_ending (GivenBack heir)) s (λ l. refl) known; count = same_count (lease_with_ending (GivenBack heir)) s }
event_facts limit s events.TimesOut can known = record { taken = tt; numbered = tt; within = tt; known = still_known (lease_with_ending TakenBack) s (λ l. refl) known; count = same_count (lease_with_ending TakenBack) s }
event_facts limit s (events.Holds until) can known = record { taken = tt; numbered = tt; within = tt; known = known; count = none_more (lease_of s) }
event_facts limit s events.Lapses can known = record { taken = tt; numbered = tt; within = tt; known = known; count = none_more (lease_of s) }

numbered_on : (n m : ℕ) (gs : List Grant) → m ≡ n + 0 → AreNumbered m gs → AreNumbered n gs
numbered_on n m gs same numbered = subst (λ (k : ℕ). AreNumbered k gs) (same ∙ sym (none_more n)) numbered

numbered_with : (e : Entry) (n m : ℕ) (gs : List Grant) → IsNumbered n e → m ≡ n + length (granted_in e) → AreNumbered m gs → AreNumbered n (granted_in e ++ gs)
numbered_with (entries.Granted library nr lease from start) n m gs here same numbered = (here, subst (λ (k : ℕ). AreNumbered k gs) same numbered)
numbered_with (entries.Arrive pos) n m gs here same numbered = numbered_on n m gs same numbered
numbered_with (entries.Admin number) n m gs here same numbered = numbered_on n m gs same numbered
numbered_with (entries.Bind c) n m gs here same numbered = numbered_on n m gs same numbered
numbered_with (entries.Plan begin last at) n m gs here same numbered = numbered_on n m gs same numbered
numbered_with (entries.Leave c) n m gs here same numbered = numbered_on n m gs same numbered
numbered_with (entries.Reset series) n m gs here same numbered = numbered_on n m gs same numbered
numbered_with (entries.Refused library nr why) n m gs here same numbered = numbered_on n m gs same numbered
numbered_with (entries.Send lease library ordinal number) n m gs here same numbered = numbered_on n m gs same numbered
numbered_with (entries.Release lease library count heir) n m gs here same numbered = numbered_on n m gs same numbered
numbered_with (entries.Timeout lease library count) n m gs here same numbered = numbered_on n m gs same numbered
numbered_with (entries.Hold lease until) n m gs here same numbered = numbered_on n m gs same numbered
numbered_with (entries.Lapse lease) n m gs here same numbered = numbered_on n m gs same numbered

pub record RunFacts (s : State) (es : List Entry) : Type 0 where
  pub taken : AreTaken es
  pub within : AreWithin LIBRARY_PLACES es
  pub numbered : AreNumbered (lease_of s) (grants_in es)

run_facts : (limit : ℕ) (es : List Entry) (s : State) → IsKnown s → IsRunFrom limit s es → RunFacts s es
run_facts limit [] s known run = record { taken = tt; within = tt; numbered = tt }
run_facts limit (e ∷ es) s known run =
    let one = run.0.is_step in
    let facts = subst (λ (x : Entry). NextFacts s x) (sym one.entry) (event_facts limit s one.event one.can_happen known) in
    let later = run_facts limit es (state_after s e) facts.known run.1 in
    record {
      taken = (facts.taken, later.taken);
      within = (facts.within, later.within);
      numbered = numbered_with e (lease_of s) (lease_of (state_after s e)) (grants_in es) facts.numbered facts.count later.numbered;
    }

pub facts_of_run : (limit : ℕ) (es : List Entry) → IsRun limit es → RunFacts opening es
unfolding IsRun
facts_of_run limit es run = run_facts limit es opening (omega arith) run

-- Holdings are the grants.

spans_front : (test : Bool) (x : Grant) (a b c : List Grant) → a ≡ b ++ c → (if test then a else x ∷ a) ≡ (if test then b else x ∷ b) ++ c
spans_front true x a b c same = same
spans_front false x a b c same = ap (λ (gs : List Grant). x ∷ gs) same

spans_pushed : (hs : List Holding) (h : Holding) → spans (hs ++ h ∷ []) ≡ spans hs ++ spans (h ∷ [])
spans_pushed [] h = refl
spans_pushed (x ∷ hs) h = spans_front (x.library == 0) (grant_of x) (spans (hs ++ h ∷ [])) (spans hs) (spans (h ∷ [])) (spans_pushed hs h)

spans_changed : (f : Holding → Holding) → ((h : Holding) → grant_of (f h) ≡ grant_of h) → (hs : List Holding) → spans (with_last f hs) ≡ spans hs
spans_changed f same [] = refl
spans_changed f same (x ∷ []) = ap (λ (g : Grant). if g.library == 0 then [] else g ∷ []) (same x)
spans_changed f same (x ∷ (y ∷ ys)) = ap (λ (gs : List Grant). if x.library == 0 then gs else grant_of x ∷ gs) (spans_changed f same (y ∷ ys))

spans_after : (hs : List Holding) (inbound : ℕ) (e : Entry) → IsTaken e → spans (holdings_after hs inbound e) ≡ spans hs ++ granted_in e
spans_after hs inbound (entries.Arrive pos) taken = spans_changed (holding_with_end (inbound + 1)) (λ h. refl) hs ∙ sym (append-nil (spans hs))
spans_after hs inbound (entries.Granted library nr lease from start) taken =
    let g : Grant = record { library = library; lease = lease; from = from; start = start } in
    spans_pushed hs (record { library = library; lease = lease; from = from; start = start; end = start; sends = 0 })
    ∙ ap (λ (test : Bool). spans hs ++ (if test then [] else g ∷ [])) (ne_eqb library 0 (λ none. omega arith))
spans_after hs inbound (entries.Send lease library ordinal number) taken = spans_changed holding_with_send (λ h. refl) hs ∙ sym (append-nil (spans hs))
spans_after hs inbound (entries.Release lease library count heir) taken = spans_pushed hs (engine_from inbound)
spans_after hs inbound (entries.Timeout lease library count) taken = spans_pushed hs (engine_from inbound)
spans_after hs inbound (entries.Admin number) taken = sym (append-nil (spans hs))
spans_after hs inbound (entries.Bind c) taken = sym (append-nil (spans hs))
spans_after hs inbound (entries.Plan begin last at) taken = sym (append-nil (spans hs))
spans_after hs inbound (entries.Leave c) taken = sym (append-nil (spans hs))
spans_after hs inbound (entries.Reset series) taken = sym (append-nil (spans hs))
spans_after hs inbound (entries.Refused library nr why) taken = sym (append-nil (spans hs))
spans_after hs inbound (entries.Hold lease until) taken = sym (append-nil (spans hs))
spans_after hs inbound (entries.Lapse lease) taken = sym (append-nil (spans hs))

spans_over : (es : List Entry) (s : State) → AreTaken es → spans (fold state_after s es).holdings ≡ spans s.holdings ++ grants_in es
spans_over [] s taken = sym (append-nil (spans s.holdings))
spans_over (e ∷ es) s taken =
    spans_over es (state_after s e) taken.1
    ∙ ap (λ (gs : List Grant). gs ++ grants_in es) (spans_after s.holdings s.inbound e taken.0)
    ∙ append_assoc (spans s.holdings) (granted_in e) (grants_in es)

pub spans_of_run : (es : List Entry) → RunFacts opening es → spans (state_of es).holdings ≡ grants_in es
unfolding state_of
spans_of_run es facts = spans_over es opening facts.taken

-- A grant, by its lease.

pub numbered_at : (gs : List Grant) (n i : ℕ) (g : Grant) → AreNumbered n gs → slice_get gs i ≡ Some g → g.lease ≡ n + i + 1
numbered_at [] n i g numbered at = absurd (none-some g at)
numbered_at (x ∷ gs) n zero g numbered at = (let here = numbered.0 in let same = ap (λ (y : Grant). y.lease) (same_Some x g at) in omega arith)
numbered_at (x ∷ gs) n (suc i) g numbered at = (let later = numbered_at gs (n + 1) i g numbered.1 at in omega arith)

pub record HasGrant (es : List Entry) (g : Grant) : Type 0 where
  pub nr : ℕ
  pub has : Contains es (entries.Granted g.library nr g.lease g.from g.start)

pub contains_here : {A : Type 0} (x : A) (xs : List A) → Contains (x ∷ xs) x
contains_here x xs = (0, omega arith, refl)

pub contains_later : {A : Type 0} (y x : A) (xs : List A) → Contains xs x → Contains (y ∷ xs) x
contains_later y x xs (k, within, is) = (suc k, omega arith, is)

grant_later : (e : Entry) (es : List Entry) (g : Grant) → HasGrant es g → HasGrant (e ∷ es) g
grant_later e es g has = record { nr = has.nr; has = contains_later e (entries.Granted g.library has.nr g.lease g.from g.start) es has.has }

pub grant_entry : (es : List Entry) (i : ℕ) (g : Grant) → slice_get (grants_in es) i ≡ Some g → HasGrant es g
grant_entry [] i g at = absurd (none-some g at)
grant_entry (entries.Granted library nr lease from start ∷ es) zero g at =
    let here = entries.Granted library nr lease from start in
    let same : record { library = library; lease = lease; from = from; start = start } ≡ g = same_Some _ g at in
    record { nr = nr; has = subst (λ (x : Grant). Contains (here ∷ es) (entries.Granted x.library nr x.lease x.from x.start)) same (contains_here here es) }
grant_entry (entries.Granted library nr lease from start ∷ es) (suc i) g at = grant_later (entries.Granted library nr lease from start) es g (grant_entry es i g at)
grant_entry (entries.Arrive pos ∷ es) i g at = grant_later (entries.Arrive pos) es g (grant_entry es i g at)
grant_entry (entries.Admin number ∷ es) i g at = grant_later (entries.Admin number) es g (grant_entry es i g at)
grant_entry (entries.Bind c ∷ es) i g at = grant_later (entries.Bind c) es g (grant_entry es i g at)
grant_entry (entries.Plan begin last moment ∷ es) i g at = grant_later (entries.Plan begin last moment) es g (grant_entry es i g at)
grant_entry (entries.Leave c ∷ es) i g at = grant_later (entries.Leave c) es g (grant_entry es i g at)
grant_entry (entries.Reset series ∷ es) i g at = grant_later (entries.Reset series) es g (grant_entry es i g at)
grant_entry (entries.Refused library nr why ∷ es) i g at = grant_later (entries.Refused library nr why) es g (grant_entry es i g at)
grant_entry (entries.Send lease library ordinal number ∷ es) i g at = grant_later (entries.Send lease library ordinal number) es g (grant_entry es i g at)
grant_entry (entries.Release lease library count heir ∷ es) i g at = grant_later (entries.Release lease library count heir) es g (grant_entry es i g at)
grant_entry (entries.Timeout lease library count ∷ es) i g at = grant_later (entries.Timeout lease library count) es g (grant_entry es i g at)
grant_entry (entries.Hold lease until ∷ es) i g at = grant_later (entries.Hold lease until) es g (grant_entry es i g at)
grant_entry (entries.Lapse lease ∷ es) i g at = grant_later (entries.Lapse lease) es g (grant_entry es i g at)

-- A reader, by its lease.

pub record HasSpanIn (gs : List Grant) (hs : List Holding) (i : ℕ) (r : Reader) : Type 0 where
  pub holding : Holding
  pub held : Contains hs holding
  pub span : slice_get gs i ≡ Some (grant_of holding)
  pub reader : reader_of holding ≡ r

span_front : (test : Bool) (h : Holding) (hs : List Holding) (i : ℕ) (r : Reader) → ((k : ℕ) → slice_get (readers_of hs) k ≡ Some r → HasSpanIn (spans hs) hs k r)
    → slice_get (if test then readers_of hs else reader_of h ∷ readers_of hs) i ≡ Some r → HasSpanIn (if test then spans hs else grant_of h ∷ spans hs) (h ∷ hs) i r
span_front true h hs i r later at = (let one = later i at in record { holding = one.holding; held = contains_later h one.holding hs one.held; span = one.span; reader = one.reader })
span_front false h hs zero r later at = record { holding = h; held = contains_here h hs; span = refl; reader = same_Some (reader_of h) r at }
span_front false h hs (suc i) r later at = (let one = later i at in record { holding = one.holding; held = contains_later h one.holding hs one.held; span = one.span; reader = one.reader })

pub reader_span : (hs : List Holding) (i : ℕ) (r : Reader) → slice_get (readers_of hs) i ≡ Some r → HasSpanIn (spans hs) hs i r
reader_span [] i r at = absurd (none-some r at)
reader_span (h ∷ hs) i r at = span_front (h.library == 0) h hs i r (λ k later. reader_span hs k r later) at
