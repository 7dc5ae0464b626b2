-- The lines of a journal of which no lease is active are those that its entries end, one by one.
use Rattle.std.proofs.Common.{◌≡◌, ◌⊎◌, ℕ, ◌^◌, ◌<◌, ◌≤◌, Bool, true, false, cond, ltb, List, [], ◌∷◌, ◌++◌, length, map, fold, Option, Some, None, refl, sym, ap, ◌∙◌, subst, inl, inr, arith, append-nil, append_assoc}
use Rattle.std.specs.Prelude.{option_to_list}
use Rattle.std.specs.Option.{option_or}
use Rattle.std.proofs.lemmas.Bool.{lt-ltb, cases_lt, false≢true}
use Rattle.lease_core.specs.declared.entry.Entry.{Entry}
use Rattle.lease_core.specs.declared.entry.Why.{Why}
use Rattle.lease_core.specs.declared.entry.Why.TheVariants.{OtherOwner}
use Rattle.lease_core.specs.declared.event.Event.{Event}
use Rattle.lease_core.specs.declared.event.Event.TheVariants.{Arrives, AdminSent, Binds, Plans, Leaves, Resets, Requests, Sends, Releases, TimesOut, Holds, Lapses}
use Rattle.lease_core.specs.declared.lease.Ending.{Ending}
use Rattle.lease_core.specs.declared.lease.Ending.TheVariants.{Running, GivenBack, TakenBack}
use Rattle.lease_core.specs.declared.lease.Lease.{Lease}
use Rattle.lease_core.specs.declared.lease.Line.{Line}
use Rattle.lease_core.specs.State.{State, state_of, state_after, opening, with_last, last_or, no_lease, last_lease, owner_in, owner_of, lease_with_send, lease_with_ending}
use Rattle.lease_core.specs.Steps.{step, request_entry, why_owned, why_reserved, why_spent, why_missing, why_refused, CanHappen, IsActive, IsLibrary}
use Rattle.lease_core.specs.Runs.{IsRun, IsRunFrom, IsNext}
use Rattle.lease_core.specs.Kept.{Kept}
use Rattle.lease_core.specs.Lines.{no_line, word_of, line_of, lines_of}
use Rattle.lease_words.specs.Leases.{Each, FitsHeir, is_running, runs}
use Rattle.lease_words.specs.Registries.{IsEndedLine, AreEnded, AreCounted, IsEndedJournal, kept_lines, ended_line, ended_lines}
use Rattle.lease_words.proofs.Shows.{owner_within}
use Rattle.lease_words.proofs.Lines.{last_of_push, running_of_push, with_last_of_push}

-- lists that end in a lease
map_pushed : (front : List Lease) (l : Lease) → map line_of (front ++ l ∷ []) ≡ map line_of front ++ line_of l ∷ []
map_pushed [] l = refl
map_pushed (x ∷ xs) l = ap (λ (ls : List Line). line_of x ∷ ls) (map_pushed xs l)

-- what is known of a line that an entry ended, beside the number of its sends
pub record IsEnd (l : Line) : Type 0 where
  pub ended : runs l.ending ≡ false
  pub whose : IsLibrary l.library
  pub heir : FitsHeir 16 l.library l.ending

-- these lines ended so far, and no lease is active
record Rests (built : List Line) (s : State) : Type 0 where
  pub ends : Each IsEnd built
  pub lines : map line_of s.leases ≡ built
  pub none : owner_of s ≡ 0

-- or one more is
record Runs (built : List Line) (s : State) : Type 0 where
  pub ends : Each IsEnd built
  pub front : List Lease
  pub last : Lease
  pub leases : s.leases ≡ front ++ last ∷ []
  pub lines : map line_of front ≡ built
  pub ran : last.ending ≡ Running
  pub whose : IsLibrary last.library

abbrev IsAt : List Line → State → Type 0
IsAt built s = Rests built s ⊎ Runs built s

owner_by : (e : Ending) (library : ℕ) → e ≡ Running → 1 ≤ library → 0 < owner_in e library
owner_by Running library ran one = one
owner_by (GivenBack heir) library ran one = absurd (let no_end : GivenBack heir ≡ Running = ran in cc)
owner_by TakenBack library ran one = absurd (let no_end : TakenBack ≡ Running = ran in cc)

-- the last lease of a state at which one is active
last_is : (built : List Line) (s : State) (r : Runs built s) → last_lease s.leases ≡ r.last
last_is built s r = ap last_lease r.leases ∙ last_of_push no_lease r.front r.last

runs_owned : (built : List Line) (s : State) → Runs built s → 0 < owner_of s
runs_owned built s r = subst (λ (l : Lease). 0 < owner_in l.ending l.library) (sym (last_is built s r)) (owner_by r.last.ending r.last.library r.ran r.whose.from_one)

-- nothing changes the leases
stays : (built : List Line) (s s' : State) → s'.leases ≡ s.leases → IsAt built s → IsAt (built ++ []) s'
stays built s s' same at = subst (λ (b : List Line). IsAt b s') (sym (append-nil built)) (elim at [
  | inl r ↦ inl (record { ends = r.ends; lines = ap (map line_of) same ∙ r.lines; none = ap (λ (ls : List Lease). owner_in (last_lease ls).ending (last_lease ls).library) same ∙ r.none })
  | inr r ↦ inr (record { ends = r.ends; front = r.front; last = r.last; leases = same ∙ r.leases; lines = r.lines; ran = r.ran; whose = r.whose })
])

-- a grant finds no active lease
none_of : {T : Type 0} (p q : Option T) → option_or p q ≡ None → p ≡ None
none_of None q h = refl
none_of (Some x) q h = absurd cc

not_tested : (b : Bool) (why : Why) → cond b (Some why) None ≡ None → b ≡ false
not_tested true why h = absurd cc
not_tested false why h = refl

free : (limit : ℕ) (s : State) (library from : ℕ) → why_refused limit s library from ≡ None → owner_of s ≡ 0
unfolding why_refused
free limit s library from h =
    let first = none_of (why_owned s) (option_or (why_reserved s.reserved library) (option_or (why_spent limit s) (why_missing s from))) h in
    elim (cases_lt 0 (owner_of s)) [
      | inl some ↦ absurd (false≢true (sym (not_tested (ltb 0 (owner_of s)) (OtherOwner (owner_of s) (Rattle.lease_core.specs.State.lease_of s)) first) ∙ lt-ltb 0 (owner_of s) some))
      | inr none ↦ omega (arith, none)
    ]

requested : (limit : ℕ) (s : State) (built : List Line) (library nr from : ℕ) → IsLibrary library → IsAt built s → (why : Option Why) → why_refused limit s library from ≡ why
    → IsAt (built ++ option_to_list (ended_line (request_entry s library nr from why))) (state_after s (request_entry s library nr from why))
requested limit s built library nr from is at (Some why) refused = stays built s (state_after s (request_entry s library nr from (Some why))) refl at
requested limit s built library nr from is at None granted =
    let none : owner_of s ≡ 0 = free limit s library from granted in
    subst (λ (b : List Line). IsAt b (state_after s (request_entry s library nr from None))) (sym (append-nil built)) (elim at [
      | inl r ↦ inr (record { ends = r.ends; front = s.leases; last = record { library = library; from = from; start = s.inbound; sends = 0; ending = Running }; leases = refl; lines = r.lines; ran = refl; whose = is })
      | inr r ↦ absurd (let some = runs_owned built s r in omega arith)
    ])

each_push : (built : List Line) (l : Line) → Each IsEnd built → IsEnd l → Each IsEnd (built ++ l ∷ [])
each_push [] l all is = (is, tt)
each_push (x ∷ xs) l all is = (all.0, each_push xs l all.1 is)

-- the active lease ends
ends : (built : List Line) (s s' : State) (ending : Ending) (r : Runs built s) → s'.leases ≡ with_last (lease_with_ending ending) s.leases → runs ending ≡ false → FitsHeir 16 (last_lease s.leases).library ending → ((library : ℕ) → owner_in ending library ≡ 0)
    → Rests (built ++ record { library = (last_lease s.leases).library; sends = (last_lease s.leases).sends; ending = ending } ∷ []) s'
ends built s s' ending r after over heir nobody =
    let last = last_is built s r in
    let line : Line = record { library = (last_lease s.leases).library; sends = (last_lease s.leases).sends; ending = ending } in
    let leases : s'.leases ≡ r.front ++ lease_with_ending ending r.last ∷ [] = after ∙ (ap (with_last (lease_with_ending ending)) r.leases ∙ with_last_of_push (lease_with_ending ending) r.front r.last) in
    record {
      ends = each_push built line r.ends (record { ended = over; whose = subst (λ (l : Lease). IsLibrary l.library) (sym last) r.whose; heir = heir });
      lines = ap (map line_of) leases ∙ (map_pushed r.front (lease_with_ending ending r.last) ∙ (λ j. r.lines j ++ record { library = (sym last j).library; sends = (sym last j).sends; ending = ending } ∷ []));
      none = ap (λ (ls : List Lease). owner_in (last_lease ls).ending (last_lease ls).library) leases ∙ (ap (λ (l : Lease). owner_in l.ending l.library) (last_of_push no_lease r.front (lease_with_ending ending r.last)) ∙ nobody r.last.library);
    }

-- what was active at an event that only an active lease has
running : (built : List Line) (s : State) → IsActive s → IsAt built s → Runs built s
running built s active at = elim at [
  | inl r ↦ absurd (let none = r.none in omega arith)
  | inr r ↦ r
]

happens : (limit : ℕ) (s : State) (built : List Line) (event : Event) → CanHappen s event → IsAt built s → IsAt (built ++ option_to_list (ended_line (step limit s event))) (state_after s (step limit s event))
happens limit s built Arrives can at = stays built s (state_after s (step limit s Arrives)) refl at
happens limit s built AdminSent can at = stays built s (state_after s (step limit s AdminSent)) refl at
happens limit s built (Binds c) can at = stays built s (state_after s (step limit s (Binds c))) refl at
happens limit s built (Plans begin last moment) can at = stays built s (state_after s (step limit s (Plans begin last moment))) refl at
happens limit s built (Leaves c) can at = stays built s (state_after s (step limit s (Leaves c))) refl at
happens limit s built Resets can at = stays built s (state_after s (step limit s Resets)) refl at
happens limit s built (Requests library nr from) can at = requested limit s built library nr from can at (why_refused limit s library from) refl
happens limit s built Sends can at =
    let r = running built s can at in
    subst (λ (b : List Line). IsAt b (state_after s (step limit s Sends))) (sym (append-nil built))
    (inr (record { ends = r.ends; front = r.front; last = lease_with_send r.last; leases = ap (with_last lease_with_send) r.leases ∙ with_last_of_push lease_with_send r.front r.last; lines = r.lines; ran = r.ran; whose = r.whose }))
happens limit s built (Releases heir) can at =
    inl (ends built s (state_after s (step limit s (Releases heir))) (GivenBack heir) (running built s can.0 at) refl refl (can.1.to_last, can.1.other) (λ _. refl))
happens limit s built TimesOut can at = inl (ends built s (state_after s (step limit s TimesOut)) TakenBack (running built s can at) refl refl tt (λ _. refl))
happens limit s built (Holds until) can at = stays built s (state_after s (step limit s (Holds until))) refl at
happens limit s built Lapses can at = stays built s (state_after s (step limit s Lapses)) refl at

next : (limit : ℕ) (s : State) (built : List Line) (e : Entry) → IsNext limit s e → IsAt built s → IsAt (built ++ option_to_list (ended_line e)) (state_after s e)
next limit s built e is at = subst (λ (x : Entry). IsAt (built ++ option_to_list (ended_line x)) (state_after s x)) (sym is.is_step.entry) (happens limit s built is.is_step.event is.is_step.can_happen at)

along : (limit : ℕ) (s : State) (built : List Line) (es : List Entry) → IsRunFrom limit s es → IsAt built s → IsAt (built ++ ended_lines es) (fold state_after s es)
along limit s built [] run at = subst (λ (b : List Line). IsAt b s) (sym (append-nil built)) at
along limit s built (e ∷ es) run at =
    subst (λ (b : List Line). IsAt b (fold state_after (state_after s e) es)) (append_assoc built (option_to_list (ended_line e)) (ended_lines es))
    (along limit (state_after s e) (built ++ option_to_list (ended_line e)) es run.1 (next limit s built e run.0 at))

whole : (limit : ℕ) (entries : List Entry) → IsRun limit entries → IsAt (ended_lines entries) (state_of entries)
unfolding state_of IsRun
whole limit entries run = along limit opening [] entries run (inl (record { ends = tt; lines = refl; none = refl }))

each_ended : (lines : List Line) → Each IsEnd lines → AreCounted lines → Each IsEndedLine lines
each_ended [] all counted = tt
each_ended (l ∷ ls) all counted = (record { ended = all.0.ended; known = record { from_one = all.0.whose.from_one; to_last = all.0.whose.to_last; few = counted.0; heir = all.0.heir } }, each_ended ls all.1 counted.1)

ran_runs : (e : Ending) → e ≡ Running → runs e ≡ true
ran_runs Running ran = refl
ran_runs (GivenBack heir) ran = absurd (let no_end : GivenBack heir ≡ Running = ran in cc)
ran_runs TakenBack ran = absurd (let no_end : TakenBack ≡ Running = ran in cc)

-- the lines of a journal of which no lease is active
pub record IsPast (entries : List Entry) : Type 0 where
  pub lines : lines_of entries ≡ ended_lines entries
  pub ended : Each IsEndedLine (ended_lines entries)

pub is_past : (limit : ℕ) (entries : List Entry) → IsRun limit entries → is_running (lines_of entries) ≡ false → AreCounted (ended_lines entries) → IsPast entries
is_past limit entries run none counted = elim (whole limit entries run) [
  | inl r ↦ record { lines = r.lines; ended = each_ended (ended_lines entries) r.ends counted }
  | inr r ↦ absurd
      (let lines : lines_of entries ≡ map line_of r.front ++ line_of r.last ∷ [] = ap (map line_of) r.leases ∙ map_pushed r.front r.last in
      let runs_now : is_running (lines_of entries) ≡ true = ap is_running lines ∙ (running_of_push (map line_of r.front) (line_of r.last) ∙ ran_runs r.last.ending r.ran) in
      false≢true (sym none ∙ runs_now))
]

-- what a table takes from such a journal
last_fits : (d : Line) (lines : List Line) → (d.library ≤ 16) × FitsHeir 16 d.library d.ending → Each IsEndedLine lines → ((last_or d lines).library ≤ 16) × FitsHeir 16 (last_or d lines).library (last_or d lines).ending
last_fits d [] fits all = fits
last_fits d (l ∷ ls) fits all = last_fits l ls (all.0.known.to_last, all.0.known.heir) all.1

pub record IsPastOf (journal : Kept) (lines : List Line) : Type 0 where
  pub lines_are : kept_lines journal ≡ lines
  pub ended : AreEnded lines
  pub owner : (word_of lines).owner ≤ 16

pub is_past_of : (journal : Kept) (lines : List Line) → IsRun journal.leases journal.entries → IsEndedJournal journal → lines ≡ ended_lines journal.entries → AreCounted lines → IsPastOf journal lines
is_past_of journal lines run is are counted =
    let past = is_past journal.leases journal.entries run is.ended (subst AreCounted are counted) in
    let same : kept_lines journal ≡ lines = past.lines ∙ sym are in
    let all : Each IsEndedLine lines = subst (Each IsEndedLine) (sym are) past.ended in
    let fits = last_fits no_line lines (omega arith, tt) all in
    let few : length (kept_lines journal) ≤ 16777215 = is.few in
    record {
      lines_are = same;
      ended = record { few = subst (λ (x : List Line). length x < 2 ^ 24) same (omega arith); ended = all };
      owner = owner_within (last_or no_line lines).ending (last_or no_line lines).library fits.0 fits.1;
    }
