-- The lease that a library holds, and the word that it keeps of it.
use Rattle.std.proofs.Common.{◌≡◌, ◌≢◌, ℕ, suc, ◌+◌, ◌-◌, ◌*◌, ◌^◌, ◌<◌, ◌≤◌, ◌⊎◌, List, [], ◌∷◌, ◌++◌, length, Bool, true, false, eqb, cond, refl, sym, ap, ◌∙◌, subst, inl, inr, ⊎_elim, arith, eq-eqb, ne_eqb}
use Rattle.std.proofs.lemmas.Option.{slice_get_within}
use Rattle.std.specs.Prelude.{◌==◌, ◌&&◌, nat_lt, if◌then◌else◌}
use Rattle.std.proofs.lemmas.Bool.{and_parts, ltb-true, eqb-true, cond-true, cond-false}
use Rattle.lease_core.specs.declared.lease.Ending.{Ending}
use Rattle.lease_core.specs.declared.lease.Ending.TheVariants.{Running, GivenBack, TakenBack}
use Rattle.lease_core.specs.declared.lease.Line.{Line}
use Rattle.lease_core.specs.declared.word.Standing.{Standing}
use Rattle.lease_core.specs.declared.word.Standing.TheVariants.{Active, Released, Revoked}
use Rattle.lease_core.specs.declared.word.Word.{Word}
use Rattle.lease_core.specs.State.{last_or}
use native.Mathlib.Decide.{ℕ_discrete}
use Rattle.lease_core.specs.Lines.{no_line, word_of, standing_of, shown_owner}
use Rattle.lease_core.specs.Word.{word_in, number_of}
use Rattle.lease_words.specs.declared.view.LibraryLease.{LibraryLease}
use Rattle.lease_words.specs.Leases.{Each, AreLines, Stands, FitsEnding, AllEnded, FirstRuns, AreBelow, EndsLease, held_lease, held_count, held_by, with_first_ending, loss_ending, runs, leases_after_see, new_lease, with_one_send, shows_lease, is_active}
use Rattle.lease_words.specs.Sees.{release_ending}
use Rattle.lease_words.specs.Facts.{Lane, IsLane}
use Rattle.lease_words.specs.Tells.{held_word}
use Rattle.lease_words.proofs.Lines.{word_of_push, word_parts, active_number, length_push, last_is}
use Rattle.lease_words.proofs.Lanes.{held_line, held_stands, shown_runs}

held_none : (e : Ending) (n : ℕ) → runs e ≡ false → held_by e n ≡ 0
held_none Running n ended = absurd (let no : true ≡ false = ended in cc)
held_none (GivenBack heir) n ended = refl
held_none TakenBack n ended = refl

lost_runs : (e : Ending) → runs (loss_ending e) ≡ false
lost_runs Running = refl
lost_runs (GivenBack heir) = refl
lost_runs TakenBack = refl

-- none is held once the first has ended
lease_ended : (f : Ending → Ending) (leases : List LibraryLease) → ((e : Ending) → runs (f e) ≡ false) → held_lease (with_first_ending f leases) ≡ 0
lease_ended f [] ended = refl
lease_ended f (h ∷ hs) ended = held_none (f h.ending) h.lease (ended h.ending)

count_ended : (f : Ending → Ending) (leases : List LibraryLease) → ((e : Ending) → runs (f e) ≡ false) → held_count (with_first_ending f leases) ≡ 0
count_ended f [] ended = refl
count_ended f (h ∷ hs) ended = held_none (f h.ending) h.count (ended h.ending)

pub no_word : (library : ℕ) (leases : List LibraryLease) → held_lease leases ≡ 0 → held_word library leases ≡ 0
no_word library leases none = cond-true (eqb (held_lease leases) 0) 0 (held_lease leases * 2 ^ 40 + library * 2 ^ 34 + held_count leases) (eq-eqb (held_lease leases) 0 none)

pub lost_word : (library : ℕ) (leases : List LibraryLease) → held_word library (with_first_ending loss_ending leases) ≡ 0
lost_word library leases = no_word library (with_first_ending loss_ending leases) (lease_ended loss_ending leases lost_runs)

pub lost_count : (leases : List LibraryLease) → held_count (with_first_ending loss_ending leases) ≡ 0
lost_count leases = count_ended loss_ending leases lost_runs

pub given_word : (library heir : ℕ) (leases : List LibraryLease) → held_word library (with_first_ending (release_ending heir) leases) ≡ 0
given_word library heir leases = no_word library (with_first_ending (release_ending heir) leases) (lease_ended (release_ending heir) leases (λ _. refl))

pub given_count : (heir : ℕ) (leases : List LibraryLease) → held_count (with_first_ending (release_ending heir) leases) ≡ 0
given_count heir leases = count_ended (release_ending heir) leases (λ _. refl)

-- the word of the lease that is held
abbrev pub held_as_word : ℕ → List LibraryLease → Word
held_as_word library leases = record { lease = held_lease leases; owner = library; standing = Active; count = held_count leases }

some_word : (library : ℕ) (leases : List LibraryLease) → 0 < held_lease leases → held_word library leases ≡ held_lease leases * 2 ^ 40 + library * 2 ^ 34 + held_count leases
some_word library leases some = cond-false (eqb (held_lease leases) 0) 0 (held_lease leases * 2 ^ 40 + library * 2 ^ 34 + held_count leases) (ne_eqb (held_lease leases) 0 (λ e. omega arith))

active_sum : (lease owner count : ℕ) → lease * 2 ^ 40 + owner * 2 ^ 34 + count ≡ number_of (record { lease = lease; owner = owner; standing = Active; count = count })
unfolding number_of
active_sum lease owner count = omega arith

pub held_number : (library : ℕ) (leases : List LibraryLease) → 0 < held_lease leases → held_word library leases ≡ number_of (held_as_word library leases)
held_number library leases some = some_word library leases some ∙ active_sum (held_lease leases) library (held_count leases)

-- one send more
counted_held : (e : Ending) (lease count : ℕ) → 0 < held_by e lease → held_by e (count + 1) ≡ held_by e count + 1
counted_held Running lease count some = refl
counted_held (GivenBack heir) lease count some = absurd (omega arith)
counted_held TakenBack lease count some = absurd (omega arith)

pub counted_lease : (leases : List LibraryLease) → held_lease (with_one_send leases) ≡ held_lease leases
counted_lease [] = refl
counted_lease (h ∷ hs) = refl

pub counted_count : (leases : List LibraryLease) → 0 < held_lease leases → held_count (with_one_send leases) ≡ held_count leases + 1
counted_count [] some = absurd (omega arith)
counted_count (h ∷ hs) some = counted_held h.ending h.lease h.count some

pub counted_word : (library : ℕ) (leases : List LibraryLease) → 0 < held_lease leases → held_word library (with_one_send leases) ≡ held_word library leases + 1
counted_word library leases some =
    let lease = counted_lease leases in
    let count = counted_count leases some in
    let old = some_word library leases some in
    let new = some_word library (with_one_send leases) (omega arith) in
    new ∙ (ap (λ (n : ℕ). n * 2 ^ 40 + library * 2 ^ 34 + held_count (with_one_send leases)) lease ∙ (ap (λ (n : ℕ). held_lease leases * 2 ^ 40 + library * 2 ^ 34 + n) count ∙ omega arith))

pub next_number : (lease owner count : ℕ) → number_of (record { lease = lease; owner = owner; standing = Active; count = count }) + 1 ≡ number_of (record { lease = lease; owner = owner; standing = Active; count = count + 1 })
unfolding number_of
next_number lease owner count = omega arith

running_by : (e : Ending) → standing_of e ≡ Active → e ≡ Running
running_by Running active = refl
running_by (GivenBack heir) active = absurd (let no : Released ≡ Active = active in cc)
running_by TakenBack active = absurd (let no : Revoked ≡ Active = active in cc)

active_by : (standing : Standing) → is_active standing ≡ true → standing ≡ Active
active_by Active is = refl
active_by Released is = absurd (let no : false ≡ true = is in cc)
active_by Revoked is = absurd (let no : false ≡ true = is in cc)

-- the last line is that of the lease which is held, and runs
pub record HasLast (lines : List Line) (library : ℕ) (lane : Lane) : Type 0 where
  pub front : List Line
  pub line : Line
  pub lines_are : lines ≡ front ++ line ∷ []
  pub whose : line.library ≡ library
  pub sends : line.sends ≡ held_count lane.leases
  pub ran : line.ending ≡ Running
  pub lease : held_lease lane.leases ≡ suc (length front)

module _ (base libraries depth : ℕ) (lines : List Line) (library : ℕ) (lane : Lane) (are : AreLines base libraries lines) (is : IsLane base depth lines library lane) where
  pub held_few : 0 < held_lease lane.leases → held_count lane.leases < 2 ^ 32
  held_few some =
      let at = held_stands base library lines lane.leases some is.stands in
      let few = (are.known (held_lease lane.leases - 1) at.line at.at).few in
      let same : at.line.sends ≡ held_count lane.leases = at.count in
      omega arith

  pub found_held : (n : ℕ) → 0 < held_lease lane.leases → library < 64 → word_in n ≡ word_of lines → n ≡ held_word library lane.leases → HasLast lines library lane
  found_held n some few word same =
      let reads : word_of lines ≡ held_as_word library lane.leases = sym word ∙ (ap word_in (same ∙ held_number library lane.leases some) ∙ word_parts (held_as_word library lane.leases) few (held_few some)) in
      let size : length lines ≡ held_lease lane.leases = ap (λ (w : Word). w.lease) reads in
      let f = (held_line base libraries depth lines library lane are is some).2 (sym size) in
      let standing : standing_of f.1.ending ≡ Active = ap (λ (w : Word). w.standing) (sym (word_of_push f.0 f.1) ∙ (ap word_of (sym f.2) ∙ reads)) in
      record {
        front = f.0;
        line = f.1;
        lines_are = f.2;
        whose = f.3;
        sends = f.4;
        ran = running_by f.1.ending standing;
        lease = sym size ∙ (ap length f.2 ∙ length_push f.0 f.1);
      }

  by_running : (front : List Line) (x : Line) → x.library ≡ library → x.sends ≡ held_count lane.leases → x.ending ≡ Running → held_lease lane.leases ≡ suc (length front) → word_of (front ++ x ∷ []) ≡ held_as_word library lane.leases
  by_running front x whose sends ran lease =
      word_of_push front x ∙ (λ i. record { lease = sym lease i; owner = owner i; standing = standing_of (ran i); count = sends i })
    where
      owner : shown_owner x.ending x.library ≡ library
      owner = ap (λ (e : Ending). shown_owner e x.library) ran ∙ whose

  by_taken : (front : List Line) (x : Line) → x.ending ≡ TakenBack → word_of (front ++ x ∷ []) ≡ record { lease = suc (length front); owner = x.library; standing = Revoked; count = x.sends }
  by_taken front x taken = word_of_push front x ∙ ap (λ (e : Ending). record { lease = suc (length front); owner = shown_owner e x.library; standing = standing_of e; count = x.sends }) taken

  -- another word was found
  pub found_other : (n : ℕ) → 0 < held_lease lane.leases → word_in n ≡ word_of lines → n ≢ held_word library lane.leases → EndsLease (held_lease lane.leases) (held_count lane.leases) (word_in n)
  found_other n some word other =
      let h = held_line base libraries depth lines library lane are is some in
      subst (λ w. EndsLease (held_lease lane.leases) (held_count lane.leases) w) (sym word) (⊎_elim (λ less. h.0 less) here (below_or_same (held_lease lane.leases) (length lines) h.1))
    where
      below_or_same : (m n : ℕ) → m ≤ n → (m < n) ⊎ (m ≡ n)
      below_or_same m n le = ⊎_elim (λ lt. inl lt) (λ ge. inr (omega arith)) (Rattle.std.proofs.lemmas.Bool.cases_lt m n)

      here : held_lease lane.leases ≡ length lines → EndsLease (held_lease lane.leases) (held_count lane.leases) (word_of lines)
      here size =
          let f = (held_line base libraries depth lines library lane are is some).2 size in
          let lease : held_lease lane.leases ≡ suc (length f.0) = size ∙ (ap length f.2 ∙ length_push f.0 f.1) in
          ⊎_elim
          (λ ran.
          let reads : word_in n ≡ held_as_word library lane.leases = word ∙ (ap word_of f.2 ∙ by_running f.0 f.1 f.3 f.4 ran lease) in
          let active : is_active (word_in n).standing ≡ true = ap (λ (w : Word). is_active w.standing) reads in
          absurd (other (sym (active_number n active) ∙ (ap number_of reads ∙ sym (held_number library lane.leases some)))))
          (λ taken.
          let reads : word_of lines ≡ record { lease = suc (length f.0); owner = f.1.library; standing = Revoked; count = f.1.sends } = ap word_of f.2 ∙ by_taken f.0 f.1 taken in
          inr (sym size, ap (λ (w : Word). w.standing) reads, ap (λ (w : Word). w.count) reads ∙ f.4))
          f.5

-- what a library holds that saw a word
seen_by : (w : Word) (library : ℕ) (leases : List LibraryLease) (b : Bool) → shows_lease library w ≡ b → leases_after_see library w leases ≡ cond b (cond (eqb (held_lease leases) w.lease) leases (new_lease w.lease ∷ with_first_ending loss_ending leases)) (with_first_ending loss_ending leases)
seen_by w library leases b shows = ap (λ (c : Bool). cond c (cond (eqb (held_lease leases) w.lease) leases (new_lease w.lease ∷ with_first_ending loss_ending leases)) (with_first_ending loss_ending leases)) shows

seen_lease : (m : ℕ) (leases : List LibraryLease) (b : Bool) → eqb (held_lease leases) m ≡ b → held_lease (cond b leases (new_lease m ∷ with_first_ending loss_ending leases)) ≡ m
seen_lease m leases true same = eqb-true (held_lease leases) m same
seen_lease m leases false other = refl

seen_few : (m sends : ℕ) (leases : List LibraryLease) (b : Bool) → held_count leases ≤ sends → held_count (cond b leases (new_lease m ∷ with_first_ending loss_ending leases)) ≤ sends
seen_few m sends leases true few = few
seen_few m sends leases false few = omega arith

few_by : (w : Word) (library sends : ℕ) (leases : List LibraryLease) (b : Bool) → shows_lease library w ≡ b → held_count leases ≤ sends → held_count (leases_after_see library w leases) ≤ sends
few_by w library sends leases true shows few = subst (λ hs. held_count hs ≤ sends) (sym (seen_by w library leases true shows)) (seen_few w.lease sends leases (eqb (held_lease leases) w.lease) few)
few_by w library sends leases false shows few = let none = lost_count leases in subst (λ hs. held_count hs ≤ sends) (sym (seen_by w library leases false shows)) (omega arith)

pub seen_count : (w : Word) (library sends : ℕ) (leases : List LibraryLease) → held_count leases ≤ sends → held_count (leases_after_see library w leases) ≤ sends
seen_count w library sends leases few = few_by w library sends leases (shows_lease library w) refl few

module _ (base libraries depth : ℕ) (lines : List Line) (library : ℕ) (leases : List LibraryLease) (lane : Lane) (are : AreLines base libraries lines) (is : IsLane base depth lines library lane) (n : ℕ) (word : word_in n ≡ word_of lines) (seen : lane.leases ≡ leases_after_see library (word_in n) leases) where
  shown_count : held_lease lane.leases ≡ (word_in n).lease → 0 < held_lease lane.leases → held_count lane.leases ≡ (word_in n).count
  shown_count lease held =
      let f = (held_line base libraries depth lines library lane are is held).2 (lease ∙ ap (λ (v : Word). v.lease) word) in
      sym f.4 ∙ ap (λ (v : Word). v.count) (sym (word ∙ (ap word_of f.2 ∙ word_of_push f.0 f.1)))

  shown_word : 0 < (word_in n).lease → (word_in n).owner ≡ library → is_active (word_in n).standing ≡ true → held_lease lane.leases ≡ (word_in n).lease → held_word library lane.leases ≡ n
  shown_word above own active lease =
      let held : 0 < held_lease lane.leases = omega arith in
      let count = shown_count lease held in
      let reads : held_as_word library lane.leases ≡ word_in n = λ i. record { lease = lease i; owner = sym own i; standing = sym (active_by (word_in n).standing active) i; count = count i } in
      held_number library lane.leases held ∙ (ap number_of reads ∙ active_number n active)

  word_by_test : (b : Bool) → shows_lease library (word_in n) ≡ b → held_word library (leases_after_see library (word_in n) leases) ≡ cond b n 0
  word_by_test false shows = ap (held_word library) (seen_by (word_in n) library leases false shows) ∙ lost_word library leases
  word_by_test true shows =
      let p = and_parts (nat_lt 0 (word_in n).lease && is_active (word_in n).standing) ((word_in n).owner == library) shows in
      let r = and_parts (nat_lt 0 (word_in n).lease) (is_active (word_in n).standing) p.0 in
      ap (held_word library) (sym seen) ∙ shown_word (ltb-true 0 (word_in n).lease r.0) (eqb-true (word_in n).owner library p.1) r.1
      (ap held_lease (seen ∙ seen_by (word_in n) library leases true shows) ∙ seen_lease (word_in n).lease leases (eqb (held_lease leases) (word_in n).lease) refl)

  pub seen_word : held_word library (leases_after_see library (word_in n) leases) ≡ (if shows_lease library (word_in n) then n else 0)
  seen_word = word_by_test (shows_lease library (word_in n)) refl

-- A lease that a word shows to be this library's, and that it doesn't hold, is above all its leases.
still_running : (e : Ending) → FitsEnding e Running → e ≡ Running
still_running Running fits = refl
still_running (GivenBack heir) fits = absurd (let no : Running ≡ GivenBack heir = fits in cc)
still_running TakenBack fits = absurd (let no : Running ≡ TakenBack = fits in cc)

module _ (base library : ℕ) (lines : List Line) (shows : shows_lease library (word_of lines) ≡ true) where
  lease_below : (h : LibraryLease) → (h.ending ≡ Running → h.lease ≢ length lines) → Stands base lines library h → h.lease < length lines
  lease_below h free stands =
      let within : h.lease - 1 < length lines = slice_get_within lines (h.lease - 1) stands.line stands.at in
      let above : base < h.lease = stands.above in
      elim (ℕ_discrete h.lease (length lines)) [
        | yes same ↦
            let last : last_or no_line lines ≡ stands.line = last_is no_line lines stands.line (h.lease - 1) stands.at (omega arith) in
            let ran : (last_or no_line lines).ending ≡ Running = (shown_runs (last_or no_line lines).ending (length lines) (last_or no_line lines).library library shows).1 in
            let e : stands.line.ending ≡ Running = sym (ap (λ (l : Line). l.ending) last) ∙ ran in
            absurd (free (still_running h.ending (subst (FitsEnding h.ending) e stands.ending)) same)
        | no other ↦ omega (arith, other)
      ]

  rest_below : (hs : List LibraryLease) → AllEnded hs → Each (Stands base lines library) hs → AreBelow (length lines) hs
  rest_below [] ended stand = tt
  rest_below (h ∷ hs) ended stand = (lease_below h (λ ran same. not_running h.ending ended.0 ran) stand.0, rest_below hs ended.1 stand.1)
    where
      not_running : (e : Ending) → runs e ≡ false → e ≡ Running → ⊥
      not_running Running ended is = cc
      not_running (GivenBack heir) ended is = cc
      not_running TakenBack ended is = cc

  pub all_below : (leases : List LibraryLease) → held_lease leases ≢ length lines → FirstRuns leases → Each (Stands base lines library) leases → AreBelow (length lines) leases
  all_below [] other latest stand = tt
  all_below (h ∷ hs) other latest stand = (lease_below h (λ ran same. other (ap (λ (e : Ending). held_by e h.lease) ran ∙ same)) stand.0, rest_below hs latest stand.1)
