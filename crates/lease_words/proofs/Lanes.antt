-- What the steps of a session do to each lane.
use Rattle.std.proofs.Common.{◌≡◌, ◌≢◌, ℕ, zero, suc, ◌+◌, ◌-◌, ◌<◌, ◌≤◌, ◌⊎◌, List, [], ◌∷◌, ◌++◌, length, Bool, true, false, refl, sym, ap, ◌∙◌, subst, inl, inr, ⊎_elim, arith}
use Rattle.std.proofs.lemmas.Option.{slice_get_within}
use Rattle.std.specs.Prelude.{slice_get, Some, ◌&&◌, ◌==◌, nat_lt, if◌then◌else◌}
use Rattle.std.proofs.lemmas.List.{length-append}
use Rattle.std.proofs.lemmas.Bool.{and_parts, ltb-true, eqb-true}
use Rattle.std.proofs.lemmas.Bool.Decides.{nat_tests}
use Rattle.lease_core.specs.declared.lease.Ending.{Ending}
use Rattle.lease_core.specs.declared.lease.Ending.TheVariants.{Running, GivenBack, TakenBack}
use Rattle.lease_core.specs.declared.lease.Line.{Line}
use Rattle.lease_core.specs.declared.word.Standing.TheVariants.{Revoked}
use Rattle.lease_core.specs.Lines.{word_of, no_line, standing_of, shown_owner}
use Rattle.lease_core.specs.State.{last_or}
use Rattle.lease_words.specs.declared.item.Item.{Item}
use Rattle.lease_words.specs.declared.view.LibraryLease.{LibraryLease}
use Rattle.lease_words.specs.Leases.{Each, Stands, OthersRest, FirstRuns, AreLines, held_lease, held_count, leases_after_see, with_one_send, with_first_ending, loss_ending, total, EndsLease, new_lease, shows_lease, is_active, FitsEnding, held_by, IsKept, AllEnded, runs}
use Rattle.lease_words.specs.Views.{granted_lines}
use Rattle.lease_core.specs.Lines.{granted_line}
use Rattle.lease_words.specs.Sees.{release_ending}
use Rattle.lease_words.specs.Facts.{Lane, IsLane}
use Rattle.lease_words.proofs.Lists.{each_two}
use Rattle.lease_words.proofs.Lines.{GoesOn, as_front, get_push, get_push_before, get_push_here, granted_push, total_push, running_above}

each_map : {A : Type 0} (P Q : A → Type 0) (xs : List A) → ((x : A) → P x → Q x) → Each P xs → Each Q xs
each_map P Q [] f all = tt
each_map P Q (x ∷ xs) f all = (f x all.0, each_map P Q xs f all.1)

-- a lease stands in one line more
pub stands_push : (base : ℕ) (lines : List Line) (z : Line) (library : ℕ) (h : LibraryLease) → Stands base lines library h → Stands base (lines ++ z ∷ []) library h
stands_push base lines z library h s = record { above = s.above; line = s.line; at = get_push_before lines z s.line (h.lease - 1) s.at; whose = s.whose; count = s.count; ending = s.ending }

pub total_one_more : (base : ℕ) (front : List Line) (x : Line) (library : ℕ) → base ≤ length front → total library (granted_lines base (front ++ x ∷ [])) ≡ total library (granted_lines base front) + total library (x ∷ [])
total_one_more base front x library low = ap (total library) (granted_push base front x low) ∙ total_push library (granted_lines base front) x

count_none : (n library : ℕ) → if◌then◌else◌ {A = ℕ} (n == library) 0 0 ≡ 0
count_none n library = grind (arith, nat_tests)

not_both : (n owner library : ℕ) → 0 < n → owner ≡ library → (nat_lt 0 n && true && (owner == library)) ≡ false → ⊥
not_both n owner library some whose shows = grind (arith, nat_tests)

eqb_other : (n m : ℕ) → (n == m) ≡ false → n ≢ m
eqb_other n m test = λ e. let h : n ≡ m = e in grind (arith, nat_tests)

count_own : (n library sends : ℕ) → n ≡ library → (if n == library then sends else 0) ≡ sends
count_own n library sends e = grind (arith, nat_tests)

count_other : (n library sends : ℕ) → n ≢ library → (if n == library then sends else 0) ≡ 0
count_other n library sends e = grind (arith, nat_tests)

-- a line without sends counts for no library
none_sent : (library : ℕ) (to : ℕ) → total library (granted_line to ∷ []) ≡ 0
none_sent library to = let e = count_none to library in omega arith

-- the count of a line of this library, and of a line of another
sent_own : (library : ℕ) (x : Line) → x.library ≡ library → total library (x ∷ []) ≡ x.sends
sent_own library x whose = let e = count_own x.library library x.sends whose in omega arith

sent_other : (library : ℕ) (x : Line) → x.library ≢ library → total library (x ∷ []) ≡ 0
sent_other library x other = let e = count_other x.library library x.sends other in omega arith

sent_alike : (library : ℕ) (x y : Line) → y.library ≡ x.library → (x.library ≢ library) ⊎ (y.sends ≡ x.sends) → total library (y ∷ []) ≡ total library (x ∷ [])
sent_alike library x y whose (inl other) = sent_other library y (λ e. other (sym whose ∙ e)) ∙ sym (sent_other library x other)
sent_alike library x y whose (inr same) = rw (whose, same) refl

fits_running : (e f : Ending) → f ≡ Running → FitsEnding e f → e ≡ Running
fits_running Running f ran fits = refl
fits_running (GivenBack heir) f ran fits = absurd (cc)
fits_running TakenBack f ran fits = absurd (cc)

fits_taken : (e f : Ending) → e ≡ Running → f ≡ TakenBack → FitsEnding e f
fits_taken Running f ran taken = inr taken
fits_taken (GivenBack heir) f ran taken = absurd (cc)
fits_taken TakenBack f ran taken = absurd (cc)

fits_run : (e f : Ending) → e ≡ Running → f ≡ Running → FitsEnding e f
fits_run Running f ran run = inl run
fits_run (GivenBack heir) f ran run = absurd (cc)
fits_run TakenBack f ran run = absurd (cc)

kept_taken : (e : Ending) → e ≡ TakenBack → IsKept e
kept_taken e taken = subst IsKept (sym taken) tt

-- where the last line changes, a lease of another line stands on
pub stands_beside : (base library : ℕ) (front : List Line) (x y : Line) (h : LibraryLease) (s : Stands base (front ++ x ∷ []) library h)
    → ((h.lease - 1 ≡ length front) × (s.line ≡ x) → Stands base (front ++ y ∷ []) library h) → Stands base (front ++ y ∷ []) library h
stands_beside base library front x y h s last = ⊎_elim last
    (λ before. record { above = s.above; line = s.line; at = get_push_before front y s.line (h.lease - 1) before.1; whose = s.whose; count = s.count; ending = s.ending })
    (get_push front x s.line (h.lease - 1) s.at)

at_last : (front : List Line) (y : Line) (n : ℕ) → n ≡ length front → slice_get (front ++ y ∷ []) n ≡ Some y
at_last front y n e = rw (e) (get_push_here front y)

stands_on : (base library : ℕ) (front : List Line) (x y : Line) (h : LibraryLease) → GoesOn x y → (x.library ≢ library) ⊎ ((y.sends ≡ x.sends) × (y.ending ≡ TakenBack)) → Stands base (front ++ x ∷ []) library h → Stands base (front ++ y ∷ []) library h
stands_on base library front x y h on (inl other) s = stands_beside base library front x y h s (λ last. absurd (other (sym (ap (λ (l : Line). l.library) last.1) ∙ s.whose)))
stands_on base library front x y h on (inr same) s = stands_beside base library front x y h s (λ last. record {
  above = s.above;
  line = y;
  at = at_last front y (h.lease - 1) last.0;
  whose = on.whose ∙ (sym (ap (λ (l : Line). l.library) last.1) ∙ s.whose);
  count = same.0 ∙ (sym (ap (λ (l : Line). l.sends) last.1) ∙ s.count);
  ending = fits_taken h.ending y.ending (fits_running h.ending s.line.ending (ap (λ (l : Line). l.ending) last.1 ∙ on.ran) s.ending) same.1;
})

rest_last : (base library : ℕ) (front : List Line) (x y : Line) (leases : List LibraryLease) → GoesOn x y → (x.library ≢ library) ⊎ ((y.sends ≡ x.sends) × (y.ending ≡ TakenBack)) → OthersRest base (front ++ x ∷ []) library leases
    → (k : ℕ) → k ≡ length front → base ≤ k → y.library ≡ library → Each (λ (h : LibraryLease). h.lease ≢ suc k) leases → (y.sends ≡ 0) × IsKept y.ending
rest_last base library front x y leases on (inl other) others k here above whose apart = absurd (other (sym on.whose ∙ whose))
rest_last base library front x y leases on (inr same) others k here above whose apart =
    let old = others k x (at_last front x k here) above (sym on.whose ∙ whose) apart in
    (same.0 ∙ old.0, kept_taken y.ending same.1)

-- a lease that is held runs
held_runs : (e : Ending) (n m : ℕ) → held_by e n ≡ suc m → (e ≡ Running) × (n ≡ suc m)
held_runs Running n m held = (refl, held)
held_runs (GivenBack heir) n m held = absurd (omega arith)
held_runs TakenBack n m held = absurd (omega arith)

-- the last line isn't that of an ended lease
ended_elsewhere : (e f : Ending) → runs e ≡ false → f ≡ Running → FitsEnding e f → ⊥
ended_elsewhere Running f ended ran fits = cc
ended_elsewhere (GivenBack heir) f ended ran fits = cc
ended_elsewhere TakenBack f ended ran fits = cc

line_here : (front : List Line) (x l : Line) (k : ℕ) → k ≡ length front → slice_get (front ++ x ∷ []) k ≡ Some l → l ≡ x
line_here front x l k here at = ⊎_elim (λ last. last.1) (λ before. absurd (let low : k < length front = before.0 in omega arith)) (get_push front x l k at)

-- The last line, which ran, changes, and so does the first lease, whose line it is.
module _ (base library : ℕ) (front : List Line) (x y : Line) (ran : x.ending ≡ Running) (same : y.library ≡ x.library) where
  ended_stays : (h : LibraryLease) → Stands base (front ++ x ∷ []) library h → runs h.ending ≡ false → Stands base (front ++ y ∷ []) library h
  ended_stays h s ended = stands_beside base library front x y h s (λ last. absurd (ended_elsewhere h.ending s.line.ending ended (ap (λ (l : Line). l.ending) last.1 ∙ ran) s.ending))

  first_moves : (h : LibraryLease) (count : ℕ) (ending : Ending) → h.lease ≡ suc (length front) → Stands base (front ++ x ∷ []) library h → (x.sends ≡ h.count → y.sends ≡ count) → FitsEnding ending y.ending
      → Stands base (front ++ y ∷ []) library record { lease = h.lease; count = count; ending = ending }
  first_moves h count ending held s counts fits =
      let here : h.lease - 1 ≡ length front = omega arith in
      let is : s.line ≡ x = line_here front x s.line (h.lease - 1) here s.at in
      record {
        above = s.above;
        line = y;
        at = at_last front y (h.lease - 1) here;
        whose = same ∙ (sym (ap (λ (l : Line). l.library) is) ∙ s.whose);
        count = counts (sym (ap (λ (l : Line). l.sends) is) ∙ s.count);
        ending = fits;
      }

  others_move : (h h' : LibraryLease) (hs : List LibraryLease) → h.lease ≡ suc (length front) → h'.lease ≡ h.lease → OthersRest base (front ++ x ∷ []) library (h ∷ hs) → OthersRest base (front ++ y ∷ []) library (h' ∷ hs)
  others_move h h' hs held also others k l at above whose apart = ⊎_elim
      (λ last. absurd (apart.0 (also ∙ (held ∙ ap (λ n. suc n) (sym last.0)))))
      (λ before. others k l (get_push_before front x l k before.1) above whose ((λ e. apart.0 (also ∙ e)), apart.1))
      (get_push front y l k at)

  all_move : (h' : LibraryLease) (hs : List LibraryLease) → Stands base (front ++ y ∷ []) library h' → Each (Stands base (front ++ x ∷ []) library) hs → AllEnded hs → Each (Stands base (front ++ y ∷ []) library) (h' ∷ hs)
  all_move h' hs first all ended = (first, each_two (Stands base (front ++ x ∷ []) library) (λ (g : LibraryLease). runs g.ending ≡ false) (Stands base (front ++ y ∷ []) library) hs ended_stays all ended)

  sent_stands : (leases : List LibraryLease) → y.ending ≡ Running → y.sends ≡ x.sends + 1 → held_lease leases ≡ suc (length front) → Each (Stands base (front ++ x ∷ []) library) leases → FirstRuns leases → Each (Stands base (front ++ y ∷ []) library) (with_one_send leases)
  sent_stands [] runs more held all latest = tt
  sent_stands (h ∷ hs) runs more held all latest =
      let it = held_runs h.ending h.lease (length front) held in
      let h' : LibraryLease = record { lease = h.lease; count = h.count + 1; ending = h.ending } in
      all_move h' hs (first_moves h (h.count + 1) h.ending it.1 all.0 (λ e. more ∙ ap (λ n. n + 1) e) (fits_run h.ending y.ending it.0 runs)) all.1 latest

  sent_others : (leases : List LibraryLease) → held_lease leases ≡ suc (length front) → OthersRest base (front ++ x ∷ []) library leases → OthersRest base (front ++ y ∷ []) library (with_one_send leases)
  sent_others [] held others = absurd (omega arith)
  sent_others (h ∷ hs) held others = others_move h record { lease = h.lease; count = h.count + 1; ending = h.ending } hs (held_runs h.ending h.lease (length front) held).1 refl others

  given_stands : (leases : List LibraryLease) (heir : ℕ) → y.ending ≡ GivenBack heir → y.sends ≡ x.sends → held_lease leases ≡ suc (length front) → Each (Stands base (front ++ x ∷ []) library) leases → FirstRuns leases → Each (Stands base (front ++ y ∷ []) library) (with_first_ending (release_ending heir) leases)
  given_stands [] heir given more held all latest = tt
  given_stands (h ∷ hs) heir given more held all latest =
      let it = held_runs h.ending h.lease (length front) held in
      let h' : LibraryLease = record { lease = h.lease; count = h.count; ending = GivenBack heir } in
      all_move h' hs (first_moves h h.count (GivenBack heir) it.1 all.0 (λ e. more ∙ e) given) all.1 latest

  given_others : (leases : List LibraryLease) (heir : ℕ) → held_lease leases ≡ suc (length front) → OthersRest base (front ++ x ∷ []) library leases → OthersRest base (front ++ y ∷ []) library (with_first_ending (release_ending heir) leases)
  given_others [] heir held others = absurd (omega arith)
  given_others (h ∷ hs) heir held others = others_move h record { lease = h.lease; count = h.count; ending = GivenBack heir } hs (held_runs h.ending h.lease (length front) held).1 refl others

counted_latest : (leases : List LibraryLease) → FirstRuns leases → FirstRuns (with_one_send leases)
counted_latest [] latest = latest
counted_latest (h ∷ hs) latest = latest

ended_latest : (f : Ending → Ending) (leases : List LibraryLease) → FirstRuns leases → FirstRuns (with_first_ending f leases)
ended_latest f [] latest = latest
ended_latest f (h ∷ hs) latest = latest

-- the place of the last line
pub place_of_last : (d : Line) (lines : List Line) (k : ℕ) → suc k ≡ length lines → slice_get lines k ≡ Some (last_or d lines)
place_of_last d [] k e = absurd (omega arith)
place_of_last d (x ∷ []) zero e = refl
place_of_last d (x ∷ []) (suc k) e = absurd (omega arith)
place_of_last d (x ∷ y ∷ ys) zero e = absurd (omega arith)
place_of_last d (x ∷ y ∷ ys) (suc k) e = place_of_last x (y ∷ ys) k (omega arith)

one_line : (lines : List Line) (l m : Line) (k : ℕ) → slice_get lines k ≡ Some l → slice_get lines k ≡ Some m → l ≡ m
one_line lines l m k at also = cc

below_or_last : (k m : ℕ) → k < m → (suc k < m) ⊎ (suc k ≡ m)
below_or_last k zero h = absurd (omega arith)
below_or_last zero (suc zero) h = inr refl
below_or_last zero (suc (suc m)) h = inl (omega arith)
below_or_last (suc k) (suc m) h = ⊎_elim (λ (less : suc k < m). inl (omega arith)) (λ (same : suc k ≡ m). inr (ap (λ n. suc n) same)) (below_or_last k m (omega arith))

below_or_above : (k m : ℕ) → (k < m) ⊎ (m ≤ k)
below_or_above k zero = inr (omega arith)
below_or_above zero (suc m) = inl (omega arith)
below_or_above (suc k) (suc m) = ⊎_elim (λ (less : k < m). inl (omega arith)) (λ (more : m ≤ k). inr (omega arith)) (below_or_above k m)

revoked_ended : (e : Ending) → standing_of e ≡ Revoked → runs e ≡ false
revoked_ended Running revoked = cc
revoked_ended (GivenBack heir) revoked = refl
revoked_ended TakenBack revoked = refl

running_runs : (e : Ending) → e ≡ Running → runs e ≡ false → ⊥
running_runs Running ran ended = cc
running_runs (GivenBack heir) ran ended = cc
running_runs TakenBack ran ended = cc

lost_ended : (e : Ending) → runs (loss_ending e) ≡ false
lost_ended Running = refl
lost_ended (GivenBack heir) = refl
lost_ended TakenBack = refl

held_where : (e : Ending) (n : ℕ) → e ≡ Running → held_by e n ≡ n
held_where Running n ran = refl
held_where (GivenBack heir) n ran = cc
held_where TakenBack n ran = cc

-- what a word shows of the last line, and what it doesn't
pub shown_runs : (e : Ending) (n owner library : ℕ) → (nat_lt 0 n && is_active (standing_of e) && (shown_owner e owner == library)) ≡ true → (0 < n) × (e ≡ Running) × (owner ≡ library)
shown_runs Running n owner library shows =
    let p = and_parts (nat_lt 0 n && true) (owner == library) shows in
    let q = and_parts (nat_lt 0 n) true p.0 in
    (ltb-true 0 n q.0, refl, eqb-true owner library p.1)
shown_runs (GivenBack heir) n owner library shows =
    let p = and_parts (nat_lt 0 n && false) (shown_owner (GivenBack heir) owner == library) shows in
    let q = and_parts (nat_lt 0 n) false p.0 in
    absurd (let e = q.1 in cc)
shown_runs TakenBack n owner library shows =
    let p = and_parts (nat_lt 0 n && false) (owner == library) shows in
    let q = and_parts (nat_lt 0 n) false p.0 in
    absurd (let e = q.1 in cc)

pub not_shown : (e : Ending) (n owner library : ℕ) → 0 < n → owner ≡ library → (nat_lt 0 n && is_active (standing_of e) && (shown_owner e owner == library)) ≡ false → runs e ≡ false
not_shown Running n owner library some whose shows = absurd (not_both n owner library some whose shows)
not_shown (GivenBack heir) n owner library some whose shows = refl
not_shown TakenBack n owner library some whose shows = refl

-- The library's first lease, and what it loses.
module _ (base library : ℕ) (lines : List Line) where
  held_as : (e : Ending) (n count : ℕ) → 0 < held_by e n → Stands base lines library record { lease = n; count = count; ending = e } → Stands base lines library record { lease = held_by e n; count = held_by e count; ending = Running }
  held_as Running n count some s = s
  held_as (GivenBack heir) n count some s = absurd (omega arith)
  held_as TakenBack n count some s = absurd (omega arith)

  pub held_stands : (leases : List LibraryLease) → 0 < held_lease leases → Each (Stands base lines library) leases → Stands base lines library record { lease = held_lease leases; count = held_count leases; ending = Running }
  held_stands [] some all = absurd (omega arith)
  held_stands (h ∷ hs) some all = held_as h.ending h.lease h.count some all.0

  -- the line of the lease with this number, if it is held, has ended
  abbrev Ends : ℕ → Type 0
  Ends n = 0 < n → (l : Line) → slice_get lines (n - 1) ≡ Some l → l.library ≡ library → runs l.ending ≡ false

  lost_as : (e : Ending) (n count : ℕ) → Ends (held_by e n) → Stands base lines library record { lease = n; count = count; ending = e } → Stands base lines library record { lease = n; count = count; ending = loss_ending e }
  lost_as Running n count ends s =
      let above : base < n = s.above in
      let ended = ends (omega arith) s.line s.at s.whose in
      record {
        above = s.above;
        line = s.line;
        at = s.at;
        whose = s.whose;
        count = s.count;
        ending = ⊎_elim (λ ran. absurd (running_runs s.line.ending ran ended)) (λ taken. taken) s.ending;
      }
  lost_as (GivenBack heir) n count ends s = s
  lost_as TakenBack n count ends s = s

  lost_stands : (leases : List LibraryLease) → Ends (held_lease leases) → Each (Stands base lines library) leases → Each (Stands base lines library) (with_first_ending loss_ending leases)
  lost_stands [] ends all = tt
  lost_stands (h ∷ hs) ends all = (lost_as h.ending h.lease h.count ends all.0, all.1)

  lost_others : (leases : List LibraryLease) → OthersRest base lines library leases → OthersRest base lines library (with_first_ending loss_ending leases)
  lost_others [] others = others
  lost_others (h ∷ hs) others = others

  lost_lane : (depth : ℕ) (lane : Lane) → Ends (held_lease lane.leases) → IsLane base depth lines library lane
      → IsLane base depth lines library record { leases = with_first_ending loss_ending lane.leases; items = lane.items; taken = lane.taken; filling = lane.filling; emptying = lane.emptying }
  lost_lane depth lane ends is = record {
    stands = lost_stands lane.leases ends is.stands;
    latest = ended_latest loss_ending lane.leases is.latest;
    others = lost_others lane.leases is.others;
    all = is.all;
    behind = is.behind;
    within = is.within;
  }

ended_all : (leases : List LibraryLease) → FirstRuns leases → AllEnded (with_first_ending loss_ending leases)
ended_all [] latest = tt
ended_all (h ∷ hs) latest = (lost_ended h.ending, latest)

-- The last line is this library's, and runs, at the place k.
module _ (base library : ℕ) (lines : List Line) (x : Line) (k : ℕ) (ran : x.ending ≡ Running) (at : slice_get lines k ≡ Some x) where
  -- a lease of that line runs
  runs_there : (h : LibraryLease) → Stands base lines library h → h.lease ≡ suc k → h.ending ≡ Running
  runs_there h s e =
      let place : h.lease - 1 ≡ k = omega arith in
      let same : s.line ≡ x = one_line lines s.line x k (subst (λ n. slice_get lines n ≡ Some s.line) place s.at) at in
      fits_running h.ending s.line.ending (ap (λ (l : Line). l.ending) same ∙ ran) s.ending

  none_there : (leases : List LibraryLease) → held_lease leases ≢ suc k → FirstRuns leases → Each (Stands base lines library) leases → Each (λ (h : LibraryLease). h.lease ≢ suc k) leases
  none_there [] other latest all = tt
  none_there (h ∷ hs) other latest all = (
    (λ e. other (held_where h.ending h.lease (runs_there h all.0 e) ∙ e)),
    each_two (Stands base lines library) (λ (g : LibraryLease). runs g.ending ≡ false) (λ (g : LibraryLease). g.lease ≢ suc k) hs (λ g s ended e. running_runs g.ending (runs_there g s e) ended) all.1 latest,
  )

  -- a new lease is held
  new_lane : (depth : ℕ) (lane : Lane) → x.library ≡ library → base ≤ k → held_lease lane.leases ≢ suc k → Ends base library lines (held_lease lane.leases) → IsLane base depth lines library lane
      → IsLane base depth lines library record { leases = new_lease (suc k) ∷ with_first_ending loss_ending lane.leases; items = lane.items; taken = lane.taken; filling = lane.filling; emptying = lane.emptying }
  new_lane depth lane whose above other ends is =
      let place : k ≡ suc k - 1 = omega arith in
      record {
        stands = (
          record {
            above = omega arith;
            line = x;
            at = subst (λ n. slice_get lines n ≡ Some x) place at;
            whose = whose;
            count = (is.others k x at above whose (none_there lane.leases other is.latest is.stands)).0;
            ending = inl ran;
          },
          lost_stands base library lines lane.leases ends is.stands,
        );
        latest = ended_all lane.leases is.latest;
        others = λ j l here low mine apart. lost_others base library lines lane.leases is.others j l here low mine apart.1;
        all = is.all;
        behind = is.behind;
        within = is.within;
      }

module _ (base libraries depth : ℕ) where
  -- The last line, of another library's or taken back by the engine, changes: y has as many sends where it is this library's.
  pub lane_on : (front : List Line) (x y : Line) (library : ℕ) (lane : Lane) → AreLines base libraries (front ++ x ∷ []) → GoesOn x y
      → (x.library ≢ library) ⊎ ((y.sends ≡ x.sends) × (y.ending ≡ TakenBack))
      → IsLane base depth (front ++ x ∷ []) library lane → IsLane base depth (front ++ y ∷ []) library lane
  lane_on front x y library lane are on other is =
      let low = running_above base libraries front x are on.ran in
      let alike = sent_alike library x y on.whose (⊎_elim (λ o. inl o) (λ t. inr t.0) other) in
      record {
        stands = each_map (Stands base (front ++ x ∷ []) library) (Stands base (front ++ y ∷ []) library) lane.leases (λ h. stands_on base library front x y h on other) is.stands;
        latest = is.latest;
        others = λ k l at above whose apart. ⊎_elim
            (λ here.
            let new = rest_last base library front x y lane.leases on other is.others k here.0 above (sym (ap (λ (m : Line). m.library) here.1) ∙ whose) apart in
            (ap (λ (m : Line). m.sends) here.1 ∙ new.0, subst (λ (m : Line). IsKept m.ending) (sym here.1) new.1))
            (λ before. is.others k l (get_push_before front x l k before.1) above whose apart)
            (get_push front y l k at);
        all = is.all ∙ (total_one_more base front x library low ∙ (ap (λ n. total library (granted_lines base front) + n) (sym alike) ∙ sym (total_one_more base front y library low)));
        behind = is.behind;
        within = is.within;
      }

  -- a session is granted
  pub lane_granted : (lines : List Line) (to library : ℕ) (lane : Lane) → base ≤ length lines → IsLane base depth lines library lane → IsLane base depth (lines ++ granted_line to ∷ []) library lane
  lane_granted lines to library lane low is =
      let z : Line = granted_line to in
      record {
        stands = each_map (Stands base lines library) (Stands base (lines ++ z ∷ []) library) lane.leases (λ h. stands_push base lines z library h) is.stands;
        latest = is.latest;
        others = λ k l at above whose apart. ⊎_elim
            (λ here. (ap (λ (m : Line). m.sends) here.1, subst (λ (m : Line). IsKept m.ending) (sym here.1) tt))
            (λ before. is.others k l before.1 above whose apart)
            (get_push lines z l k at);
        all = omega (arith, is.all, total_one_more base lines z library low, none_sent library to);
        behind = is.behind;
        within = is.within;
      }

  -- The library holds the last lease where its first one runs with that number. The line has the library's own count.
  pub held_line : (lines : List Line) (library : ℕ) (lane : Lane) → AreLines base libraries lines → IsLane base depth lines library lane → 0 < held_lease lane.leases
      → (held_lease lane.leases < length lines → EndsLease (held_lease lane.leases) (held_count lane.leases) (word_of lines))
      × (held_lease lane.leases ≤ length lines)
      × (held_lease lane.leases ≡ length lines → (front : List Line) × (x : Line) × (lines ≡ front ++ x ∷ []) × (x.library ≡ library) × (x.sends ≡ held_count lane.leases) × ((x.ending ≡ Running) ⊎ (x.ending ≡ TakenBack)))
  held_line lines library lane are is some =
      let n : ℕ = held_lease lane.leases in
      let s = held_stands base library lines lane.leases some is.stands in
      let within : n - 1 < length lines = slice_get_within lines (n - 1) s.line s.at in
      let more : 0 < length lines = omega arith in
      let t = as_front lines more in (
        (λ less. inl less),
        omega arith,
        λ last.
            let size : length lines ≡ length t.0 + 1 = ap length t.2 ∙ length-append t.0 (t.1 ∷ []) in
            let here : n - 1 ≡ length t.0 = omega arith in
            let same : s.line ≡ t.1 = line_here t.0 t.1 s.line (n - 1) here (subst (λ (ls : List Line). slice_get ls (n - 1) ≡ Some s.line) t.2 s.at) in (
              t.0,
              t.1,
              t.2,
              sym (ap (λ (l : Line). l.library) same) ∙ s.whose,
              sym (ap (λ (l : Line). l.sends) same) ∙ s.count,
              subst (λ (l : Line). (l.ending ≡ Running) ⊎ (l.ending ≡ TakenBack)) same s.ending,
            ),
      )

  -- the library sent by the last lease, which it holds
  pub lane_sent : (front : List Line) (x : Line) (library : ℕ) (item : Item) (lane : Lane) → AreLines base libraries (front ++ x ∷ []) → x.ending ≡ Running → x.library ≡ library → held_lease lane.leases ≡ suc (length front)
      → lane.filling ≡ 1 → IsLane base depth (front ++ x ∷ []) library lane
      → IsLane base depth (front ++ record { library = x.library; sends = x.sends + 1; ending = x.ending } ∷ []) library record { leases = with_one_send lane.leases; items = lane.items ++ item ∷ []; taken = lane.taken; filling = 0; emptying = lane.emptying }
  lane_sent front x library item lane are runs whose held filling is =
      let y : Line = record { library = x.library; sends = x.sends + 1; ending = x.ending } in
      let low = running_above base libraries front x are runs in
      let size : length (lane.items ++ item ∷ []) ≡ length lane.items + 1 = length-append lane.items (item ∷ []) in
      let old : total library (x ∷ []) ≡ x.sends = sent_own library x whose in
      let new : total library (y ∷ []) ≡ x.sends + 1 = sent_own library y whose in
      let before = total_one_more base front x library low in
      let after = total_one_more base front y library low in
      let all = is.all in
      let behind : lane.taken + lane.emptying ≤ length lane.items = is.behind in
      let within : length lane.items + lane.filling ≤ lane.taken + depth = is.within in
      record {
        stands = sent_stands base library front x y runs refl lane.leases runs refl held is.stands is.latest;
        latest = counted_latest lane.leases is.latest;
        others = sent_others base library front x y runs refl lane.leases held is.others;
        all = omega (arith, size, old, new, before, after, all);
        behind = omega (arith, size, behind);
        within = omega (arith, size, within, filling);
      }

  -- the library gave back the last lease, which it holds
  pub lane_given : (front : List Line) (x : Line) (library heir : ℕ) (lane : Lane) → AreLines base libraries (front ++ x ∷ []) → x.ending ≡ Running → x.library ≡ library → held_lease lane.leases ≡ suc (length front)
      → IsLane base depth (front ++ x ∷ []) library lane
      → IsLane base depth (front ++ record { library = x.library; sends = x.sends; ending = GivenBack heir } ∷ []) library record { leases = with_first_ending (release_ending heir) lane.leases; items = lane.items; taken = lane.taken; filling = lane.filling; emptying = lane.emptying }
  lane_given front x library heir lane are runs whose held is =
      let y : Line = record { library = x.library; sends = x.sends; ending = GivenBack heir } in
      let low = running_above base libraries front x are runs in
      let alike : total library (y ∷ []) ≡ total library (x ∷ []) = refl in
      record {
        stands = given_stands base library front x y runs refl lane.leases heir refl refl held is.stands is.latest;
        latest = ended_latest (release_ending heir) lane.leases is.latest;
        others = given_others base library front x y runs refl lane.leases heir held is.others;
        all = is.all ∙ (total_one_more base front x library low ∙ (ap (λ n. total library (granted_lines base front) + n) (sym alike) ∙ sym (total_one_more base front y library low)));
        behind = is.behind;
        within = is.within;
      }

  -- the library learns by a word that what it held is lost: the last line isn't that of its lease any more, or has ended
  pub lane_lost : (lines : List Line) (library : ℕ) (lane : Lane) → AreLines base libraries lines → (0 < held_lease lane.leases → EndsLease (held_lease lane.leases) (held_count lane.leases) (word_of lines)) → IsLane base depth lines library lane
      → IsLane base depth lines library record { leases = with_first_ending loss_ending lane.leases; items = lane.items; taken = lane.taken; filling = lane.filling; emptying = lane.emptying }
  lane_lost lines library lane are ends is = lost_lane base library lines depth lane
      (λ some l at whose.
      let n : ℕ = held_lease lane.leases in
      let some' : 0 < n = some in
      ⊎_elim
      (λ (less : n < length lines). are.ended (n - 1) l at (inl (omega arith)))
      (λ after_revoke.
      let size : length lines ≡ n = after_revoke.0 in
      let last = place_of_last no_line lines (n - 1) (omega arith) in
      revoked_ended l.ending (ap (λ (m : Line). standing_of m.ending) (one_line lines l (last_or no_line lines) (n - 1) at last) ∙ after_revoke.1))
      (ends some))
      is

  -- the lane with these leases
  abbrev With : ℕ → List Line → Lane → List LibraryLease → Type 0
  With library lines lane leases = IsLane base depth lines library record { leases = leases; items = lane.items; taken = lane.taken; filling = lane.filling; emptying = lane.emptying }

  -- what was held is lost where its line, if that is the last one, has ended
  lost_by : (lines : List Line) (library : ℕ) (lane : Lane) → AreLines base libraries lines → IsLane base depth lines library lane
      → (held_lease lane.leases ≡ length lines → (last_or no_line lines).library ≡ library → 0 < length lines → runs (last_or no_line lines).ending ≡ false)
      → Ends base library lines (held_lease lane.leases)
  lost_by lines library lane are is last some l at whose =
      let n : ℕ = held_lease lane.leases in
      let some' : 0 < n = some in
      let within : n - 1 < length lines = slice_get_within lines (n - 1) l at in
      ⊎_elim
      (λ (less : suc (n - 1) < length lines). are.ended (n - 1) l at (inl less))
      (λ (here : suc (n - 1) ≡ length lines).
      let same : l ≡ last_or no_line lines = one_line lines l (last_or no_line lines) (n - 1) at (place_of_last no_line lines (n - 1) here) in
      ap (λ (m : Line). runs m.ending) same ∙ last (omega arith) (sym (ap (λ (m : Line). m.library) same) ∙ whose) (omega arith))
      (below_or_last (n - 1) (length lines) within)

  seen_shown : (lines : List Line) (library : ℕ) (lane : Lane) → AreLines base libraries lines → IsLane base depth lines library lane
      → 0 < length lines → (last_or no_line lines).ending ≡ Running → (last_or no_line lines).library ≡ library
      → (c : Bool) → (held_lease lane.leases == length lines) ≡ c → With library lines lane (if c then lane.leases else new_lease (length lines) ∷ with_first_ending loss_ending lane.leases)
  seen_shown lines library lane are is some ran whose true same = is
  seen_shown lines library lane are is some ran whose false same =
      let x = last_or no_line lines in
      let k : ℕ = length lines - 1 in
      let size : suc k ≡ length lines = omega arith in
      let at = place_of_last no_line lines k size in
      let other = eqb_other (held_lease lane.leases) (length lines) same in
      let above : base ≤ k = ⊎_elim (λ low. absurd (running_runs x.ending ran (are.ended k x at (inr low)))) (λ high. high) (below_or_above k base) in
      subst (λ n. With library lines lane (new_lease n ∷ with_first_ending loss_ending lane.leases)) size
      (new_lane base library lines x k ran at depth lane whose above (λ e. other (e ∙ size)) (lost_by lines library lane are is (λ held. absurd (other held))) is)

  seen_by : (lines : List Line) (library : ℕ) (lane : Lane) → AreLines base libraries lines → IsLane base depth lines library lane
      → (b : Bool) → shows_lease library (word_of lines) ≡ b
      → With library lines lane (if b then (if held_lease lane.leases == length lines then lane.leases else new_lease (length lines) ∷ with_first_ending loss_ending lane.leases) else with_first_ending loss_ending lane.leases)
  seen_by lines library lane are is true shows =
      let x = last_or no_line lines in
      let p = shown_runs x.ending (length lines) x.library library shows in
      seen_shown lines library lane are is p.0 p.1 p.2 (held_lease lane.leases == length lines) refl
  seen_by lines library lane are is false shows =
      let x = last_or no_line lines in
      lost_lane base library lines depth lane (lost_by lines library lane are is (λ held whose some. not_shown x.ending (length lines) x.library library some whose shows)) is

  -- the library saw the word for which the lines stand
  pub lane_seen : (lines : List Line) (library : ℕ) (lane : Lane) → 1 ≤ library → AreLines base libraries lines → IsLane base depth lines library lane
      → IsLane base depth lines library record { leases = leases_after_see library (word_of lines) lane.leases; items = lane.items; taken = lane.taken; filling = lane.filling; emptying = lane.emptying }
  lane_seen lines library lane named are is = seen_by lines library lane are is (shows_lease library (word_of lines)) refl
