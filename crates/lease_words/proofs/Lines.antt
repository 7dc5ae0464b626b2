-- Lines of leases, the words that they stand for, and the words that they show.
use Rattle.std.proofs.Common.{◌≡◌, ◌≢◌, ℕ, zero, suc, ◌+◌, ◌-◌, ◌*◌, ◌<◌, ◌≤◌, ◌⊎◌, List, [], ◌∷◌, ◌++◌, length, Bool, true, false, refl, sym, ap, ◌∙◌, subst, inl, inr, ⊎_elim, cond, eqb, ltb, leb, ◌/◌, ◌%◌, arith, length-append, suc-mul}
use Rattle.std.specs.Prelude.{◌&&◌, slice_get, Some, None, bit_or, ◌^◌}
use Rattle.std.proofs.lemmas.Option.{slice_get_within}
use Rattle.std.proofs.lemmas.Bool.{and_parts, cond-true, cond-false, ltb-true, eq-eqb, ne_eqb, lt-ltb, le-leb}
use Rattle.std.proofs.lemmas.Nat.{div-mul-add, mod-mul-add}
use Rattle.std.proofs.lemmas.Nat.Bits.{and_pow}
use Rattle.std.proofs.Math.Nat.{div-div-eq-div-mul}
use Rattle.std.specs.Int.Bits.{or_add_and}
use Rattle.std.specs.Int.{bit_at}
use Rattle.lease_core.specs.declared.lease.Ending.{Ending}
use Rattle.lease_core.specs.declared.lease.Ending.TheVariants.{Running, GivenBack, TakenBack}
use Rattle.lease_core.specs.declared.lease.Line.{Line}
use Rattle.lease_core.specs.declared.word.Standing.{Standing}
use Rattle.lease_core.specs.declared.word.Standing.TheVariants.{Active, Released, Revoked}
use Rattle.lease_core.specs.declared.word.Word.{Word}
use Rattle.lease_core.specs.State.{last_or, with_last, owner_in}
use Rattle.lease_core.specs.Lines.{no_line, word_by, word_of, IsShown, raised, FitsLine, raised_line, raises, ending_by, heir_named, shown_owner, standing_of}
use Rattle.lease_core.specs.Word.{word_in, number_of, HasBothFlags}
use Rattle.lease_core.proofs.Words.{word_in-number, number-word_in}
use Rattle.lease_words.specs.Leases.{FitsHeir, is_active, runs, is_running, IsLineOf, AreLines, IsNotOlder, sends_of, total}
use Rattle.lease_words.specs.Views.{granted_lines}
use Rattle.lease_words.specs.Facts.{Follows}

pub length_push : (front : List Line) (x : Line) → length (front ++ x ∷ []) ≡ suc (length front)
length_push front x = omega (arith, length-append front (x ∷ []))

-- the last one of a list, and the list with its last one changed
module _ {X : Type 0} where
  pub last_of_push : (d : X) (front : List X) (x : X) → last_or d (front ++ x ∷ []) ≡ x
  last_of_push d [] x = refl
  last_of_push d (y ∷ ys) x = last_of_push y ys x

  pub with_last_of_push : (f : X → X) (front : List X) (x : X) → with_last f (front ++ x ∷ []) ≡ front ++ f x ∷ []
  with_last_of_push f [] x = refl
  with_last_of_push f (y ∷ []) x = refl
  with_last_of_push f (y ∷ z ∷ zs) x = ap (λ ws. y ∷ ws) (with_last_of_push f (z ∷ zs) x)

pub running_of_push : (front : List Line) (x : Line) → is_running (front ++ x ∷ []) ≡ runs x.ending
running_of_push [] x = refl
running_of_push (y ∷ ys) x = ap (λ (l : Line). runs l.ending) (last_of_push y ys x)

-- of the numbers below two ends, the last one is told from those before it
pub split_last : (C : Type 0) (k n : ℕ) → (suc k < n → C) → (suc k ≡ n → C) → (n ≤ k → C) → C
split_last C k zero before here past = past (omega arith)
split_last C zero (suc zero) before here past = here (omega arith)
split_last C zero (suc (suc n)) before here past = before (omega arith)
split_last C (suc k) (suc n) before here past = split_last C k n (λ h. before (omega arith)) (λ h. here (omega arith)) (λ h. past (omega arith))

-- the line may stand in another's place as the last one, which ran
pub record GoesOn (x y : Line) : Type 0 where
  pub ran : x.ending ≡ Running
  pub whose : y.library ≡ x.library
  pub more : x.sends ≤ y.sends

-- a list that isn't empty has a last one
pub as_front : (lines : List Line) → 0 < length lines → (front : List Line) × (x : Line) × (lines ≡ front ++ x ∷ [])
as_front [] some = absurd (omega arith)
as_front (x ∷ []) some = ([], x, refl)
as_front (x ∷ y ∷ ys) some = let f = as_front (y ∷ ys) (omega arith) in (x ∷ f.0, f.1, ap (λ ls. x ∷ ls) f.2)

pub word_of_push : (front : List Line) (x : Line) → word_of (front ++ x ∷ []) ≡ word_by (suc (length front)) x
word_of_push front x = let n : length (front ++ x ∷ []) ≡ suc (length front) = length_push front x in rw (n, last_of_push no_line front x) refl

-- where a place of a list with one more is
pub get_push_here : (front : List Line) (x : Line) → slice_get (front ++ x ∷ []) (length front) ≡ Some x
get_push_here [] x = refl
get_push_here (y ∷ ys) x = get_push_here ys x

-- the last of a list stands at its last place
last_at : (d : Line) (l : Line) (ls : List Line) → slice_get (l ∷ ls) (length ls) ≡ Some (last_or d (l ∷ ls))
last_at d l [] = refl
last_at d l (k ∷ ks) = last_at d k ks

fits_own : (ending : Ending) (l : Line) → l.ending ≡ ending → FitsLine (standing_of ending) (shown_owner ending l.library) l.sends l
fits_own Running l is = (refl, omega arith)
fits_own (GivenBack heir) l is = (ap standing_of is, refl, ap (λ e. shown_owner e l.library) (sym is))
fits_own TakenBack l is = (is, refl, refl)

-- the word that lines stand for is shown by them
pub words_shown : (lines : List Line) → IsShown lines (word_of lines)
words_shown [] = inl refl
words_shown (l ∷ ls) = inr (
  last_or no_line (l ∷ ls),
  record {
    lease = omega arith;
    line = let place : length (l ∷ ls) - 1 ≡ length ls = omega arith in rw place (last_at no_line l ls);
    fits = fits_own (last_or no_line (l ∷ ls)).ending (last_or no_line (l ∷ ls)) refl;
  },
)

pub get_push_before : (front : List Line) (x l : Line) (k : ℕ) → slice_get front k ≡ Some l → slice_get (front ++ x ∷ []) k ≡ Some l
get_push_before [] x l k at = absurd (let e : None ≡ Some l = at in cc)
get_push_before (y ∷ ys) x l zero at = at
get_push_before (y ∷ ys) x l (suc k) at = get_push_before ys x l k at

pub get_push : (front : List Line) (x l : Line) (k : ℕ) → slice_get (front ++ x ∷ []) k ≡ Some l → ((k ≡ length front) × (l ≡ x)) ⊎ ((k < length front) × (slice_get front k ≡ Some l))
get_push [] x l zero at = inl (refl, let e : Some x ≡ Some l = at in cc)
get_push [] x l (suc k) at = absurd (let e : None ≡ Some l = at in cc)
get_push (y ∷ ys) x l zero at = inr (omega arith, at)
get_push (y ∷ ys) x l (suc k) at = ⊎_elim (λ h. inl (ap suc h.0, h.1)) (λ h. inr (let less = h.0 in omega arith, h.1)) (get_push ys x l k at)

-- the line's own word raises it to itself
raised_own : (ending : Ending) (library sends : ℕ) → 0 < owner_in ending library → ending_by (standing_of ending) (shown_owner ending library) library ending ≡ ending
raised_own Running library sends some = refl
raised_own (GivenBack heir) library sends some = absurd (omega arith)
raised_own TakenBack library sends some = absurd (omega arith)

raised_line_own : (lease : ℕ) (l : Line) → 0 < owner_in l.ending l.library → raised_line (word_by lease l) l ≡ l
raised_line_own lease l some = ap (λ e. record { library = l.library; sends = l.sends; ending = e }) (raised_own l.ending l.library l.sends some)

with_last_own : (f : Line → Line) (d : Line) (lines : List Line) → f (last_or d lines) ≡ last_or d lines → with_last f lines ≡ lines
with_last_own f d [] same = refl
with_last_own f d (x ∷ []) same = ap (λ l. l ∷ []) same
with_last_own f d (x ∷ y ∷ ys) same = ap (λ ls. x ∷ ls) (with_last_own f x (y ∷ ys) same)

raises_active : (lines : List Line) (w : Word) → raises lines w ≡ true → 0 < owner_in (last_or no_line lines).ending (last_or no_line lines).library
raises_active lines w news = ltb-true 0 (owner_in (last_or no_line lines).ending (last_or no_line lines).library) (and_parts _ _ (and_parts _ _ news).0).1

pub raised_same : (lines : List Line) → raised lines (word_of lines) ≡ lines
unfolding raised
raised_same lines =
    elim (raises lines (word_of lines)) as (λ b. raises lines (word_of lines) ≡ b → cond b (with_last (raised_line (word_of lines)) lines) lines ≡ lines) [
      | true ↦ λ news. with_last_own (raised_line (word_of lines)) no_line lines (raised_line_own (length lines) (last_or no_line lines) (raises_active lines (word_of lines) news))
      | false ↦ λ old. refl
    ] refl

raises_on : (n m : ℕ) (was now : Line) → n ≡ m → was.ending ≡ Running → 1 ≤ was.library → was.sends ≤ now.sends → ((eqb n m && ltb 0 (owner_in was.ending was.library)) && leb was.sends now.sends) ≡ true
raises_on n m was now same ran some more = rw (ran, eq-eqb n m same, lt-ltb 0 was.library some, le-leb was.sends now.sends more) refl

heir_same : (heir library : ℕ) → heir ≢ library → heir_named (shown_owner (GivenBack heir) library) library ≡ heir
heir_same zero library other = cond-true (eqb library library) 0 library (eq-eqb library library refl)
heir_same (suc heir) library other =
    let named : shown_owner (GivenBack (suc heir)) library ≡ suc heir = cond-false (eqb (suc heir) 0) library (suc heir) (ne_eqb (suc heir) 0 (λ e. omega arith)) in
    ap (λ o. heir_named o library) named ∙ cond-false (eqb (suc heir) library) 0 (suc heir) (ne_eqb (suc heir) library other)

ending_on : (was now : Line) → was.ending ≡ Running → now.library ≡ was.library → IsLineOf 16 now → (now.ending ≡ Running) ⊎ ((heir : ℕ) × (now.ending ≡ GivenBack heir))
    → ending_by (standing_of now.ending) (shown_owner now.ending now.library) was.library was.ending ≡ now.ending
ending_on was now ran whose known (inl runs) = rw (runs, ran) refl
ending_on was now ran whose known (inr (heir, gives)) =
    let fits : FitsHeir 16 now.library (GivenBack heir) = subst (FitsHeir 16 now.library) gives known.heir in
    rw (gives, ← whose) (ap GivenBack (heir_same heir now.library fits.1))

raised_on : (front : List Line) (was now : Line) → was.ending ≡ Running → now.library ≡ was.library → was.sends ≤ now.sends → IsLineOf 16 now → (now.ending ≡ Running) ⊎ ((heir : ℕ) × (now.ending ≡ GivenBack heir))
    → raised (front ++ was ∷ []) (word_of (front ++ now ∷ [])) ≡ front ++ now ∷ []
unfolding raised
raised_on front was now ran whose more known ending =
    let w = word_by (suc (length front)) now in
    let some : 1 ≤ was.library = let f = known.from_one in omega arith in
    let news : raises (front ++ was ∷ []) w ≡ true = rw (length_push front was, last_of_push no_line front was) (raises_on (suc (length front)) (suc (length front)) was now refl ran some more) in
    let line : raised_line w was ≡ now = let e = ending_on was now ran whose known ending in
    ap (λ e. record { library = was.library; sends = now.sends; ending = e }) e
    ∙ ap (λ k. record { library = k; sends = now.sends; ending = now.ending }) (sym whose) in
    ap (λ v. raised (front ++ was ∷ []) v) (word_of_push front now)
    ∙ (cond-true (raises (front ++ was ∷ []) w) (with_last (raised_line w) (front ++ was ∷ [])) (front ++ was ∷ []) news
    ∙ (with_last_of_push (raised_line w) front was ∙ ap (λ l. front ++ l ∷ []) line))

-- what the engine sees makes its lines the session's
pub raised_follows : (base libraries : ℕ) (shown lines : List Line) → Follows shown lines → AreLines base libraries lines → raised shown (word_of lines) ≡ lines
raised_follows base libraries shown lines (inl same) are = rw same (raised_same lines)
raised_follows base libraries shown lines (inr on) are =
    let at : slice_get lines (length on.front) ≡ Some on.now = subst (λ ls. slice_get ls (length on.front) ≡ Some on.now) (sym on.after) (get_push_here on.front on.now) in
    let known = are.known (length on.front) on.now at in
    rw (on.before, on.after) (raised_on on.front on.was on.now on.ran on.whose on.more known on.kept_or_given)

-- where the engine's last line has ended, or there is none, nothing went on
pub follows_ended : (shown lines : List Line) → Follows shown lines → is_running shown ≡ false → shown ≡ lines
follows_ended shown lines (inl same) ended = same
follows_ended shown lines (inr on) ended = absurd (let e : true ≡ false = ap runs (sym on.ran) ∙ (sym (running_of_push on.front on.was) ∙ (ap is_running (sym on.before) ∙ ended)) in cc)

-- lines of as many leases, of the same libraries
pub follows_length : (shown lines : List Line) → Follows shown lines → length shown ≡ length lines
follows_length shown lines (inl same) = ap length same
follows_length shown lines (inr on) = ap length on.before ∙ (length_push on.front on.was ∙ (sym (length_push on.front on.now) ∙ ap length (sym on.after)))

pub follows_last : (shown lines : List Line) → Follows shown lines → ((last_or no_line shown).library ≡ (last_or no_line lines).library) × ((last_or no_line shown).sends ≤ (last_or no_line lines).sends)
follows_last shown lines (inl same) = rw same (refl, omega arith)
follows_last shown lines (inr on) = rw (on.before, on.after, last_of_push no_line on.front on.was, last_of_push no_line on.front on.now) (sym on.whose, on.more)

-- a last line that goes on still follows what the engine saw
pub follows_on : (shown front : List Line) (x y : Line) → Follows shown (front ++ x ∷ []) → GoesOn x y → (y.ending ≡ Running) ⊎ ((heir : ℕ) × (y.ending ≡ GivenBack heir)) → Follows shown (front ++ y ∷ [])
follows_on shown front x y (inl same) on ending = inr (record { front = front; was = x; now = y; before = same; after = refl; whose = on.whose; ran = on.ran; more = on.more; kept_or_given = ending })
follows_on shown front x y (inr was) on ending =
    let last : x ≡ was.now = sym (last_of_push no_line front x) ∙ (ap (last_or no_line) was.after ∙ last_of_push no_line was.front was.now) in
    let more : was.was.sends ≤ y.sends = let e : x.sends ≡ was.now.sends = ap (λ (l : Line). l.sends) last in omega (arith, e, was.more, on.more) in
    inr (record {
      front = was.front;
      was = was.was;
      now = y;
      before = was.before;
      after = sym (with_last_of_push (λ _. y) front x) ∙ (ap (with_last (λ _. y)) was.after ∙ with_last_of_push (λ _. y) was.front was.now);
      whose = on.whose ∙ (ap (λ (l : Line). l.library) last ∙ was.whose);
      ran = was.ran;
      more = more;
      kept_or_given = ending;
    })

-- what the line showed as it ran it shows as it goes on
pub fits_on : (standing : Standing) (owner count : ℕ) (x y : Line) → GoesOn x y → FitsLine standing owner count x → FitsLine standing owner count y
fits_on Active owner count x y on fits = (fits.0 ∙ sym on.whose, let a = fits.1 in let b = on.more in omega arith)
fits_on Released owner count x y on fits = absurd (let e : Active ≡ Released = ap standing_of (sym on.ran) ∙ fits.0 in cc)
fits_on Revoked owner count x y on fits = absurd (let e : Running ≡ TakenBack = sym on.ran ∙ fits.0 in cc)

-- words that were shown stay shown
pub shown_on : (front : List Line) (x y : Line) (w : Word) → GoesOn x y → IsShown (front ++ x ∷ []) w → IsShown (front ++ y ∷ []) w
shown_on front x y w on (inl opens) = inl opens
shown_on front x y w on (inr (l, by)) =
    ⊎_elim
    (λ h. inr (
      y,
      record {
        lease = by.lease;
        line = rw h.0 (get_push_here front y);
        fits = fits_on w.standing w.owner w.count x y on (subst (FitsLine w.standing w.owner w.count) h.1 by.fits);
      },
    ))
    (λ h. inr (l, record { lease = by.lease; line = get_push_before front y l (w.lease - 1) h.1; fits = by.fits }))
    (get_push front x l (w.lease - 1) by.line)

pub shown_push : (lines : List Line) (x : Line) (w : Word) → IsShown lines w → IsShown (lines ++ x ∷ []) w
shown_push lines x w (inl opens) = inl opens
shown_push lines x w (inr (l, by)) = inr (l, record { lease = by.lease; line = get_push_before lines x l (w.lease - 1) by.line; fits = by.fits })

-- the line at the last place is the last one
pub last_is : (d : Line) (lines : List Line) (l : Line) (k : ℕ) → slice_get lines k ≡ Some l → suc k ≡ length lines → last_or d lines ≡ l
last_is d [] l k at here = absurd (omega arith)
last_is d (x ∷ []) l zero at here = let e : Some x ≡ Some l = at in cc
last_is d (x ∷ y ∷ ys) l zero at here = absurd (omega arith)
last_is d (x ∷ []) l (suc k) at here = absurd (omega arith)
last_is d (x ∷ y ∷ ys) l (suc k) at here = last_is x (y ∷ ys) l k at (omega arith)

pub running_last : (lines : List Line) → 0 < length lines → is_running lines ≡ runs (last_or no_line lines).ending
running_last [] some = absurd (omega arith)
running_last (x ∷ xs) some = refl

pub last_ended : (lines : List Line) (l : Line) (k : ℕ) → slice_get lines k ≡ Some l → suc k ≡ length lines → is_running lines ≡ false → runs l.ending ≡ false
last_ended lines l k at here ended = ap (λ (x : Line). runs x.ending) (sym (last_is no_line lines l k at here)) ∙ (sym (running_last lines (omega arith)) ∙ ended)

pub fits_count : (standing : Standing) (owner count : ℕ) (l : Line) → FitsLine standing owner count l → count ≤ l.sends
fits_count Active owner count l fits = fits.1
fits_count Released owner count l fits = let e = fits.1 in omega arith
fits_count Revoked owner count l fits = let e = fits.1 in omega arith

-- the word of an ended line is the one that the line shows
fits_ended_by : (standing : Standing) (lease owner count : ℕ) (l : Line) → FitsLine standing owner count l → is_active standing ≡ false → word_by lease l ≡ record { lease = lease; owner = owner; standing = standing; count = count }
fits_ended_by Active lease owner count l fits not_active = absurd (let e : true ≡ false = not_active in cc)
fits_ended_by Released lease owner count l fits not_active = rw (fits.0, fits.1, fits.2) refl
fits_ended_by Revoked lease owner count l fits not_active = rw (fits.0, fits.1, fits.2) refl

pub fits_ended : (w : Word) (l : Line) → FitsLine w.standing w.owner w.count l → is_active w.standing ≡ false → word_by w.lease l ≡ w
fits_ended w l fits not_active = fits_ended_by w.standing w.lease w.owner w.count l fits not_active

-- a shown word is no newer than the one that the lines stand for
pub shown_not_newer : (lines : List Line) (w : Word) → IsShown lines w → IsNotOlder w (word_of lines)
shown_not_newer lines w (inl opens) = rw opens (record { lease = omega arith; count = λ _. omega arith; ended = λ _ not_active. absurd (let e : true ≡ false = not_active in cc) })
shown_not_newer lines w (inr (l, by)) =
    let within = slice_get_within lines (w.lease - 1) l by.line in
    let some = by.lease in
    let last : w.lease ≡ length lines → last_or no_line lines ≡ l = λ same. last_is no_line lines l (w.lease - 1) by.line (omega arith) in
    record {
      lease = omega arith;
      count = λ same. subst (λ (x : Line). w.count ≤ x.sends) (sym (last same)) (fits_count w.standing w.owner w.count l by.fits);
      ended = λ same not_active. rw (last same, ← same) (fits_ended w l by.fits not_active);
    }

-- a running last line stands above the base
pub running_above : (base libraries : ℕ) (front : List Line) (x : Line) → AreLines base libraries (front ++ x ∷ []) → x.ending ≡ Running → base ≤ length front
running_above base libraries front x are ran =
    let not_below : length front < base → ⊥ = λ low. let e : true ≡ false = ap runs (sym ran) ∙ are.ended (length front) x (get_push_here front x) (inr low) in cc in
    omega (arith, not_below)

pub lines_on : (base libraries : ℕ) (front : List Line) (x y : Line) → AreLines base libraries (front ++ x ∷ []) → GoesOn x y → IsLineOf 16 y → IsLineOf libraries y → AreLines base libraries (front ++ y ∷ [])
lines_on base libraries front x y are on small here =
    let n = length_push front x in
    let m = length_push front y in
    let above = running_above base libraries front x are on.ran in
    record {
      based = let b = are.based in omega arith;
      few = let f = are.few in omega arith;
      ended = λ k l at low. ⊎_elim
          (λ h. absurd (let e = h.0 in ⊎_elim (λ c. omega arith) (λ c. omega arith) low))
          (λ h. are.ended k l (get_push_before front x l k h.1) (⊎_elim (λ c. inl (omega arith)) (λ c. inr c) low))
          (get_push front y l k at);
      known = λ k l at. ⊎_elim (λ h. subst (IsLineOf 16) (sym h.1) small) (λ h. are.known k l (get_push_before front x l k h.1)) (get_push front y l k at);
      here = λ k l at low. ⊎_elim (λ h. subst (IsLineOf libraries) (sym h.1) here) (λ h. are.here k l (get_push_before front x l k h.1) low) (get_push front y l k at);
    }

pub lines_push : (base libraries : ℕ) (lines : List Line) (y : Line) → AreLines base libraries lines → is_running lines ≡ false → length lines < 16777215 → IsLineOf 16 y → IsLineOf libraries y → AreLines base libraries (lines ++ y ∷ [])
lines_push base libraries lines y are ended room small here =
    let n = length_push lines y in
    record {
      based = let b = are.based in omega arith;
      few = omega arith;
      ended = λ k l at low. ⊎_elim
          (λ h. absurd (let e = h.0 in let b = are.based in ⊎_elim (λ c. omega arith) (λ c. omega arith) low))
          (λ h. ⊎_elim
          (λ c. split_last (runs l.ending ≡ false) k (length lines) (λ d. are.ended k l h.1 (inl d)) (λ d. last_ended lines l k h.1 d ended) (λ d. let e = h.0 in absurd (omega arith)))
          (λ c. are.ended k l h.1 (inr c))
          low)
          (get_push lines y l k at);
      known = λ k l at. ⊎_elim (λ h. subst (IsLineOf 16) (sym h.1) small) (λ h. are.known k l h.1) (get_push lines y l k at);
      here = λ k l at low. ⊎_elim (λ h. subst (IsLineOf libraries) (sym h.1) here) (λ h. are.here k l h.1 low) (get_push lines y l k at);
    }

pub granted_push : (base : ℕ) (front : List Line) (x : Line) → base ≤ length front → granted_lines base (front ++ x ∷ []) ≡ granted_lines base front ++ x ∷ []
granted_push zero front x low = refl
granted_push (suc base) [] x low = absurd (omega arith)
granted_push (suc base) (l ∷ ls) x low = granted_push base ls x (omega arith)

pub total_push : (library : ℕ) (front : List Line) (x : Line) → total library (front ++ x ∷ []) ≡ total library front + total library (x ∷ [])
total_push library [] x = omega arith
total_push library (l ∷ ls) x = omega (arith, total_push library ls x)

pub sends_le : (library : ℕ) (l : Line) → sends_of library l ≤ l.sends
sends_le library l = elim (eqb l.library library) as (λ b. cond b l.sends 0 ≤ l.sends) [ true ↦ omega arith | false ↦ omega arith ]

pub total_each : (m library : ℕ) (lines : List Line) → ((k : ℕ) (l : Line) → slice_get lines k ≡ Some l → l.sends ≤ m) → total library lines ≤ length lines * m
total_each m library [] small = omega arith
total_each m library (l ∷ ls) small =
    let first : sends_of library l ≤ m = let a = sends_le library l in let b = small 0 l refl in omega arith in
    let rest = total_each m library ls (λ k x at. small (suc k) x at) in
    let more : suc (length ls) * m ≡ length ls * m + m = suc-mul (length ls) m in
    rw more (omega arith)

pub total_granted : (library base : ℕ) (lines : List Line) → total library (granted_lines base lines) ≤ total library lines
total_granted library zero lines = omega arith
total_granted library (suc base) [] = omega arith
total_granted library (suc base) (l ∷ ls) = omega (arith, total_granted library base ls)

-- no lane has more than 2^56 items
pub total_small : (base libraries library : ℕ) (lines : List Line) → AreLines base libraries lines → total library (granted_lines base lines) < 2 ^ 56
total_small base libraries library lines are =
    let each = total_each 4294967295 library lines (λ k l at. let f = (are.known k l at).few in omega arith) in
    let part = total_granted library base lines in
    let few = are.few in
    omega arith

-- A word of the last line, as the table has it.
pub word_parts : (w : Word) → w.owner < 64 → w.count < 2 ^ 32 → word_in (number_of w) ≡ w
word_parts w owner count = word_in-number w owner count

both_released : (n : ℕ) → HasBothFlags n → (word_in n).standing ≡ Released
unfolding word_in
both_released n both = rw both.0 refl

-- an active word is no other number's
pub active_number : (n : ℕ) → is_active (word_in n).standing ≡ true → number_of (word_in n) ≡ n
active_number n active = number-word_in n (λ both. let e : is_active Released ≡ true = subst (λ s. is_active s ≡ true) (both_released n both) active in let no : false ≡ true = e in cc)

-- the word with the flag of the engine's taking back
abbrev pub revoked_standing : Standing → Standing
revoked_standing Active = Revoked
revoked_standing Released = Released
revoked_standing Revoked = Revoked

revoked_of : (p q : Bool) → cond p Released Revoked ≡ revoked_standing (cond p Released (cond q Revoked Active))
revoked_of true q = refl
revoked_of false true = refl
revoked_of false false = refl

-- a number with the parts of another but for the flag
set_of : (n o : ℕ) → o / 2 ^ 40 ≡ n / 2 ^ 40 → o / 2 ^ 34 % 64 ≡ n / 2 ^ 34 % 64 → o / 2 ^ 32 % 2 ≡ n / 2 ^ 32 % 2 → o / 2 ^ 33 % 2 ≡ 1 → o % 2 ^ 32 ≡ n % 2 ^ 32
    → word_in o ≡ record { lease = (word_in n).lease; owner = (word_in n).owner; standing = revoked_standing (word_in n).standing; count = (word_in n).count }
unfolding word_in
set_of n o lease owner released after_revoke count =
    let standing : cond (eqb (o / 2 ^ 32 % 2) 1) Released (cond (eqb (o / 2 ^ 33 % 2) 1) Revoked Active) ≡ revoked_standing (cond (eqb (n / 2 ^ 32 % 2) 1) Released (cond (eqb (n / 2 ^ 33 % 2) 1) Revoked Active)) =
    ap (λ b. cond (eqb (o / 2 ^ 32 % 2) 1) Released (cond (eqb b 1) Revoked Active)) after_revoke
    ∙ (ap (λ a. cond (eqb a 1) Released Revoked) released ∙ revoked_of (eqb (n / 2 ^ 32 % 2) 1) (eqb (n / 2 ^ 33 % 2) 1)) in
    λ i. record { lease = lease i; owner = owner i; standing = standing i; count = count i }

-- what stands above the count, with the flag
above_set : (a : ℕ) → a / 2 % 2 ≡ 0 → ((a + 2) / 256 ≡ a / 256) × ((a + 2) / 4 ≡ a / 4) × ((a + 2) % 2 ≡ a % 2) × ((a + 2) / 2 % 2 ≡ 1)
above_set a unset = (omega arith, omega arith, omega arith, omega arith)

set_parts : (n o b : ℕ) → n / 2 ^ 33 % 2 ≡ b → b < 2 → o + b * 2 ^ 33 ≡ n + 2 ^ 33
    → word_in o ≡ record { lease = (word_in n).lease; owner = (word_in n).owner; standing = revoked_standing (word_in n).standing; count = (word_in n).count }
set_parts n o zero bit two made =
    let a = n / 2 ^ 32 in
    let whole : n ≡ a * 2 ^ 32 + n % 2 ^ 32 = omega arith in
    let low : n % 2 ^ 32 < 2 ^ 32 = omega arith in
    let sum : o ≡ (a + 2) * 2 ^ 32 + n % 2 ^ 32 = omega arith in
    let high : o / 2 ^ 32 ≡ a + 2 = ap (λ m. m / 2 ^ 32) sum ∙ div-mul-add (a + 2) (2 ^ 32) (n % 2 ^ 32) low in
    let unset : a / 2 % 2 ≡ 0 = ap (λ m. m % 2) (div-div-eq-div-mul n (2 ^ 32) 2) ∙ bit in
    let parts = above_set a unset in
    set_of n o
    (sym (div-div-eq-div-mul o (2 ^ 32) 256) ∙ (ap (λ m. m / 256) high ∙ (parts.0 ∙ div-div-eq-div-mul n (2 ^ 32) 256)))
    (ap (λ m. m % 64) (sym (div-div-eq-div-mul o (2 ^ 32) 4) ∙ (ap (λ m. m / 4) high ∙ (parts.1 ∙ div-div-eq-div-mul n (2 ^ 32) 4))))
    (ap (λ m. m % 2) high ∙ parts.2)
    (ap (λ m. m % 2) (sym (div-div-eq-div-mul o (2 ^ 32) 2) ∙ ap (λ m. m / 2) high) ∙ parts.3)
    (ap (λ m. m % 2 ^ 32) sum ∙ mod-mul-add (a + 2) (2 ^ 32) (n % 2 ^ 32) low)
set_parts n o (suc zero) bit two made =
    let same : o ≡ n = omega arith in
    set_of n o (ap (λ m. m / 2 ^ 40) same) (ap (λ m. m / 2 ^ 34 % 64) same) (ap (λ m. m / 2 ^ 32 % 2) same) (ap (λ m. m / 2 ^ 33 % 2) same ∙ bit) (ap (λ m. m % 2 ^ 32) same)
set_parts n o (suc (suc b)) bit two made = absurd (omega arith)

pub or_bit : (n : ℕ) → bit_or n (2 ^ 33) + bit_at n 33 * 2 ^ 33 ≡ n + 2 ^ 33
or_bit n = ap (λ k. bit_or n (2 ^ 33) + k) (sym (and_pow n 33)) ∙ or_add_and n (2 ^ 33)

pub revoked_word : (n : ℕ) → n < 2 ^ 64 → word_in (bit_or n (2 ^ 33)) ≡ record { lease = (word_in n).lease; owner = (word_in n).owner; standing = revoked_standing (word_in n).standing; count = (word_in n).count }
revoked_word n small =
    let bit = or_bit n in
    let two : bit_at n 33 < 2 = omega arith in
    set_parts n (bit_or n (2 ^ 33)) (bit_at n 33) refl two bit
